-- What an input leaves of an engine, and what its faults mean.
use Rattle.std.proofs.Common.{◌≡◌, Bool, List, Option, inl, inr, Result, Ok, Err}
use Rattle.std.specs.Prelude.{IsErrAnd, IsErrOf}
use Rattle.model.specs.access.Access.{Params}
use Rattle.model.specs.state.State.{State}
use Rattle.model.specs.steps.Schedule.{Schedule}
use Rattle.model.specs.sessions.Inputs.{Input, after_input}
use Rattle.body.specs.Inputs.{IsPutFault}
use Rattle.body.specs.declared.input.PutFault.{PutFault}
use Rattle.body.specs.declared.input.PutFault.TheVariants as put
use Rattle.engine.specs.declared.faults.InputFault.{InputFault}
use Rattle.engine.specs.declared.faults.InputFault.TheVariants as fault
use Rattle.engine.specs.Inputs.{fault_of_put, IsInputFault}
use Rattle.engine.specs.Meanings.{Suits}

-- a fault of the state is one of the engine
pub put_fault : (input : Input) (w : State) (told : PutFault) → IsPutFault input w told → IsInputFault input w (fault_of_put told)
put_fault input w put.Memory h = tt
put_fault input w put.NoTick h = inl h
put_fault input w put.NoEventNumber h = inr h
put_fault input w put.NoIds h = h

-- which never says that the engine is spoiled
pub never_spoiled : {T : Type 0} (r : Result T InputFault) (told : PutFault) → IsErrAnd r (λ x. x ≡ fault_of_put told) → IsErrOf r fault.Spoiled → ⊥
never_spoiled (Ok x) told is h = absurd is
never_spoiled (Err e) put.Memory is h = cc
never_spoiled (Err e) put.NoTick is h = cc
never_spoiled (Err e) put.NoEventNumber is h = cc
never_spoiled (Err e) put.NoIds is h = cc

-- bodies and memories suit the state after an input as they suited the one before
pub suits_put : {B : Type 0} (fits : B → Params → Bool) (s : Schedule) (slots : List (Option B)) (input : Input) (w : State) → Suits fits s slots w → Suits fits s slots (after_input input w)
suits_put fits s slots input w h = record {
  body_count = h.body_count;
  memories = record {
    systems = h.memories.systems;
    conditions = h.memories.conditions;
    system_readers = h.memories.system_readers;
    condition_readers = h.memories.condition_readers;
  };
  fit = h.fit;
}
