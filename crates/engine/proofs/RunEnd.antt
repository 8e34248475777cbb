-- What stands at the end of a run is known at the opening of the next one.
use Rattle.std.proofs.Common.{ℕ, ◌≡◌, List, [], ◌∷◌, get_or, Option, Some, None, is_some, true, refl, sym, ap, ◌∙◌, subst}
use Rattle.std.specs.Prelude.{IfSome, option_map}
use Rattle.std.proofs.lemmas.Bool.{false≢true}
use Rattle.model.specs.declared.steps.Step.{Step}
use Rattle.model.specs.state.State.{Slot, State}
use Rattle.model.specs.state.KindSets.{kind_sets_of}
use Rattle.model.specs.shown.Outcome.{BodyMeaning}
use Rattle.model.specs.steps.Schedule.{Schedule, Recorded, recording}
use Rattle.model.specs.steps.Lawful.{syncs_in}
use Rattle.executor_core.specs.Stands.{AreMeetings, Stand, Stands}
use Rattle.executor_core.specs.Traces.{latest_list}
use Rattle.worker_pool.specs.JobOut.{JobOut}
use Rattle.engine.specs.Deferred.{DeferredValue}
use Rattle.engine.specs.Jobs.{woven}
use Rattle.engine.specs.Stage.{Stage}
use Rattle.engine.proofs.SameArchetypes.{sets_last}
use Rattle.engine.specs.Latest.{IsFollowing}

-- a core stands for the kind sets recorded last
pub meetings_of : (core : Stand) (sets : Option (List (List ℕ))) (h : List Step) → Stands core sets h → IfSome (option_map (λ lists. get_or lists (syncs_in h) []) sets) (AreMeetings core)
meetings_of core None h stands = tt
meetings_of core (Some lists) h stands = record { meets = stands.meets; clashes = stands.clashes; due = λ there e. (stands.due there e).1 }

-- where kind sets are recorded the latest of them are those that are there
pub latest_there : {B : Type 0} (width : ℕ) (s : Schedule) (sets : Option (List (List ℕ))) (bodies : List BodyMeaning) (start : State) (h : List Step) (state : State) (deferred : DeferredValue) (out : List (JobOut B)) →
    is_some sets ≡ true → Stage width (recording s sets) bodies start h state deferred out →
    option_map (λ lists. get_or lists (syncs_in h) []) sets ≡ Some (kind_sets_of state.world.slots)
latest_there width s None bodies start h state deferred out records stage = absurd (false≢true records)
latest_there width s (Some lists) bodies start h state deferred out records stage =
    ap Some (sets_last (recording s (Some lists)) bodies start h (woven state deferred out) (get_or lists (syncs_in h) []) refl stage.sets stage.meaning)

-- a core that has taken no step yet knows who meets whom in the kind sets at the opening
pub meetings_first : (core : Stand) (sets : List ℕ) → Stands core (Some (sets ∷ [])) [] → AreMeetings core sets
meetings_first core sets stands = meetings_of core (Some (sets ∷ [])) [] stands

-- after a run a core goes on with the kind sets that were recorded last
pub following_on : (core : Stand) (s : Schedule) (r : Recorded) (sets : List ℕ) (slots : List Slot) → core.schedule ≡ s → Stands core r.sets r.steps →
    latest_list r ≡ Some (kind_sets_of slots) → Some sets ≡ latest_list r → IsFollowing core s sets slots
following_on core s r sets slots same stands latest kept = record {
  knows = record {
    schedule = same;
    meetings = subst (λ (o : Option (List ℕ)). IfSome o (AreMeetings core)) (sym kept) (meetings_of core r.sets r.steps stands);
  };
  there = let e : ◌≡◌ {A = Option (List ℕ)} (Some sets) (Some (kind_sets_of slots)) = kept ∙ latest in cc;
}
