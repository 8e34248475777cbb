-- An engine that is put back: what suited it before a run suits it again.
use Rattle.std.proofs.Common.{ℕ, ◌≡◌, Bool, IsTrue, List, Option, Result, Err, sym, subst}
use Rattle.model.specs.access.Access.{Params}
use Rattle.model.specs.state.State.{State}
use Rattle.model.specs.shown.Outcome.{BodyMeaning}
use Rattle.model.specs.steps.Schedule.{Schedule}
use Rattle.engine.specs.Meanings.{meanings, AllKeepWithin, AreFit, HasMemories, Suits}
use Rattle.engine.specs.Stops.{StopsAs}
use Rattle.engine.specs.declared.faults.RunFault.{RunFault}
use Rattle.engine.specs.declared.faults.RunFault.TheVariants as fault
use Rattle.engine.proofs.Stops.{one-fault}

-- a worker is wanting only where there are threads
pub worker_there : {T : Type 0} (there : Bool) (width : ℕ) (s : Schedule) (bodies : List BodyMeaning) (times : ℕ) (w : State) (told : RunFault) → StopsAs there width s bodies times w told →
    ◌≡◌ {A = Result T RunFault} (Err told) (Err fault.NoWorker) → IsTrue there
worker_there there width s bodies times w told h e = subst (StopsAs there width s bodies times w) (one-fault e) h

module _ {B : Type 0} (s s' : Schedule) (slots old : List (Option B)) (schedule : s' ≡ s) where
  pub suits_again : (fits : B → Params → Bool) (w w' : State) → w' ≡ w → AreFit fits s slots → Suits fits s old w → Suits fits s' slots w'
  suits_again fits w w' state fit suits = subst (λ t. Suits fits t slots w') (sym schedule) (record {
    body_count = fit.body_count;
    memories = subst (HasMemories s) (sym state) suits.memories;
    fit = fit.fit;
  })

  pub keep_again : (meaning : B → Params → BodyMeaning) → meanings meaning s slots ≡ meanings meaning s old → AllKeepWithin s (meanings meaning s old) → AllKeepWithin s' (meanings meaning s' slots)
  keep_again meaning same keep = subst (λ t. AllKeepWithin t (meanings meaning t slots)) (sym schedule) (subst (AllKeepWithin s) (sym same) keep)
