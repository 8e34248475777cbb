-- What lockstep asks of a session holds of each that isn't lost.
use Rattle.std.proofs.Common.{◌≡◌, ◌⊎◌, ◌≢◌, ℕ, List, [], ◌∷◌, inl, inr}
use Rattle.std.specs.List.{AllByRecursion}
use Rattle.std.proofs.lemmas.Bool.{cases_eq}
use Rattle.model.specs.access.Access.{Params}
use Rattle.model.specs.state.Shape.{IsStateOf}
use Rattle.model.specs.state.State.{State}
use Rattle.model.specs.steps.Built.{IsBuilt}
use Rattle.model.specs.steps.Schedule.{Schedule}
use Rattle.model.specs.shown.Outcome.{BodyMeaning}
use Rattle.kinds.specs.Components.{widths}
use Rattle.body.specs.Steps.{HasShape}
use Rattle.engine.specs.Meanings.{AllKeepWithin, HasMemories, LacksMemories}
use Rattle.engine.proofs.RunAgreement.{state_of_schedule}
use Rattle.engine.proofs.BodiesWithin.{bodies_keep}
use Rattle.session.specs.Live.{Live, meant_in, state_in}
use Rattle.session.specs.Lockstep.{IsReady}

-- two numbers that don't differ are equal
same_number : (m n : ℕ) → (m ≢ n → ⊥) → m ≡ n
same_number m n alike = go (cases_eq m n)
  where
    go : (m ≡ n) ⊎ (m ≢ n) → m ≡ n
    go (inl same) = same
    go (inr differ) = absurd (alike differ)

-- a state that doesn't lack the memories of a schedule has them
not_lacking : (s : Schedule) (w : State) → (LacksMemories s w → ⊥) → HasMemories s w
not_lacking s w lacks = record {
  systems = same_number _ _ (λ differ. lacks (inl differ));
  conditions = same_number _ _ (λ differ. lacks (inr (inl differ)));
  system_readers = λ n known. same_number _ _ (λ differ. lacks (inr (inr (inl (n, known, differ)))));
  condition_readers = λ c known. same_number _ _ (λ differ. lacks (inr (inr (inr (c, known, differ)))));
}

-- so what is kept is of the schedule
kept_of_schedule : (s : Schedule) (marks : List (List ℕ × State)) → AllByRecursion (λ (mark : List ℕ × State). LacksMemories s mark.1 → ⊥) marks →
    AllByRecursion (λ (mark : List ℕ × State). HasShape mark.1) marks → AllByRecursion (λ (mark : List ℕ × State). IsStateOf widths s mark.1) marks
kept_of_schedule s [] kept shapes = tt
kept_of_schedule s (mark ∷ marks) kept shapes =
    (state_of_schedule s mark.1 (not_lacking s mark.1 kept.0) shapes.0, kept_of_schedule s marks kept.1 shapes.1)

-- a session of parts
pub ready_by : {B : Type 0} (meaning : B → Params → BodyMeaning) (live : Live B) → IsBuilt live.engine.schedule →
    AllKeepWithin live.engine.schedule (meant_in meaning live) → HasMemories live.engine.schedule (state_in live) → HasShape (state_in live) →
    AllByRecursion (λ (mark : List ℕ × State). LacksMemories live.engine.schedule mark.1 → ⊥) live.marks →
    AllByRecursion (λ (mark : List ℕ × State). HasShape mark.1) live.marks → IsReady meaning live
ready_by meaning live built keep has shape kept shapes = record {
  built = built;
  within = bodies_keep live.engine.schedule (meant_in meaning live) keep;
  state = state_of_schedule live.engine.schedule (state_in live) has shape;
  kept = kept_of_schedule live.engine.schedule live.marks kept shapes;
}
