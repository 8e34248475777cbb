-- A list of a witness.
use Rattle.std.proofs.Common.{◌≡◌, ℕ, Bool, true, List, reverse, ap, ◌∙◌, string_bytes}
use Rattle.std.proofs.lemmas.List.{reverse-reverse}
use Rattle.ambiguity_report.specs.declared.races.Racer.{Racer}
use Rattle.model.specs.declared.steps.Step.{Step}
use Rattle.model.specs.shown.Outcome.{BodyMeaning}
use Rattle.model.specs.state.State.{State}
use Rattle.model.specs.steps.Schedule.{Schedule}
use Rattle.findings.specs.declared.witness.RunOutcome.{RunOutcome}
use Rattle.findings.specs.Witness.{IsLeftBy, IsOutcome, is_in_turn}

-- its steps are in the order that they say from the first on
pub told : (s : Schedule) (bodies : List BodyMeaning) (start : State) (number : ℕ) (r : Racer) (n : ℕ) (swapped : Bool) (t : RunOutcome) (steps : List Step) → t.list.steps ≡ reverse steps → is_in_turn r n swapped steps ≡ true
    → IsLeftBy s bodies start number t.list (string_bytes t.world) → IsOutcome s bodies start number r n swapped t
told s bodies start number r n swapped t steps listed order left = record { order = ap (is_in_turn r n swapped) (ap reverse listed ∙ reverse-reverse steps) ∙ order; left = left }
