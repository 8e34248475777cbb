-- Witnesses of races: two complete lawful lists of one run, in which two that race come in either order, and what they leave.
use Rattle.std.specs.Prelude.{ℕ, ◌≡◌, ◌==◌, Bool, true, false, cond, not, List, [], ◌∷◌, reverse, string_bytes}
use Rattle.ambiguity_report.specs.declared.races.Racer.{Racer}
use Rattle.ambiguity_report.specs.declared.races.Racer.TheVariants.{System, Condition}
use Rattle.ambiguity_report.specs.declared.report.Pair.{Pair}
use Rattle.model.specs.declared.steps.Step.{Step}
use Rattle.model.specs.declared.steps.Step.TheVariants.{Cond, Start, Skip, Finish, Sync}
use Rattle.model.specs.runs.Replays.{IsReplayed}
use Rattle.model.specs.shown.Outcome.{BodyMeaning}
use Rattle.model.specs.state.State.{State}
use Rattle.model.specs.steps.Schedule.{Schedule, Recorded, recording}
use Rattle.state_lines.specs.WorldText.{world_text}
use Rattle.findings.specs.declared.witness.RunOutcome.{RunOutcome}
use Rattle.findings.specs.declared.witness.Witness.{Witness}

-- whether a system starts or is skipped by a step
abbrev pub begins : ℕ → Step → Bool
begins n (Start m) = m == n
begins n (Skip m) = m == n
begins n (Cond c answer) = false
begins n (Finish m) = false
begins n (Sync k) = false

-- whether a condition is asked by a step
abbrev pub asks : ℕ → Step → Bool
asks c (Cond d answer) = d == c
asks c (Start n) = false
asks c (Skip n) = false
asks c (Finish n) = false
asks c (Sync k) = false

-- whether a step is that of what races with a system
abbrev pub is_of_racer : Racer → Step → Bool
is_of_racer (System m) step = begins m step
is_of_racer (Condition c) step = asks c step

-- whether of what races and a system that comes first which is to: the system where they are swapped
abbrev pub is_in_turn : Racer → ℕ → Bool → List Step → Bool
is_in_turn r n swapped [] = false
is_in_turn r n swapped (step ∷ steps) = cond (is_of_racer r step) (not swapped) (cond (begins n step) swapped (is_in_turn r n swapped steps))

-- the text is that of the world that a recorded run of this number leaves: it is lawful and complete, with true answers, and its meaning, interleaved and
-- serial, is that world
pub record IsLeftBy (s : Schedule) (bodies : List BodyMeaning) (start : State) (number : ℕ) (r : Recorded) (text : List ℕ) : Type 0 where
  pub final : State
  pub replayed : IsReplayed (recording s r.sets) bodies start r.steps final
  pub world : text ≡ world_text number final

-- a list of the run of this number from a state, with the text of the world that it leaves, in which of a pair the first, or where they are swapped the system,
-- comes first
pub record IsOutcome (s : Schedule) (bodies : List BodyMeaning) (start : State) (number : ℕ) (r : Racer) (n : ℕ) (swapped : Bool) (t : RunOutcome) : Type 0 where
  pub order : is_in_turn r n swapped (reverse t.list.steps) ≡ true
  pub left : IsLeftBy s bodies start number t.list (string_bytes t.world)

-- both lists of a pair
pub record IsWitness (s : Schedule) (bodies : List BodyMeaning) (start : State) (number : ℕ) (p : Pair) (w : Witness) : Type 0 where
  pub before : IsOutcome s bodies start number p.first p.second false w.before
  pub behind : IsOutcome s bodies start number p.first p.second true w.behind
