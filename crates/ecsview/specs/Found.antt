-- The texts of what is found on a file: witnesses of its races, where two records part, and the worlds of recorded runs.
use Rattle.std.specs.Prelude.{ℕ, ◌-◌, ◌≡◌, List, [], ◌∷◌, ◌++◌, codes, decimal, length, map, Option, Some, None, IfSome}
use Rattle.ambiguity_report.specs.Report.{IsReport}
use Rattle.ambiguity_report.specs.declared.report.Pair.{Pair}
use Rattle.findings.specs.Behind.{IsBehind}
use Rattle.findings.specs.Parting.{AreAllReplayed, IsDifferenceOf, IsParting}
use Rattle.findings.specs.Stories.{IsStory, count_text}
use Rattle.findings.specs.Texts.{IsPartingText, IsWitnessText, pair_text}
use Rattle.findings.specs.Witness.{IsWitness}
use Rattle.findings.specs.declared.diverging.Parting.{Parting}
use Rattle.findings.specs.declared.diverging.Parting.TheVariants as parting
use Rattle.findings.specs.declared.diverging.Place.{Place}
use Rattle.findings.specs.declared.witness.Witness.{Witness}
use Rattle.model.specs.shown.Outcome.{BodyMeaning}
use Rattle.model.specs.state.Loaded.{loaded}
use Rattle.model.specs.state.State.{State}
use Rattle.model.specs.steps.Schedule.{Schedule, Recorded}
use Rattle.program.specs.Load.{entity_given}
use Rattle.program.specs.Setup.{meanings_of_scripts}
use Rattle.program.specs.declared.loading.Loaded.{Loaded}
use Rattle.trace_checker.specs.Grammar.{trace_text}

-- ---- a file

-- the state with which the first run of a file begins
abbrev pub first_of : Loaded → State
first_of l = loaded l.built (map entity_given l.entities.items) l.resources

-- what the scripts of a file mean
abbrev pub meanings_of : Loaded → List BodyMeaning
meanings_of l = meanings_of_scripts l.built l.bodies.items

-- ---- races

-- what is said of a pair in the run of this number: its witness, or that none was found
abbrev pub IsFindingText : List (List ℕ) → ℕ → Pair → Option Witness → List ℕ → Type 0
IsFindingText names number pair None text = text ≡ codes "-- no witness in run " ++ (decimal number ++ 10 ∷ [])
IsFindingText names number pair (Some witness) text = IsWitnessText names number pair witness text

-- the text behind these pairs, where it is this before them: each adds its line, and what is said of it. A witness that is told is one of the run of this number,
-- from this state
abbrev pub AreRaces : Schedule → List BodyMeaning → State → ℕ → List (List ℕ) → List Pair → List ℕ → List ℕ → Type 0
AreRaces s bodies start number names [] text whole = text ≡ whole
AreRaces s bodies start number names (pair ∷ pairs) text whole =
    (found : Option Witness) × (more : List ℕ) × IfSome found (IsWitness s bodies start number pair) × IsFindingText names number pair found more
    × AreRaces s bodies start number names pairs (text ++ pair_text names number pair ++ more) whole

-- the first line: how many pairs there are
abbrev pub races_line : ℕ → List ℕ
races_line count = codes "races " ++ (decimal count ++ 10 ∷ [])

-- the text of the pairs of a schedule's report, each once and in order, in the run of this number: from a state behind the runs before it, from that with which
-- the first run of its file begins
pub record IsRacesText (l : Loaded) (number : ℕ) (text : List ℕ) : Type 0 where
  pub pairs : List Pair
  pub report : IsReport l.built pairs
  pub start : State
  pub behind : IsBehind l.built (meanings_of l) (first_of l) (number - 1) start
  pub told : AreRaces l.built (meanings_of l) start number (map (λ name. name.now) l.names.items) pairs (races_line (length pairs)) text

-- ---- two records

-- the status: 0 where the worlds agree after each run, and both records have as many
abbrev pub parting_status : Parting → ℕ
parting_status (parting.None count) = 0
parting_status (parting.Longer count) = 1
parting_status (parting.After run world beside) = 1

-- the text tells of the runs that two traces have after which of them the worlds differ first, where the runs of both begin with the state with which the
-- first run of the file begins, and the first step in which their lists differ; and the status is that of it. All runs of both are replayed
pub record IsDivergeText (l : Loaded) (trace other : Option (List ℕ)) (status : ℕ) (text : List ℕ) : Type 0 where
  pub runs : List Recorded
  pub others : List Recorded
  pub read : IfSome trace (λ bytes. bytes ≡ trace_text runs)
  pub read_other : IfSome other (λ bytes. bytes ≡ trace_text others)
  pub replayed : AreAllReplayed l.built (meanings_of l) (first_of l) runs
  pub replayed_other : AreAllReplayed l.built (meanings_of l) (first_of l) others
  pub parting : Parting
  pub parts : IsParting l.built (meanings_of l) 0 (first_of l) (first_of l) runs others parting
  pub place : Option Place
  pub differs : IsDifferenceOf runs others place
  pub counted : status ≡ parting_status parting
  pub told : IsPartingText parting place (length runs) (length others) text

-- ---- recorded runs

-- the text is the story of the runs that the trace has, of which this one is asked for, or all: each is taken again, the first from the state with which the
-- first run of the file begins
pub record IsStepsText (l : Loaded) (trace : Option (List ℕ)) (asked : Option ℕ) (text : List ℕ) : Type 0 where
  pub runs : List Recorded
  pub read : IfSome trace (λ bytes. bytes ≡ trace_text runs)
  pub story : IsStory l.built (meanings_of l) asked 0 (first_of l) runs (count_text (length runs)) text
