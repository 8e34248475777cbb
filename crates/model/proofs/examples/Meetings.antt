-- Two systems that conflict by a set of kinds which no entity has: where the kind sets that are there are recorded, they run at once.
use Rattle.std.proofs.Common.{◌≡◌, ℕ, pos, Bool, true, false, List, [], ◌∷◌, Option, Some, None, refl}
use Rattle.model.specs.declared.steps.Step.{Step}
use Rattle.model.specs.declared.steps.Step.TheVariants.{Start, Finish, Sync}
use Rattle.model.specs.declared.steps.StepFault.{StepFault}
use Rattle.model.specs.declared.steps.StepFault.TheVariants.{Conflict}
use Rattle.model.specs.state.State.{State}
use Rattle.model.specs.state.KindSets.{kinds_number, kind_sets_of}
use Rattle.model.specs.state.Loaded.{loaded}
use Rattle.model.specs.access.Query.Term.{Mut, With}
use Rattle.model.specs.access.Access.{Params}
use Rattle.model.specs.access.Conflict.{least_datum}
use Rattle.model.specs.access.Conflict.Datum.{OfKind}
use Rattle.model.specs.access.Meeting.{meet}
use Rattle.model.specs.shown.Outcome.{BodyMeaning}
use Rattle.model.specs.steps.Schedule.{Schedule, recording}
use Rattle.model.specs.steps.Judged.{fault_of, is_lawful, is_complete}
use Rattle.model.specs.runs.Meaning.{HasTrueSets}
use Rattle.model.proofs.examples.Bodies.{health, frozen, hidden, asks, system, plain, given, zeros, idle, history, computed}

abbrev first : Params
first = asks ((Mut health ∷ With frozen ∷ []) ∷ [])

abbrev second : Params
second = asks ((Mut health ∷ With hidden ∷ []) ∷ [])

abbrev rivals : Schedule
rivals = plain (system first ∷ system second ∷ []) (0 ∷ 1 ∷ [])

abbrev bodies : List BodyMeaning
bodies = idle first ∷ idle second ∷ []

-- one entity for each of them
abbrev start : State
start = loaded rivals ((given health (pos 1 ∷ []) ∷ given frozen [] ∷ []) ∷ (given health (pos 1 ∷ []) ∷ given hidden [] ∷ []) ∷ []) zeros

-- the numbers of their kind sets, and of one with the kinds of both
abbrev theirs : List ℕ
theirs = 1028 ∷ 2052 ∷ []

abbrev with_both : List ℕ
with_both = 1028 ∷ 2052 ∷ 3076 ∷ []

are_theirs : kind_sets_of start.world.slots ≡ theirs
unfolding kind_sets_of kinds_number
are_theirs = refl

-- an entity without components has the set of no kinds
of_nobody : kind_sets_of (loaded rivals ([] ∷ []) zeros).world.slots ≡ 0 ∷ []
unfolding kind_sets_of kinds_number
of_nobody = refl

-- ---- who meets

by_any_set : least_datum first second ≡ Some (OfKind health)
by_any_set = refl

by_none_recorded : meet None first second ≡ true
by_none_recorded = refl

by_theirs : meet (Some theirs) first second ≡ false
by_theirs = refl

by_both : meet (Some with_both) first second ≡ true
by_both = refl

-- ---- both at once

abbrev at_once : List Step
at_once = Start 0 ∷ Start 1 ∷ Finish 0 ∷ Finish 1 ∷ Sync 0 ∷ []

-- whether that is lawful and complete, where these kind sets are recorded
abbrev is_whole : Option (List (List ℕ)) → Bool × Bool
is_whole sets = (is_lawful (recording rivals sets) (history at_once), is_complete (recording rivals sets) (history at_once))

-- the fault of the second start
abbrev second_fault : Option (List (List ℕ)) → Option StepFault
second_fault sets = fault_of (recording rivals sets) (Start 0 ∷ []) (Start 1)

recorded : is_whole (Some (theirs ∷ theirs ∷ [])) ≡ (true, true)
recorded = refl

not_recorded : second_fault None ≡ Some Conflict
not_recorded = refl

recorded_with_both : second_fault (Some (with_both ∷ theirs ∷ [])) ≡ Some Conflict
recorded_with_both = refl

-- what is recorded is not compared with a world where lists are judged
recorded_too_few : is_whole (Some ((1028 ∷ []) ∷ theirs ∷ [])) ≡ (true, true)
recorded_too_few = refl

-- ---- behind a sync point

-- the same two on the level above
abbrev above : Schedule
above = record (plain (record (system first) { level = 1 } ∷ record (system second) { level = 1 } ∷ []) (0 ∷ 1 ∷ [])) { syncs = 2 }

-- what is recorded after the sync point counts, and no more what was recorded before it
abbrev later_fault : List (List ℕ) → Option StepFault
later_fault lists = fault_of (recording above (Some lists)) (Start 0 ∷ Sync 0 ∷ []) (Start 1)

later_theirs : later_fault (with_both ∷ theirs ∷ theirs ∷ []) ≡ None
later_theirs = refl

later_both : later_fault (theirs ∷ with_both ∷ theirs ∷ []) ≡ Some Conflict
later_both = refl

-- ---- what a run says

-- the record is true of a run from there
is_true : HasTrueSets (recording rivals (Some (theirs ∷ theirs ∷ []))) bodies start (history at_once)
unfolding computed kind_sets_of kinds_number
is_true = (refl, refl)
