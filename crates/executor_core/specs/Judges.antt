-- What the parts of a core answer, of its sets and of each history for which it stands.
use Rattle.std.specs.Prelude.{ℕ, ◌+◌, ◌/◌, ◌<◌, ◌≤◌, Bool, true, false, not, ◌&&◌, ◌≡◌, List, [], length, get_or, Option, Some, None, Result, Ok, Err}
use Rattle.number_set.specs.Members.{contains}
use Rattle.model.specs.declared.steps.Step.{Step}
use Rattle.model.specs.declared.steps.Step.TheVariants.{Cond, Start, Skip, Finish, Sync}
use Rattle.model.specs.declared.steps.StepFault.{StepFault}
use Rattle.model.specs.declared.steps.Ready.{Ready}
use Rattle.model.specs.steps.Schedule.{Schedule, ScheduledSystem, covers, has_edge, level_of}
use Rattle.model.specs.steps.Lawful.{May}
use Rattle.model.specs.steps.Faults.{IsFirstFault}
use Rattle.model.specs.steps.Ready.{Offers, OffersNothing}
use Rattle.model.specs.Counts.{count_below}
use Rattle.schedule_builder.specs.Counts.{waits_for, is_at}
use Rattle.executor_core.specs.Stands.{Stand}

-- both sets have room for all systems
pub record IsRoomy (count : ℕ) (begun_set over_set : List ℕ) : Type 0 where
  pub begun : length begun_set ≡ count / 64 + 1
  pub over : length over_set ≡ count / 64 + 1

-- both sets have room for all conditions
pub record IsAskRoomy (count : ℕ) (asked_set yes_set : List ℕ) : Type 0 where
  pub asked : length asked_set ≡ count / 64 + 1
  pub yes : length yes_set ≡ count / 64 + 1

-- so many rows, each with room for all systems
pub record AreRoomy (count rows_made : ℕ) (rows : List (List ℕ)) : Type 0 where
  pub long : length rows ≡ rows_made
  pub each : (n : ℕ) → n < rows_made → length (get_or rows n []) ≡ count / 64 + 1

-- whether a system has an edge to this one and isn't over, and whether it is of the level and isn't over
abbrev pub holds_up : List ScheduledSystem → List ℕ → ℕ → ℕ → Bool
holds_up systems over_set n m = waits_for systems n m && not (contains over_set m)

abbrev pub is_left_at : List ScheduledSystem → List ℕ → ℕ → ℕ → Bool
is_left_at systems over_set k m = is_at systems k m && not (contains over_set m)

-- the counts are those of the systems that aren't over: with an edge to each system, and of each level
pub record AreCounted (systems : List ScheduledSystem) (over_set open_counts level_counts : List ℕ) : Type 0 where
  pub waits : (n : ℕ) → get_or open_counts n 0 ≡ count_below (holds_up systems over_set n) (length systems)
  pub left : (k : ℕ) → get_or level_counts k 0 ≡ count_below (is_left_at systems over_set k) (length systems)

-- the same as a word that no search looks into, since each holder of a core has it at hand
unfoldable pub HasCounts : List ScheduledSystem → List ℕ → List ℕ → List ℕ → Type 0
HasCounts systems over_set open_counts level_counts = AreCounted systems over_set open_counts level_counts

-- each system with an edge to this one is over
abbrev pub AllOver : Stand → ℕ → Type 0
AllOver core n = (m : ℕ) → has_edge core.schedule m n ≡ true → contains core.over m ≡ true

-- each system that meets this one and has begun is over
abbrev pub NoneMeets : Stand → ℕ → Type 0
NoneMeets core n = (m : ℕ) → contains (get_or core.met n []) m ≡ true → contains core.begun m ≡ true → contains core.over m ≡ true

-- nothing that a system waits for is missing: the sync points below its level are done, and all with an edge to it are over
pub record IsReleased (core : Stand) (n : ℕ) : Type 0 where
  pub after : AllOver core n
  pub level : level_of core.schedule n ≤ core.done

-- a system that hasn't begun is released
pub record IsWaiting (core : Stand) (n : ℕ) : Type 0 where
  pub fresh : contains core.begun n ≡ false
  pub released : IsReleased core n

-- such a system is covered by the condition
abbrev pub HasWaitingMember : Stand → ℕ → Type 0
HasWaitingMember core c = (n : ℕ) × (covers core.schedule c n ≡ true) × IsWaiting core n

-- a condition of the system was not asked
abbrev pub HasUnasked : Stand → ℕ → Type 0
HasUnasked core n = (c : ℕ) × (covers core.schedule c n ≡ true) × (contains core.asked c ≡ false)

-- a condition of the system was asked and did not answer yes
abbrev pub HasRefusing : Stand → ℕ → Type 0
HasRefusing core n = (c : ℕ) × (covers core.schedule c n ≡ true) × (contains core.asked c ≡ true) × (contains core.yes c ≡ false)

-- each system that meets what a condition asks about and has begun is over
abbrev pub NoneClashes : Stand → ℕ → Type 0
NoneClashes core c = (m : ℕ) → contains (get_or core.clashed c []) m ≡ true → contains core.begun m ≡ true → contains core.over m ≡ true

-- a condition was not asked, and can be
pub record IsAskableNow (core : Stand) (c : ℕ) : Type 0 where
  pub fresh : contains core.asked c ≡ false
  pub clear : NoneClashes core c

-- it is one of the system
abbrev pub CanAsk : Stand → ℕ → ℕ → Type 0
CanAsk core n c = (covers core.schedule c n ≡ true) × IsAskableNow core c

-- it is the least of the system
abbrev pub IsLeastAskable : Stand → ℕ → ℕ → Type 0
IsLeastAskable core n c = CanAsk core n c × ((j : ℕ) → j < c → CanAsk core n j → ⊥)

-- some system of the level isn't over
abbrev pub IsOpen : Stand → ℕ → Type 0
IsOpen core k = (n : ℕ) × (n < length core.schedule.systems) × (level_of core.schedule n ≡ k) × (contains core.over n ≡ false)

-- a step names what the schedule has
abbrev pub IsKnown : Schedule → Step → Type 0
IsKnown s (Cond c answer) = c < length s.conditions
IsKnown s (Start n) = n < length s.systems
IsKnown s (Skip n) = n < length s.systems
IsKnown s (Finish n) = n < length s.systems
IsKnown s (Sync k) = k < s.syncs

-- a step is judged: it is allowed, or this is the fault that is told of it
abbrev pub Judges : Schedule → List Step → Step → Result (Unit {0}) StepFault → Type 0
Judges s h step (Ok done) = May s h step
Judges s h step (Err fault) = IsFirstFault s h step fault

-- what a system offers, or that it offers nothing
abbrev pub TellsOffer : Schedule → List Step → ℕ → Option Ready → Type 0
TellsOffer s h n None = OffersNothing s h n
TellsOffer s h n (Some r) = Offers s h n r
