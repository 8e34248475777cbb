-- When two accesses meet: they conflict by a set of kinds that may be there. And the same as a computed test.
use Rattle.std.specs.Prelude.{ℕ, Bool, ◌≡◌, ◌&&◌, ◌||◌, List, Option, Some, None}
use Rattle.std.specs.List.{list_any}
use Rattle.model.specs.Lists.{IsIn}
use Rattle.model.specs.state.KindSets.{set_of}
use Rattle.model.specs.access.Query.{Term, matches, touches, writes}
use Rattle.model.specs.access.Access.{Params}
use Rattle.model.specs.access.Conflict.{Datum, QueriesConflictAt, ResourcesConflictAt, EventsConflictAt, queries_conflict_at, conflict_at, data_of}
use Rattle.model.specs.access.Conflict.Datum.{OfKind, OfResource, OfEvent}

-- a set of kinds may be there: it is one of those recorded, by number; any may where none are recorded
abbrev pub IsAmong : Option (List ℕ) → (ℕ → Bool) → Type 0
IsAmong None kinds = Unit {0}
IsAmong (Some numbers) kinds = (number : ℕ) × IsIn number numbers × (kinds ≡ set_of number)

-- two accesses meet at a datum: at a kind of components by a set of kinds that may be there
abbrev pub MeetAt : Option (List ℕ) → Params → Params → Datum → Type 0
MeetAt sets a b (OfKind kind) = (q : List Term) × (r : List Term) × IsIn q a.queries × IsIn r b.queries × (c : QueriesConflictAt q r kind) × IsAmong sets c.kinds
MeetAt sets a b (OfResource number) = ResourcesConflictAt a b number
MeetAt sets a b (OfEvent kind) = EventsConflictAt a b kind

-- two accesses meet where they do so at some datum
abbrev pub Meet : Option (List ℕ) → Params → Params → Type 0
Meet sets a b = (d : Datum) × MeetAt sets a b d

-- ---- the computed test

-- whether two queries conflict at a kind by the set of a number
abbrev pub queries_meet_by : List Term → List Term → ℕ → ℕ → Bool
queries_meet_by q r kind number = touches q kind && touches r kind && (writes q kind || writes r kind)
    && matches q (set_of number) && matches r (set_of number) && set_of number kind

-- whether two queries meet at a kind
abbrev pub queries_meet_at : Option (List ℕ) → List Term → List Term → ℕ → Bool
queries_meet_at None q r kind = queries_conflict_at q r kind
queries_meet_at (Some numbers) q r kind = list_any (queries_meet_by q r kind) numbers

-- whether two accesses meet at a datum
abbrev pub meet_at : Option (List ℕ) → Params → Params → Datum → Bool
meet_at sets a b (OfKind kind) = list_any (λ q. list_any (λ r. queries_meet_at sets q r kind) b.queries) a.queries
meet_at sets a b (OfResource number) = conflict_at a b (OfResource number)
meet_at sets a b (OfEvent kind) = conflict_at a b (OfEvent kind)

-- whether two accesses meet
abbrev pub meet : Option (List ℕ) → Params → Params → Bool
meet sets a b = list_any (meet_at sets a b) (data_of a)
