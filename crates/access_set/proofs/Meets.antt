-- The three parts of a conflict, from the tests that look for them.
use Rattle.std.proofs.Common.{true, ◌≡◌, ◌↔◌, ◌⊎◌, inl, inr}
use Rattle.std.proofs.lemmas.Bool.{or_cases, or_left, or_right}
use Rattle.std.specs.List.{list_any}
use Rattle.model.specs.Lists.{has}
use Rattle.model.specs.access.Access.{Params, names_resource, names_event}
use Rattle.model.specs.access.Conflict.{Conflict}
use Rattle.model.specs.access.SelfConflict.{queries_meet}
use Rattle.model.specs.access.Conflict.Datum.{OfKind, OfResource, OfEvent}
use Rattle.model.proofs.lists.Lists.{list_any-IsIn, IsIn_from_any, has-IsIn, IsIn_from_has}
use Rattle.model.proofs.serial.SelfConflicts.{queries_meet_from, conflict_from_queries_meet}
use Rattle.query.proofs.Terms.{list_any-map}
use Rattle.access_set.specs.Meets.{MeetAtKind, MeetAtResource, MeetAtEvent}

-- a test of numbers is a test of what has them
pub ruleset any_of_numbers = (list_any-map)

-- ---- kinds

-- accesses conflict at a kind exactly where two of their queries meet
pub meet_at_kind : (a b : Params) → (list_any (λ q. list_any (λ r. queries_meet q r) b.queries) a.queries ≡ true) ↔ MeetAtKind a b
meet_at_kind a b = (found, tested)
  where
    found : list_any (λ q. list_any (λ r. queries_meet q r) b.queries) a.queries ≡ true → MeetAtKind a b
    found e =
        let first = IsIn_from_any (λ q. list_any (λ r. queries_meet q r) b.queries) a.queries e in
        let second = IsIn_from_any (λ r. queries_meet first.0 r) b.queries first.2 in
        let at = conflict_from_queries_meet first.0 second.0 second.2 in
        (at.0, (first.0, second.0, first.1, second.1, at.1))

    tested : MeetAtKind a b → list_any (λ q. list_any (λ r. queries_meet q r) b.queries) a.queries ≡ true
    tested (kind, c) = list_any-IsIn (λ q. list_any (λ r. queries_meet q r) b.queries) c.0 a.queries c.2
        (list_any-IsIn (λ r. queries_meet c.0 r) c.1 b.queries c.3 (queries_meet_from c.0 c.1 kind c.4))

-- ---- resources and event kinds

-- what the first writes and the second names
pub first_writes_resource : (a b : Params) → list_any (names_resource b) a.res_mut ≡ true → MeetAtResource a b
first_writes_resource a b e = let x = IsIn_from_any (names_resource b) a.res_mut e in let here = has-IsIn x.0 a.res_mut x.1 in
    (x.0, record { first_names = or_right _ _ here; second_names = x.2; one_writes = or_left _ _ here })

-- what the second writes and the first names
pub second_writes_resource : (a b : Params) → list_any (names_resource a) b.res_mut ≡ true → MeetAtResource a b
second_writes_resource a b e = let x = IsIn_from_any (names_resource a) b.res_mut e in let here = has-IsIn x.0 b.res_mut x.1 in
    (x.0, record { first_names = x.2; second_names = or_right _ _ here; one_writes = or_right _ _ here })

-- accesses that conflict at a resource
pub resource_met : (a b : Params) → MeetAtResource a b → (list_any (names_resource b) a.res_mut ≡ true) ⊎ (list_any (names_resource a) b.res_mut ≡ true)
resource_met a b (number, c) = elim (or_cases (has number a.res_mut) (has number b.res_mut) c.one_writes) [
  | inl first ↦ inl (list_any-IsIn (names_resource b) number a.res_mut (IsIn_from_has number a.res_mut first) c.second_names)
  | inr second ↦ inr (list_any-IsIn (names_resource a) number b.res_mut (IsIn_from_has number b.res_mut second) c.first_names)
]

-- the same of event kinds
pub first_writes_event : (a b : Params) → list_any (names_event b) a.writes ≡ true → MeetAtEvent a b
first_writes_event a b e = let x = IsIn_from_any (names_event b) a.writes e in let here = has-IsIn x.0 a.writes x.1 in
    (x.0, record { first_names = or_right _ _ here; second_names = x.2; one_writes = or_left _ _ here })

pub second_writes_event : (a b : Params) → list_any (names_event a) b.writes ≡ true → MeetAtEvent a b
second_writes_event a b e = let x = IsIn_from_any (names_event a) b.writes e in let here = has-IsIn x.0 b.writes x.1 in
    (x.0, record { first_names = x.2; second_names = or_right _ _ here; one_writes = or_right _ _ here })

pub event_met : (a b : Params) → MeetAtEvent a b → (list_any (names_event b) a.writes ≡ true) ⊎ (list_any (names_event a) b.writes ≡ true)
event_met a b (kind, c) = elim (or_cases (has kind a.writes) (has kind b.writes) c.one_writes) [
  | inl first ↦ inl (list_any-IsIn (names_event b) kind a.writes (IsIn_from_has kind a.writes first) c.second_names)
  | inr second ↦ inr (list_any-IsIn (names_event a) kind b.writes (IsIn_from_has kind b.writes second) c.first_names)
]

-- ---- the three parts

-- where one part conflicts the accesses do
pub conflict_at_kind : (a b : Params) → MeetAtKind a b → Conflict a b
conflict_at_kind a b (kind, c) = (OfKind kind, c)

pub conflict_at_resource : (a b : Params) → MeetAtResource a b → Conflict a b
conflict_at_resource a b (number, c) = (OfResource number, c)

pub conflict_at_event : (a b : Params) → MeetAtEvent a b → Conflict a b
conflict_at_event a b (kind, c) = (OfEvent kind, c)

-- a conflict that is neither at a kind nor at a resource is at an event kind
pub else_event : (a b : Params) → (MeetAtKind a b → ⊥) → (MeetAtResource a b → ⊥) → Conflict a b → MeetAtEvent a b
else_event a b no_kind no_resource (OfKind kind, c) = absurd (no_kind (kind, c))
else_event a b no_kind no_resource (OfResource number, c) = absurd (no_resource (number, c))
else_event a b no_kind no_resource (OfEvent kind, c) = (kind, c)
