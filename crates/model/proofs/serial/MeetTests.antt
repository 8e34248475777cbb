-- The computed test of two accesses that meet is true exactly where they do.
use Rattle.std.proofs.Common.{◌≡◌, ℕ, Bool, true, refl, sym, ap, ◌∙◌, List, Option, Some, None, ◌||◌, ◌&&◌}
use Rattle.std.proofs.lemmas.Bool.{and_parts, and_from}
use Rattle.std.specs.List.{list_any}
use Rattle.model.specs.state.KindSets.{set_of}
use Rattle.model.specs.access.Query.{Term, matches, touches, writes}
use Rattle.model.specs.access.Access.{Params}
use Rattle.model.specs.access.Conflict.{Datum, QueriesConflictAt, data_of}
use Rattle.model.specs.access.Conflict.Datum.{OfKind, OfResource, OfEvent}
use Rattle.model.specs.access.Meeting.{IsAmong, MeetAt, Meet, queries_meet_by, queries_meet_at, meet_at, meet}
use Rattle.model.specs.runs.Laws.{MeetsAreTested}
use Rattle.model.proofs.lists.Lists.{list_any-IsIn, IsIn_from_any}
use Rattle.model.proofs.serial.Conflicts.{conflict_at_from_meet, conflict_from_meet, meet_from_conflict}
use Rattle.model.proofs.serial.ConflictTests.{test-queries, conflict-queries, test-from_conflict, conflict-from_test, datum-touched}

-- ---- queries

-- queries that conflict by the set of a number pass its test
by-number : (q r : List Term) (kind number : ℕ) (c : QueriesConflictAt q r kind) → c.kinds ≡ set_of number → queries_meet_by q r kind number ≡ true
by-number q r kind number c e =
    let touched = and_from (touches q kind) (touches r kind) c.first_touches c.second_touches in
    let written = and_from (touches q kind && touches r kind) (writes q kind || writes r kind) touched c.one_writes in
    let first = and_from (touches q kind && touches r kind && (writes q kind || writes r kind)) (matches q (set_of number)) written (ap (matches q) (sym e) ∙ c.first_matches) in
    let second = and_from (touches q kind && touches r kind && (writes q kind || writes r kind) && matches q (set_of number)) (matches r (set_of number)) first (ap (matches r) (sym e) ∙ c.second_matches) in
    and_from (touches q kind && touches r kind && (writes q kind || writes r kind) && matches q (set_of number) && matches r (set_of number)) (set_of number kind) second
    (ap (λ (kinds : ℕ → Bool). kinds kind) (sym e) ∙ c.holds)

-- queries that pass the test of a number conflict by its set
conflict-by : (q r : List Term) (kind number : ℕ) → queries_meet_by q r kind number ≡ true → (c : QueriesConflictAt q r kind) × (c.kinds ≡ set_of number)
conflict-by q r kind number e =
    let held = and_parts (touches q kind && touches r kind && (writes q kind || writes r kind) && matches q (set_of number) && matches r (set_of number)) (set_of number kind) e in
    let second = and_parts (touches q kind && touches r kind && (writes q kind || writes r kind) && matches q (set_of number)) (matches r (set_of number)) held.0 in
    let first = and_parts (touches q kind && touches r kind && (writes q kind || writes r kind)) (matches q (set_of number)) second.0 in
    let written = and_parts (touches q kind && touches r kind) (writes q kind || writes r kind) first.0 in
    let touched = and_parts (touches q kind) (touches r kind) written.0 in (
      record {
        kinds = set_of number;
        first_matches = first.1;
        second_matches = second.1;
        holds = held.1;
        first_touches = touched.0;
        second_touches = touched.1;
        one_writes = written.1;
      },
      refl,
    )

-- queries that meet pass the test
test-meeting : (sets : Option (List ℕ)) (q r : List Term) (kind : ℕ) (c : QueriesConflictAt q r kind) → IsAmong sets c.kinds → queries_meet_at sets q r kind ≡ true
test-meeting None q r kind c among = test-queries q r kind c
test-meeting (Some numbers) q r kind c among = list_any-IsIn (queries_meet_by q r kind) among.0 numbers among.1 (by-number q r kind among.0 c among.2)

-- queries that pass the test meet
meeting-from_test : (sets : Option (List ℕ)) (q r : List Term) (kind : ℕ) → queries_meet_at sets q r kind ≡ true → (c : QueriesConflictAt q r kind) × IsAmong sets c.kinds
meeting-from_test None q r kind e = (conflict-queries q r kind e, tt)
meeting-from_test (Some numbers) q r kind e =
    let found = IsIn_from_any (queries_meet_by q r kind) numbers e in
    let c : (c : QueriesConflictAt q r kind) × (c.kinds ≡ set_of found.0) = conflict-by q r kind found.0 found.2 in
    (c.0, (found.0, found.1, c.1))

-- ---- accesses

-- accesses that meet at a datum pass the test there
pub test-from_meet : (sets : Option (List ℕ)) (a b : Params) (d : Datum) → MeetAt sets a b d → meet_at sets a b d ≡ true
test-from_meet sets a b (OfKind kind) c = list_any-IsIn (λ q. list_any (λ r. queries_meet_at sets q r kind) b.queries) c.0 a.queries c.2
    (list_any-IsIn (λ r. queries_meet_at sets c.0 r kind) c.1 b.queries c.3 (test-meeting sets c.0 c.1 kind c.4 c.5))
test-from_meet sets a b (OfResource number) c = test-from_conflict a b (OfResource number) c
test-from_meet sets a b (OfEvent kind) c = test-from_conflict a b (OfEvent kind) c

-- accesses that pass the test at a datum meet there
pub meet-from_test : (sets : Option (List ℕ)) (a b : Params) (d : Datum) → meet_at sets a b d ≡ true → MeetAt sets a b d
meet-from_test sets a b (OfKind kind) e =
    let first = IsIn_from_any (λ q. list_any (λ r. queries_meet_at sets q r kind) b.queries) a.queries e in
    let second = IsIn_from_any (λ r. queries_meet_at sets first.0 r kind) b.queries first.2 in
    let c : (c : QueriesConflictAt first.0 second.0 kind) × IsAmong sets c.kinds = meeting-from_test sets first.0 second.0 kind second.2 in
    (first.0, second.0, first.1, second.1, c.0, c.1)
meet-from_test sets a b (OfResource number) e = conflict-from_test a b (OfResource number) e
meet-from_test sets a b (OfEvent kind) e = conflict-from_test a b (OfEvent kind) e

-- the test of two accesses finds where they meet
pub meet-found : (sets : Option (List ℕ)) (a b : Params) → meet sets a b ≡ true → Meet sets a b
meet-found sets a b e = let r = IsIn_from_any (meet_at sets a b) (data_of a) e in (r.0, meet-from_test sets a b r.0 r.2)

-- and misses none
pub meet-tested : (sets : Option (List ℕ)) (a b : Params) → Meet sets a b → meet sets a b ≡ true
meet-tested sets a b c = list_any-IsIn (meet_at sets a b) c.0 (data_of a) (datum-touched a b c.0 (conflict_at_from_meet sets a b c.0 c.1)) (test-from_meet sets a b c.0 c.1)

-- the test is exact, and to meet by any kind set is to conflict
pub meets-tested : MeetsAreTested
meets-tested sets a b = ((meet-found sets a b, meet-tested sets a b), (conflict_from_meet None a b, meet_from_conflict a b))
