-- The computed test of a conflict among the parameters of one system is exact.
use Rattle.std.proofs.Common.{ℕ, zero, suc, true, ◌||◌, ◌≡◌, ◌≢◌, ◌↔◌, inl, inr, List, [], ◌∷◌, Option, Some, None, get_or, refl, sym, ap, subst, arith}
use Rattle.std.proofs.lemmas.Bool.{or_cases, or_left, or_right, false≢true}
use Rattle.std.specs.List.{list_any}
use Rattle.model.specs.Lists.{has, is_number, IsIn}
use Rattle.model.specs.access.Query.{Term, touched, writes}
use Rattle.model.specs.access.QueryFaults.{has_twice}
use Rattle.model.specs.access.Access.{Params}
use Rattle.model.specs.access.Conflict.{QueriesConflictAt, queries_conflict_at}
use Rattle.model.specs.access.Conflict.Datum.{OfKind, OfResource, OfEvent}
use Rattle.model.specs.access.SelfConflict.{TwoConflictAt, IsTwiceIn, IsWrittenBeside, ConflictWithin, meets_at, queries_meet, two_meet, writes_beside, conflict_within}
use Rattle.model.proofs.lists.Lists.{list_any-IsIn, IsIn_from_any, has-IsIn, IsIn_from_has}
use Rattle.model.proofs.lists.Members.{number-of}
use Rattle.model.proofs.serial.ConflictTests.{test-queries, conflict-queries}
use Rattle.model.proofs.serial.Conflicts.{or_swap as or_turned}

-- ---- two queries

-- queries that conflict at a kind that one term touches
meets_from : (q r : List Term) (kind : ℕ) (o : Option ℕ) → o ≡ Some kind → queries_conflict_at q r kind ≡ true → meets_at q r o ≡ true
meets_from q r kind o same e = rw same e

-- queries that conflict at a kind meet
pub queries_meet_from : (q r : List Term) (kind : ℕ) → QueriesConflictAt q r kind → queries_meet q r ≡ true
queries_meet_from q r kind c = let t = IsIn_from_any (λ t. is_number kind (touched t)) q c.first_touches in
    list_any-IsIn (λ t. meets_at q r (touched t)) t.0 q t.1 (meets_from q r kind (touched t.0) (number-of kind (touched t.0) t.2) (test-queries q r kind c))

-- where they meet at what a term touches they conflict there
conflict_from : (q r : List Term) (o : Option ℕ) → meets_at q r o ≡ true → (kind : ℕ) × QueriesConflictAt q r kind
conflict_from q r None e = absurd (false≢true e)
conflict_from q r (Some kind) e = (kind, conflict-queries q r kind e)

-- queries that meet conflict at some kind
pub conflict_from_queries_meet : (q r : List Term) → queries_meet q r ≡ true → (kind : ℕ) × QueriesConflictAt q r kind
conflict_from_queries_meet q r e = let t = IsIn_from_any (λ t. meets_at q r (touched t)) q e in conflict_from q r (touched t.0) t.2

-- a conflict of two queries has no direction
pub turned : (q r : List Term) (kind : ℕ) → QueriesConflictAt q r kind → QueriesConflictAt r q kind
turned q r kind c = record {
  kinds = c.kinds;
  first_matches = c.second_matches;
  second_matches = c.first_matches;
  holds = c.holds;
  first_touches = c.second_touches;
  second_touches = c.first_touches;
  one_writes = or_turned (writes q kind) (writes r kind) c.one_writes;
}

-- ---- the queries of one system

-- a member has a number
number_in : {A : Type 0} (d x : A) (xs : List A) → IsIn x xs → (n : ℕ) × (get_or xs n d ≡ x)
number_in d x [] i = absurd i
number_in d x (y ∷ xs) (inl same) = (zero, sym same)
number_in d x (y ∷ xs) (inr later) = let n = number_in d x xs later in (suc n.0, n.1)

-- a query of a number that conflicts with another meets it
meets_number : (q : List Term) (queries : List (List Term)) (n kind : ℕ) → QueriesConflictAt q (get_or queries n []) kind → list_any (queries_meet q) queries ≡ true
meets_number q [] n kind c = absurd (false≢true c.second_touches)
meets_number q (r ∷ queries) zero kind c = or_left (queries_meet q r) (list_any (queries_meet q) queries) (queries_meet_from q r kind c)
meets_number q (r ∷ queries) (suc n) kind c = or_right (queries_meet q r) (list_any (queries_meet q) queries) (meets_number q queries n kind c)

two_found : (queries : List (List Term)) → two_meet queries ≡ true → (kind : ℕ) × TwoConflictAt queries kind
two_found [] e = absurd (false≢true e)
two_found (q ∷ queries) e = elim (or_cases (list_any (queries_meet q) queries) (two_meet queries) e) [
  | inl here ↦
      let r = IsIn_from_any (queries_meet q) queries here in
      let n = number_in [] r.0 queries r.1 in
      let c = conflict_from_queries_meet q r.0 r.2 in
      (c.0, record { first = 0; second = suc n.0; differ = λ same. omega (arith, same); conflict = subst (λ (t : List Term). QueriesConflictAt q t c.0) (sym n.1) c.1 })
  | inr later ↦
      let c = two_found queries later in
      (c.0, record { first = suc c.1.first; second = suc c.1.second; differ = λ same. c.1.differ (omega (arith, same)); conflict = c.1.conflict })
]

two_tested : (queries : List (List Term)) (m n kind : ℕ) → m ≢ n → QueriesConflictAt (get_or queries m []) (get_or queries n []) kind → two_meet queries ≡ true
two_tested [] m n kind differ c = absurd (false≢true c.first_touches)
two_tested (q ∷ queries) zero zero kind differ c = absurd (differ refl)
two_tested (q ∷ queries) zero (suc n) kind differ c = or_left (list_any (queries_meet q) queries) (two_meet queries) (meets_number q queries n kind c)
two_tested (q ∷ queries) (suc m) zero kind differ c =
    or_left (list_any (queries_meet q) queries) (two_meet queries) (meets_number q queries m kind (turned (get_or queries m []) q kind c))
two_tested (q ∷ queries) (suc m) (suc n) kind differ c =
    or_right (list_any (queries_meet q) queries) (two_meet queries) (two_tested queries m n kind (λ same. differ (ap suc same)) c)

-- ---- resources and event kinds

twice_found : (ns : List ℕ) → has_twice ns ≡ true → (n : ℕ) × IsTwiceIn n ns
twice_found [] e = absurd (false≢true e)
twice_found (n ∷ ns) e = elim (or_cases (has n ns) (has_twice ns) e) [
  | inl here ↦ (n, inl (refl, here))
  | inr later ↦ let t = twice_found ns later in (t.0, inr t.1)
]

twice_tested : (n : ℕ) (ns : List ℕ) → IsTwiceIn n ns → has_twice ns ≡ true
twice_tested n [] t = absurd t
twice_tested n (x ∷ ns) (inl here) = or_left (has x ns) (has_twice ns) (subst (λ (k : ℕ). has k ns ≡ true) (sym here.0) here.1)
twice_tested n (x ∷ ns) (inr later) = or_right (has x ns) (has_twice ns) (twice_tested n ns later)

beside_found : (read written : List ℕ) → writes_beside read written ≡ true → (n : ℕ) × IsWrittenBeside read written n
beside_found read written e = elim (or_cases (has_twice written) (list_any (λ n. has n read) written) e) [
  | inl twice ↦ let t = twice_found written twice in (t.0, inl t.1)
  | inr both ↦ let n = IsIn_from_any (λ n. has n read) written both in (n.0, inr (n.2, has-IsIn n.0 written n.1))
]

beside_tested : (read written : List ℕ) (n : ℕ) → IsWrittenBeside read written n → writes_beside read written ≡ true
beside_tested read written n (inl twice) = or_left (has_twice written) (list_any (λ k. has k read) written) (twice_tested n written twice)
beside_tested read written n (inr both) =
    or_right (has_twice written) (list_any (λ k. has k read) written) (list_any-IsIn (λ k. has k read) n written (IsIn_from_has n written both.1) both.0)

-- ---- the parameters of one system

-- the test is exact
pub within_tested : (p : Params) → (conflict_within p ≡ true) ↔ ConflictWithin p
within_tested p = (found, tested)
  where
    found : conflict_within p ≡ true → ConflictWithin p
    found e = elim (or_cases (two_meet p.queries || writes_beside p.res p.res_mut) (writes_beside p.reads p.writes) e) [
      | inl first ↦ elim (or_cases (two_meet p.queries) (writes_beside p.res p.res_mut) first) [
        | inl kinds ↦ let c = two_found p.queries kinds in (OfKind c.0, c.1)
        | inr resources ↦ let c = beside_found p.res p.res_mut resources in (OfResource c.0, c.1)
      ]
      | inr events ↦ let c = beside_found p.reads p.writes events in (OfEvent c.0, c.1)
    ]

    tested : ConflictWithin p → conflict_within p ≡ true
    tested (OfKind kind, c) = or_left (two_meet p.queries || writes_beside p.res p.res_mut) (writes_beside p.reads p.writes)
        (or_left (two_meet p.queries) (writes_beside p.res p.res_mut) (two_tested p.queries c.first c.second kind c.differ c.conflict))
    tested (OfResource number, c) = or_left (two_meet p.queries || writes_beside p.res p.res_mut) (writes_beside p.reads p.writes)
        (or_right (two_meet p.queries) (writes_beside p.res p.res_mut) (beside_tested p.res p.res_mut number c))
    tested (OfEvent kind, c) = or_right (two_meet p.queries || writes_beside p.res p.res_mut) (writes_beside p.reads p.writes) (beside_tested p.reads p.writes kind c)
