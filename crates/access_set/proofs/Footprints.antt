-- Whether two queries conflict is what the words and the choices of both say.
use Rattle.std.proofs.Common.{ℕ, ◌<◌, ◌≡◌, Bool, true, false, not, ◌==◌, ◌||◌, ◌&&◌, inl, inr, zero, suc, List, [], ◌∷◌, ◌++◌, length, get_or, refl, sym, ap, ap₂, ◌∙◌, subst, arith}
use Rattle.std.specs.Prelude.{bit_or, bit_and}
use Rattle.std.specs.List.{list_any}
use Rattle.std.specs.Bool.{MatchBool}
use Rattle.std.proofs.lemmas.List.{get_or_past}
use Rattle.std.proofs.lemmas.Bool.{eqb-true, eq-eqb, both_ways, false≢true, false_from_ne_true, true_from_ne_false, and_parts, and_from, or_cases, or_left, or_right, not_from_false, cases_lt}
use Rattle.model.specs.access.Query.{Alternative, Term, touches, writes}
use Rattle.model.specs.access.Query.Alternative.{Has}
use Rattle.model.specs.access.Conflict.{plains, choices, needs, some_way, match_both, queries_conflict_at, QueriesConflictAt}
use Rattle.model.specs.access.Access.{Params, no_params}
use Rattle.model.specs.access.Conflict.Datum.{OfKind, OfResource, OfEvent}
use Rattle.model.specs.access.SelfConflict.{queries_meet, two_meet, TwoConflictAt, ConflictWithin, conflict_within}
use Rattle.model.proofs.lists.Lists.{same_tests, IsIn-append}
use Rattle.model.proofs.serial.ConflictTests.{test-queries, conflict-queries, matches-parts, way-of_met}
use Rattle.model.proofs.serial.SelfConflicts.{queries_meet_from, conflict_from_queries_meet, within_tested, turned}
use Rattle.access_set.specs.declared.footprint.Footprint.{Footprint}
use Rattle.access_set.specs.declared.footprint.Words.{Words}
use Rattle.access_set.specs.Footprints.{has_bit, with_bit, AreLow, IsWords, IsFootprint, choices_of, AreFootprints, kinds_shared, way_of_both, footprints_meet, footprints_meet_at, is_writing, no_kinds, HasMeetingWriter}
use Rattle.access_set.proofs.Bits.{bit_of_both, bit_of_either, no_bit, no_bits, bit_set}
use Rattle.access_set.proofs.Ways.{agree_apart, plain_needs, plain_bars, both_taken, met_none, met_some}

-- ---- two queries

-- the kinds that both touch and one writes
pub shared_is : (q r : List Term) (f g : Words) → IsWords q f → IsWords r g → (k : ℕ) → has_bit (kinds_shared f g) k ≡ ((touches q k && touches r k) && (writes q k || writes r k))
shared_is q r f g is other k =
    bit_of_both (bit_and f.touched g.touched) (bit_or f.written g.written) k
    ∙ ap₂ (λ a b. a && b) (bit_of_both f.touched g.touched k ∙ ap₂ (λ a b. a && b) (is.touched k) (other.touched k))
    (bit_of_either f.written g.written k ∙ ap₂ (λ a b. a || b) (is.written k) (other.written k))

-- the choices of both
both_choices : (q r : List Term) (f g : Footprint) → IsFootprint q f → IsFootprint r g → (choices_of f ++ choices_of g) ≡ (choices q ++ choices r)
both_choices q r f g is other = ap₂ (λ xs ys. xs ++ ys) is.choices other.choices

both_low : (xs ys : List (List Alternative)) → AreLow xs → AreLow ys → AreLow (xs ++ ys)
both_low xs ys first second = λ alternatives i a inside. elim (IsIn-append alternatives xs ys i) [
  | inl j ↦ first alternatives j a inside
  | inr j ↦ second alternatives j a inside
]

-- a shared kind with a way is one at which the queries conflict
way_conflict : (q r : List Term) (f g : Footprint) → IsFootprint q f → IsFootprint r g → (k : ℕ) → has_bit (kinds_shared f.words g.words) k ≡ true
    → some_way k (plains q ++ plains r) (choices_of f ++ choices_of g) ≡ true → queries_conflict_at q r k ≡ true
way_conflict q r f g is other k b w =
    and_from ((touches q k && touches r k) && (writes q k || writes r k)) (match_both q r k) (sym (shared_is q r f.words g.words is.words other.words k) ∙ b)
    (subst (λ more. some_way k (plains q ++ plains r) more ≡ true) (both_choices q r f g is other) w)

-- and the other way round
conflict_way : (q r : List Term) (f g : Footprint) → IsFootprint q f → IsFootprint r g → (k : ℕ) → queries_conflict_at q r k ≡ true
    → (has_bit (kinds_shared f.words g.words) k ≡ true) × (some_way k (plains q ++ plains r) (choices_of f ++ choices_of g) ≡ true)
conflict_way q r f g is other k e =
    let p = and_parts ((touches q k && touches r k) && (writes q k || writes r k)) (match_both q r k) e in
    (shared_is q r f.words g.words is.words other.words k ∙ p.0, subst (λ more. some_way k (plains q ++ plains r) more ≡ true) (sym (both_choices q r f g is other)) p.1)

-- the words and choices say whether two queries conflict
pub meet_is : (q r : List Term) (f g : Footprint) → IsFootprint q f → IsFootprint r g → footprints_meet f g ≡ queries_meet q r
meet_is q r f g is other =
    let low = both_low (choices_of f) (choices_of g) is.low other.low in
    let taken = both_taken q r f.words g.words is.words other.words in
    same_tests (footprints_meet f g) (queries_meet q r)
    (λ e. true_from_ne_false (queries_meet q r) (λ no. both_ways (footprints_meet f g)
    (met_none (kinds_shared f.words g.words) (plains q ++ plains r) (way_of_both f.words g.words) (choices_of f ++ choices_of g) low taken
    (λ k b w. both_ways (queries_meet q r) no (queries_meet_from q r k (conflict-queries q r k (way_conflict q r f g is other k b w))))) e))
    (λ e. let at = conflict_from_queries_meet q r e in
    let way = conflict_way q r f g is other at.0 (test-queries q r at.0 at.1) in
    met_some (kinds_shared f.words g.words) (plains q ++ plains r) (way_of_both f.words g.words) (choices_of f ++ choices_of g) low taken at.0 way.0 way.1)

-- the one bit of a word with a kind
one_bit : (k j : ℕ) → k < 64 → has_bit (with_bit k 0) j ≡ (k == j)
one_bit k j low = bit_set 0 k j low ∙ (ap (λ b. (k == j) || b) (no_bit j) ∙ none_more (k == j))
  where
    none_more : (b : Bool) → (b || false) ≡ b
    none_more true = refl
    none_more false = refl

-- and whether they do so at a kind
met_at : (q r : List Term) (f g : Footprint) → IsFootprint q f → IsFootprint r g → (k : ℕ) → k < 64 → footprints_meet_at f g k ≡ queries_conflict_at q r k
met_at q r f g is other k small =
    let low = both_low (choices_of f) (choices_of g) is.low other.low in
    let taken = both_taken q r f.words g.words is.words other.words in
    let shared = kinds_shared f.words g.words in
    let one = bit_and shared (with_bit k 0) in
    same_tests (footprints_meet_at f g k) (queries_conflict_at q r k)
    (λ e. true_from_ne_false (queries_conflict_at q r k) (λ no. both_ways (footprints_meet_at f g k)
    (met_none one (plains q ++ plains r) (way_of_both f.words g.words) (choices_of f ++ choices_of g) low taken
    (λ j b w.
    let bits = and_parts (has_bit shared j) (has_bit (with_bit k 0) j) (sym (bit_of_both shared (with_bit k 0) j) ∙ b) in
    let same = eqb-true k j (sym (one_bit k j small) ∙ bits.1) in
    both_ways (queries_conflict_at q r k) no (subst (λ (i : ℕ). queries_conflict_at q r i ≡ true) (sym same) (way_conflict q r f g is other j bits.0 w)))) e))
    (λ e. let way = conflict_way q r f g is other k e in
    met_some one (plains q ++ plains r) (way_of_both f.words g.words) (choices_of f ++ choices_of g) low taken k
    (bit_of_both shared (with_bit k 0) k ∙ and_from (has_bit shared k) (has_bit (with_bit k 0) k) way.0 (one_bit k k small ∙ eq-eqb k k refl)) way.1)

-- ---- queries by their footprints

-- queries behind queries
pub footprints_both : (queries others : List (List Term)) (footprints more : List Footprint) → AreFootprints queries footprints → AreFootprints others more →
    AreFootprints (queries ++ others) (footprints ++ more)
footprints_both [] others [] more are those = those
footprints_both [] others (f ∷ footprints) more are those = absurd are
footprints_both (q ∷ queries) others [] more are those = absurd are
footprints_both (q ∷ queries) others (f ∷ footprints) more are those = (are.0, footprints_both queries others footprints more are.1 those)

-- and so of one query more
pub footprints_more : (queries : List (List Term)) (footprints : List Footprint) (q : List Term) (f : Footprint) → AreFootprints queries footprints → IsFootprint q f →
    AreFootprints (queries ++ q ∷ []) (footprints ++ f ∷ [])
footprints_more queries footprints q f are is = footprints_both queries (q ∷ []) footprints (f ∷ []) are (is, tt)

-- whether a query conflicts with some others
some_meet : (q : List Term) (f : Footprint) (others : List (List Term)) (footprints : List Footprint) → IsFootprint q f → AreFootprints others footprints →
    list_any (footprints_meet f) footprints ≡ list_any (queries_meet q) others
some_meet q f [] [] is are = refl
some_meet q f [] (g ∷ footprints) is are = absurd are
some_meet q f (r ∷ others) [] is are = absurd are
some_meet q f (r ∷ others) (g ∷ footprints) is are = ap (λ b. b || list_any (footprints_meet f) footprints) (meet_is q r f g is are.0) ∙ ap (λ b. queries_meet q r || b) (some_meet q f others footprints is are.1)

-- whether some queries conflict with some others
pub any_meet : (queries others : List (List Term)) (footprints more : List Footprint) → AreFootprints queries footprints → AreFootprints others more →
    list_any (λ f. list_any (footprints_meet f) more) footprints ≡ list_any (λ q. list_any (λ r. queries_meet q r) others) queries
any_meet [] others [] more are them = refl
any_meet [] others (f ∷ footprints) more are them = absurd are
any_meet (q ∷ queries) others [] more are them = absurd are
any_meet (q ∷ queries) others (f ∷ footprints) more are them =
    ap (λ b. b || list_any (λ g. list_any (footprints_meet g) more) footprints) (some_meet q f others more are.0 them)
    ∙ ap (λ b. list_any (queries_meet q) others || b) (any_meet queries others footprints more are.1 them)

-- the same at a kind
some_meet_at : (q : List Term) (f : Footprint) (others : List (List Term)) (footprints : List Footprint) (k : ℕ) → k < 64 → IsFootprint q f → AreFootprints others footprints →
    list_any (λ g. footprints_meet_at f g k) footprints ≡ list_any (λ r. queries_conflict_at q r k) others
some_meet_at q f [] [] k low is are = refl
some_meet_at q f [] (g ∷ footprints) k low is are = absurd are
some_meet_at q f (r ∷ others) [] k low is are = absurd are
some_meet_at q f (r ∷ others) (g ∷ footprints) k low is are =
    ap (λ b. b || list_any (λ h. footprints_meet_at f h k) footprints) (met_at q r f g is are.0 k low) ∙ ap (λ b. queries_conflict_at q r k || b) (some_meet_at q f others footprints k low is are.1)

pub any_meet_at : (queries others : List (List Term)) (footprints more : List Footprint) (k : ℕ) → k < 64 → AreFootprints queries footprints → AreFootprints others more →
    list_any (λ f. list_any (λ g. footprints_meet_at f g k) more) footprints ≡ list_any (λ q. list_any (λ r. queries_conflict_at q r k) others) queries
any_meet_at [] others [] more k low are them = refl
any_meet_at [] others (f ∷ footprints) more k low are them = absurd are
any_meet_at (q ∷ queries) others [] more k low are them = absurd are
any_meet_at (q ∷ queries) others (f ∷ footprints) more k low are them =
    ap (λ b. b || list_any (λ g. list_any (λ h. footprints_meet_at g h k) more) footprints) (some_meet_at q f others more k low are.0 them)
    ∙ ap (λ b. list_any (λ r. queries_conflict_at q r k) others || b) (any_meet_at queries others footprints more k low are.1 them)

-- ---- queries that write

-- what a pair of queries means says that the first one may match, and that it writes where it does so at the kind
writer_of : (q r : List Term) (f g : Footprint) → IsFootprint q f → IsFootprint r g → (k : ℕ) → QueriesConflictAt q r k → writes q k ≡ true → is_writing f ≡ true
writer_of q r f g is other k c w =
    let parts = and_parts _ _ (sym (matches-parts c.kinds q) ∙ c.first_matches) in
    let all = way-of_met k (plains q) [] (record { kinds = c.kinds; there = c.holds; holds = parts.0; chosen = refl }) in
    let apart : bit_and f.words.required f.words.excluded ≡ 0 = no_bits (bit_and f.words.required f.words.excluded) (λ j h.
    let both = and_parts (has_bit f.words.required j) (has_bit f.words.excluded j) (sym (bit_of_both f.words.required f.words.excluded j) ∙ h) in
    agree_apart (Has k ∷ plains q) all j (or_right (k == j) (list_any (needs j) (plains q)) (plain_needs q j ∙ (sym (is.words.required j) ∙ both.0)))
    (plain_bars q j ∙ (sym (is.words.excluded j) ∙ both.1))) in
    and_from (not (f.words.written == 0)) (bit_and f.words.required f.words.excluded == 0)
    (not_from_false (f.words.written == 0) (false_from_ne_true (f.words.written == 0) (λ z.
    both_ways (has_bit 0 k) (no_bit k) (subst (λ (word : ℕ). has_bit word k ≡ true) (eqb-true f.words.written 0 z) (is.words.written k ∙ w)))))
    (eq-eqb (bit_and f.words.required f.words.excluded) 0 apart)

footprints_long : (queries : List (List Term)) (footprints : List Footprint) → AreFootprints queries footprints → length footprints ≡ length queries
footprints_long [] [] are = refl
footprints_long [] (f ∷ footprints) are = absurd are
footprints_long (q ∷ queries) [] are = absurd are
footprints_long (q ∷ queries) (f ∷ footprints) are = ap suc (footprints_long queries footprints are.1)

footprint_at : (queries : List (List Term)) (footprints : List Footprint) → AreFootprints queries footprints → (n : ℕ) → n < length footprints → IsFootprint (get_or queries n []) (get_or footprints n no_kinds)
footprint_at [] [] are n low = absurd (omega arith)
footprint_at [] (f ∷ footprints) are n low = absurd are
footprint_at (q ∷ queries) [] are n low = absurd are
footprint_at (q ∷ queries) (f ∷ footprints) are zero low = are.0
footprint_at (q ∷ queries) (f ∷ footprints) are (suc n) low = footprint_at queries footprints are.1 n (omega arith)

-- a query that touches a kind is there
touching_known : (queries : List (List Term)) (n kind : ℕ) → touches (get_or queries n []) kind ≡ true → n < length queries
touching_known queries n kind e = elim (cases_lt n (length queries)) [
  | inl low ↦ low
  | inr past ↦ absurd (false≢true (sym (ap (λ (q : List Term). touches q kind) (get_or_past queries n [] past)) ∙ e))
]

-- parameters of these queries alone
abbrev of_queries : List (List Term) → Params
of_queries queries = record no_params { queries = queries }

two_of : (queries : List (List Term)) → ConflictWithin (of_queries queries) → (kind : ℕ) × TwoConflictAt queries kind
two_of queries (OfKind kind, c) = (kind, c)
two_of queries (OfResource number, inl c) = absurd c
two_of queries (OfResource number, inr c) = absurd (false≢true c.0)
two_of queries (OfEvent kind, inl c) = absurd c
two_of queries (OfEvent kind, inr c) = absurd (false≢true c.0)

-- a query that writes conflicts with another exactly where two conflict
pub writer_tested : (queries : List (List Term)) (footprints : List Footprint) → AreFootprints queries footprints → HasMeetingWriter footprints → two_meet queries ≡ true
writer_tested queries footprints are (n, low, writing, (m, below, differ, meet)) =
    let first = footprint_at queries footprints are n low in
    let second = footprint_at queries footprints are m below in
    let at = conflict_from_queries_meet (get_or queries n []) (get_or queries m []) (sym (meet_is (get_or queries n []) (get_or queries m []) (get_or footprints n no_kinds) (get_or footprints m no_kinds) first second) ∙ meet) in
    let within : ConflictWithin (of_queries queries) = (OfKind at.0, record { first = n; second = m; differ = differ; conflict = at.1 }) in
    only_queries (two_meet queries) ((within_tested (of_queries queries)).1 within)
  where
    only_queries : (b : Bool) → ((b || false) || false) ≡ true → b ≡ true
    only_queries true e = refl
    only_queries false e = e

pub writer_found : (queries : List (List Term)) (footprints : List Footprint) → AreFootprints queries footprints → two_meet queries ≡ true → HasMeetingWriter footprints
writer_found queries footprints are e =
    let tested : conflict_within (of_queries queries) ≡ true = or_left (two_meet queries || false) false (or_left (two_meet queries) false e) in
    let two = two_of queries ((within_tested (of_queries queries)).0 tested) in
    let c = two.1 in
    let long = footprints_long queries footprints are in
    let low : c.first < length footprints = omega (arith, long, touching_known queries c.first two.0 c.conflict.first_touches) in
    let below : c.second < length footprints = omega (arith, long, touching_known queries c.second two.0 c.conflict.second_touches) in
    let q : List Term = get_or queries c.first [] in
    let r : List Term = get_or queries c.second [] in
    let f : Footprint = get_or footprints c.first no_kinds in
    let g : Footprint = get_or footprints c.second no_kinds in
    let first : IsFootprint q f = footprint_at queries footprints are c.first low in
    let second : IsFootprint r g = footprint_at queries footprints are c.second below in
    elim (or_cases (writes q two.0) (writes r two.0) c.conflict.one_writes) [
      | inl w ↦ (c.first, low, writer_of q r f g first second two.0 c.conflict w, (c.second, below, c.differ, meet_is q r f g first second ∙ queries_meet_from q r two.0 c.conflict))
      | inr w ↦
          let back = turned q r two.0 c.conflict in
          (c.second, below, writer_of r q g f second first two.0 back w, (c.first, low, (λ same. c.differ (sym same)), meet_is r q g f second first ∙ queries_meet_from r q two.0 back))
    ]

pub writer_tells : (b : Bool) (queries : List (List Term)) (footprints : List Footprint) → AreFootprints queries footprints → MatchBool b (HasMeetingWriter footprints) (HasMeetingWriter footprints → ⊥) → b ≡ two_meet queries
writer_tells true queries footprints are h = sym (writer_tested queries footprints are h)
writer_tells false queries footprints are h = sym (false_from_ne_true (two_meet queries) (λ e. h (writer_found queries footprints are e)))
