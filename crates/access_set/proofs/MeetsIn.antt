-- Whether two accesses meet by some sets of kinds is what the words and choices of their queries say.
use Rattle.std.proofs.Common.{ℕ, ◌<◌, ◌≡◌, ◌≢◌, ◌↔◌, Bool, true, false, not, ◌==◌, ◌||◌, ◌&&◌, inl, inr, List, [], ◌∷◌, map, Option, Some, None, refl, sym, ap, ap₂, ◌∙◌, subst, arith}
use Rattle.std.specs.Prelude.{bit_and}
use Rattle.std.specs.Int.{bit_at}
use Rattle.std.specs.List.{list_any, list_all}
use Rattle.std.proofs.lemmas.Bool.{eqb-true, eq-eqb, both_ways, false≢true, false_from_ne_true, and_parts, and_from, or_cases, or_left, or_right, not-true, not_from_false, cases_Bool}
use Rattle.std.proofs.lemmas.Bool.Decides.{eqb_tells}
use Rattle.std.proofs.lemmas.Nat.Bits.{bit_at-lt, same_from_bits}
use Rattle.model.specs.Lists.{IsIn, is_number}
use Rattle.model.specs.state.KindSets.{set_of}
use Rattle.model.specs.access.Query.{Alternative, Term, holds_in, matches, touched, touches, writes}
use Rattle.model.specs.access.Query.Alternative.{Has, Lacks}
use Rattle.model.specs.access.Access.{Params}
use Rattle.model.specs.access.Conflict.{plains, needs, bars}
use Rattle.model.specs.access.Conflict.Datum.{OfKind, OfResource, OfEvent}
use Rattle.model.specs.access.Meeting.{Meet, queries_meet_by, queries_meet_at}
use Rattle.model.proofs.lists.Lists.{list_any-IsIn, IsIn_from_any, list_all-IsIn, list_all_from, same_tests}
use Rattle.model.proofs.serial.ConflictTests.{matches-parts}
use Rattle.model.proofs.serial.MeetTests.{test-from_meet, meet-from_test}
use Rattle.query.specs.Alternative.{alternative_of, alternatives_of, listed}
use Rattle.query.specs.declared.alternative.Alternatives.{Alternatives}
use Rattle.query.proofs.Terms.{list_any-map}
use Rattle.access_set.specs.declared.footprint.Footprint.{Footprint}
use Rattle.access_set.specs.Footprints.{has_bit, IsFootprint, AreFootprints, kinds_shared}
use Rattle.access_set.specs.Meets.{MeetAtResource, MeetAtEvent}
use Rattle.access_set.specs.MeetsIn.{footprint_matches, footprints_meet_by, MeetAtKindIn}
use Rattle.access_set.proofs.Bits.{bit_of_both, no_bit, no_bits}
use Rattle.access_set.proofs.Ways.{plain_needs, plain_bars}
use Rattle.access_set.proofs.Footprints.{shared_is}

-- tests of alternatives are tests of what they stand for
pub chosen_of_each : (word : ℕ) (xs : List Alternatives) →
    list_all (λ alternatives. list_any (holds_in (has_bit word)) alternatives) (map alternatives_of xs) ≡ list_all (λ x. list_any (λ a. holds_in (has_bit word) (alternative_of a)) (listed x)) xs
chosen_of_each word [] = refl
chosen_of_each word (x ∷ xs) = ap₂ ◌&&◌ (list_any-map (holds_in (has_bit word)) alternative_of (listed x)) (chosen_of_each word xs)

pub ruleset of_choices = (chosen_of_each)

-- ---- words

-- words with the same bits are one
same_word : (x y : ℕ) → ((i : ℕ) → has_bit x i ≡ has_bit y i) → x ≡ y
same_word x y same = same_from_bits x y (λ i.
    let low : bit_at x i < 2 = bit_at-lt x i in
    let high : bit_at y i < 2 = bit_at-lt y i in
    elim (eqb_tells (bit_at x i) 1) [
      | inl here ↦ let one : bit_at x i ≡ 1 = here.1 in let other : bit_at y i ≡ 1 = eqb-true (bit_at y i) 1 (sym (same i) ∙ here.0) in omega arith
      | inr there ↦
          let none : bit_at x i ≢ 1 = there.1 in
          let other : bit_at y i ≢ 1 = λ e. both_ways (bit_at y i == 1) (sym (same i) ∙ there.0) (eq-eqb (bit_at y i) 1 e) in
          omega arith
    ])

-- whether a word has the bit of the kind that a term touches, where it touches one
abbrev touched_bit : ℕ → Option ℕ → Bool
touched_bit word None = false
touched_bit word (Some kind) = has_bit word kind

-- a term that touches a kind with a bit passes
touched_there : (word kind : ℕ) (o : Option ℕ) → is_number kind o ≡ true → has_bit word kind ≡ true → touched_bit word o ≡ true
touched_there word kind None e h = absurd (false≢true e)
touched_there word kind (Some k) e h = subst (λ (i : ℕ). has_bit word i ≡ true) (sym (eqb-true k kind e)) h

-- one that passes touches a kind with a bit
bit_of_touched : (word : ℕ) (o : Option ℕ) → touched_bit word o ≡ true → (kind : ℕ) × (has_bit word kind ≡ true)
bit_of_touched word None e = absurd (false≢true e)
bit_of_touched word (Some kind) e = (kind, e)

-- a word that isn't 0 and has bits of kinds alone that a query touches has the bit of one of them
some_bit : (q : List Term) (word : ℕ) → ((i : ℕ) → has_bit word i ≡ true → touches q i ≡ true) → (word == 0) ≡ false → (kind : ℕ) × (has_bit word kind ≡ true)
some_bit q word among some = elim (cases_Bool (list_any (λ t. touched_bit word (touched t)) q)) [
  | inl e ↦ let found = IsIn_from_any (λ t. touched_bit word (touched t)) q e in bit_of_touched word (touched found.0) found.2
  | inr none ↦ absurd (both_ways (word == 0) some (eq-eqb word 0 (no_bits word (λ i h.
      let t = IsIn_from_any (λ t. is_number i (touched t)) q (among i h) in
      both_ways (list_any (λ t. touched_bit word (touched t)) q) none
      (list_any-IsIn (λ t. touched_bit word (touched t)) t.0 q t.1 (touched_there word i (touched t.0) t.2 h))))))
]

-- ---- what terms ask without a choice

-- a kind that alternatives need is in a set of which they hold
needed_there : (word k : ℕ) (a : Alternative) → needs k a ≡ true → holds_in (has_bit word) a ≡ true → has_bit word k ≡ true
needed_there word k (Has j) e h = subst (λ (i : ℕ). has_bit word i ≡ true) (eqb-true j k e) h
needed_there word k (Lacks j) e h = absurd (false≢true e)

-- one that they bar isn't
barred_away : (word k : ℕ) (a : Alternative) → bars k a ≡ true → holds_in (has_bit word) a ≡ true → has_bit word k ≡ false
barred_away word k (Has j) e h = absurd (false≢true e)
barred_away word k (Lacks j) e h = subst (λ (i : ℕ). has_bit word i ≡ false) (eqb-true j k e) (not-true (has_bit word j) h)

-- what is required of a word that has it all
required_all : (q : List Term) (f : Footprint) (word : ℕ) → IsFootprint q f → list_all (holds_in (has_bit word)) (plains q) ≡ true →
    bit_and f.words.required word ≡ f.words.required
required_all q f word is h = same_word (bit_and f.words.required word) f.words.required (λ i.
    bit_of_both f.words.required word i ∙ kept (has_bit f.words.required i) (has_bit word i) (λ e.
    let a = IsIn_from_any (needs i) (plains q) (plain_needs q i ∙ (sym (is.words.required i) ∙ e)) in
    needed_there word i a.0 a.2 (list_all-IsIn (holds_in (has_bit word)) a.0 (plains q) h a.1)))
  where
    kept : (a b : Bool) → (a ≡ true → b ≡ true) → (a && b) ≡ a
    kept true b g = g refl
    kept false b g = refl

-- what is excluded of a word that has none of it
excluded_none : (q : List Term) (f : Footprint) (word : ℕ) → IsFootprint q f → list_all (holds_in (has_bit word)) (plains q) ≡ true →
    bit_and f.words.excluded word ≡ 0
excluded_none q f word is h = no_bits (bit_and f.words.excluded word) (λ i e.
    let both = and_parts (has_bit f.words.excluded i) (has_bit word i) (sym (bit_of_both f.words.excluded word i) ∙ e) in
    let a = IsIn_from_any (bars i) (plains q) (plain_bars q i ∙ (sym (is.words.excluded i) ∙ both.0)) in
    both_ways (has_bit word i) (barred_away word i a.0 a.2 (list_all-IsIn (holds_in (has_bit word)) a.0 (plains q) h a.1)) both.1)

-- a word that has what is required and lacks what is excluded
each_plain : (q : List Term) (f : Footprint) (word : ℕ) → IsFootprint q f → bit_and f.words.required word ≡ f.words.required → bit_and f.words.excluded word ≡ 0 →
    (a : Alternative) → IsIn a (plains q) → holds_in (has_bit word) a ≡ true
each_plain q f word is required excluded (Has k) inside =
    let asked : has_bit f.words.required k ≡ true = is.words.required k ∙ (sym (plain_needs q k) ∙ list_any-IsIn (needs k) (Has k) (plains q) inside (eq-eqb k k refl)) in
    (and_parts (has_bit f.words.required k) (has_bit word k) (sym (bit_of_both f.words.required word k) ∙ (ap (λ (x : ℕ). has_bit x k) required ∙ asked))).1
each_plain q f word is required excluded (Lacks k) inside =
    let barred : has_bit f.words.excluded k ≡ true = is.words.excluded k ∙ (sym (plain_bars q k) ∙ list_any-IsIn (bars k) (Lacks k) (plains q) inside (eq-eqb k k refl)) in
    not_from_false (has_bit word k) (false_from_ne_true (has_bit word k) (λ e.
    both_ways (has_bit 0 k) (no_bit k) (ap (λ (x : ℕ). has_bit x k) (sym excluded) ∙ (bit_of_both f.words.excluded word k ∙ and_from (has_bit f.words.excluded k) (has_bit word k) barred e))))

-- so the words say whether what terms ask without a choice holds
plain_is : (q : List Term) (f : Footprint) (word : ℕ) → IsFootprint q f →
    ((bit_and f.words.required word == f.words.required) && (bit_and f.words.excluded word == 0)) ≡ list_all (holds_in (has_bit word)) (plains q)
plain_is q f word is = same_tests ((bit_and f.words.required word == f.words.required) && (bit_and f.words.excluded word == 0)) (list_all (holds_in (has_bit word)) (plains q))
    (λ e.
    let both = and_parts (bit_and f.words.required word == f.words.required) (bit_and f.words.excluded word == 0) e in
    list_all_from (holds_in (has_bit word)) (plains q)
    (each_plain q f word is (eqb-true (bit_and f.words.required word) f.words.required both.0) (eqb-true (bit_and f.words.excluded word) 0 both.1)))
    (λ h. and_from (bit_and f.words.required word == f.words.required) (bit_and f.words.excluded word == 0)
    (eq-eqb (bit_and f.words.required word) f.words.required (required_all q f word is h)) (eq-eqb (bit_and f.words.excluded word) 0 (excluded_none q f word is h)))

-- ---- queries

-- the words and the choices say whether the set of a word matches a query
pub matches_is : (q : List Term) (f : Footprint) (word : ℕ) → IsFootprint q f → footprint_matches word f ≡ matches q (set_of word)
matches_is q f word is =
    ap₂ (λ a (more : List (List Alternative)). a && list_all (λ alternatives. list_any (holds_in (has_bit word)) alternatives) more) (plain_is q f word is) is.choices
    ∙ sym (matches-parts (set_of word) q)

-- and whether two queries conflict by it
pub meet_by_is : (q r : List Term) (f g : Footprint) (word : ℕ) → IsFootprint q f → IsFootprint r g →
    (footprints_meet_by f g word ≡ true) ↔ ((kind : ℕ) × (queries_meet_by q r kind word ≡ true))
meet_by_is q r f g word is other = (found, tested)
  where
    shared : ℕ
    shared = kinds_shared f.words g.words

    at : (kind : ℕ) → matches q (set_of word) ≡ true → matches r (set_of word) ≡ true → has_bit (bit_and shared word) kind ≡ true → queries_meet_by q r kind word ≡ true
    at kind first second e =
        let both = and_parts (has_bit shared kind) (has_bit word kind) (sym (bit_of_both shared word kind) ∙ e) in
        and_from _ _ (and_from _ _ (and_from _ _ (sym (shared_is q r f.words g.words is.words other.words kind) ∙ both.0) first) second) both.1

    found : footprints_meet_by f g word ≡ true → (kind : ℕ) × (queries_meet_by q r kind word ≡ true)
    found e =
        let p = and_parts (footprint_matches word f && footprint_matches word g) (not (bit_and shared word == 0)) e in
        let m = and_parts (footprint_matches word f) (footprint_matches word g) p.0 in
        let bit = some_bit q (bit_and shared word) (λ i h.
        let both = and_parts (has_bit shared i) (has_bit word i) (sym (bit_of_both shared word i) ∙ h) in
        let says = and_parts (touches q i && touches r i) (writes q i || writes r i) (sym (shared_is q r f.words g.words is.words other.words i) ∙ both.0) in
        (and_parts (touches q i) (touches r i) says.0).0) (not-true (bit_and shared word == 0) p.1) in
        (bit.0, at bit.0 (sym (matches_is q f word is) ∙ m.0) (sym (matches_is r g word other) ∙ m.1) bit.1)

    tested : ((kind : ℕ) × (queries_meet_by q r kind word ≡ true)) → footprints_meet_by f g word ≡ true
    tested (kind, e) =
        let held = and_parts (touches q kind && touches r kind && (writes q kind || writes r kind) && matches q (set_of word) && matches r (set_of word)) (set_of word kind) e in
        let second = and_parts (touches q kind && touches r kind && (writes q kind || writes r kind) && matches q (set_of word)) (matches r (set_of word)) held.0 in
        let first = and_parts (touches q kind && touches r kind && (writes q kind || writes r kind)) (matches q (set_of word)) second.0 in
        let bit : has_bit (bit_and shared word) kind ≡ true =
        bit_of_both shared word kind ∙ and_from (has_bit shared kind) (has_bit word kind) (shared_is q r f.words g.words is.words other.words kind ∙ first.0) held.1 in
        and_from (footprint_matches word f && footprint_matches word g) (not (bit_and shared word == 0))
        (and_from (footprint_matches word f) (footprint_matches word g) (matches_is q f word is ∙ first.1) (matches_is r g word other ∙ second.1))
        (not_from_false (bit_and shared word == 0) (false_from_ne_true (bit_and shared word == 0) (λ z.
        both_ways (has_bit 0 kind) (no_bit kind) (subst (λ (x : ℕ). has_bit x kind ≡ true) (eqb-true (bit_and shared word) 0 z) bit))))

-- so by one of some sets
meet_in_is : (q r : List Term) (f g : Footprint) (sets : List ℕ) → IsFootprint q f → IsFootprint r g →
    (list_any (footprints_meet_by f g) sets ≡ true) ↔ ((kind : ℕ) × (queries_meet_at (Some sets) q r kind ≡ true))
meet_in_is q r f g sets is other = (
  (λ e.
      let set = IsIn_from_any (footprints_meet_by f g) sets e in
      let at = (meet_by_is q r f g set.0 is other).0 set.2 in
      (at.0, list_any-IsIn (queries_meet_by q r at.0) set.0 sets set.1 at.1)),
  (λ (kind, e).
      let set = IsIn_from_any (queries_meet_by q r kind) sets e in
      list_any-IsIn (footprints_meet_by f g) set.0 sets set.1 ((meet_by_is q r f g set.0 is other).1 (kind, set.2))),
)

-- ---- accesses

-- a query of which a footprint passes a test
found_in : (P : List Term → Type 0) (test : Footprint → Bool) (queries : List (List Term)) (footprints : List Footprint) → AreFootprints queries footprints →
    ((q : List Term) (f : Footprint) → IsFootprint q f → test f ≡ true → P q) → list_any test footprints ≡ true → (q : List Term) × IsIn q queries × P q
found_in P test [] [] are tells e = absurd (false≢true e)
found_in P test [] (f ∷ footprints) are tells e = absurd are
found_in P test (q ∷ queries) [] are tells e = absurd are
found_in P test (q ∷ queries) (f ∷ footprints) are tells e = elim (or_cases (test f) (list_any test footprints) e) [
  | inl here ↦ (q, inl refl, tells q f are.0 here)
  | inr there ↦ let r : (q : List Term) × IsIn q queries × P q = found_in P test queries footprints are.1 tells there in (r.0, inr r.1, r.2)
]

-- and where a query is, a footprint passes it
tested_in : (P : List Term → Type 0) (test : Footprint → Bool) (queries : List (List Term)) (footprints : List Footprint) → AreFootprints queries footprints →
    ((q : List Term) (f : Footprint) → IsFootprint q f → P q → test f ≡ true) → (q : List Term) → IsIn q queries → P q → list_any test footprints ≡ true
tested_in P test [] footprints are tells q i p = absurd i
tested_in P test (r ∷ queries) [] are tells q i p = absurd are
tested_in P test (r ∷ queries) (f ∷ footprints) are tells q (inl same) p = or_left (test f) (list_any test footprints) (tells r f are.0 (subst P same p))
tested_in P test (r ∷ queries) (f ∷ footprints) are tells q (inr i) p = or_right (test f) (list_any test footprints) (tested_in P test queries footprints are.1 tells q i p)

-- a query meets one of some others at some kind
abbrev MeetsOne : List ℕ → List (List Term) → List Term → Type 0
MeetsOne sets others q = (r : List Term) × IsIn r others × ((kind : ℕ) × (queries_meet_at (Some sets) q r kind ≡ true))

-- so the footprints say
meets_one_is : (sets : List ℕ) (others : List (List Term)) (more : List Footprint) (q : List Term) (f : Footprint) → AreFootprints others more → IsFootprint q f →
    (list_any (λ g. list_any (footprints_meet_by f g) sets) more ≡ true) ↔ MeetsOne sets others q
meets_one_is sets others more q f are is = (
  found_in (λ r. (kind : ℕ) × (queries_meet_at (Some sets) q r kind ≡ true)) (λ g. list_any (footprints_meet_by f g) sets) others more are
      (λ r g other e. (meet_in_is q r f g sets is other).0 e),
  (λ one. tested_in (λ r. (kind : ℕ) × (queries_meet_at (Some sets) q r kind ≡ true)) (λ g. list_any (footprints_meet_by f g) sets) others more are
      (λ r g other e. (meet_in_is q r f g sets is other).1 e) one.0 one.1 one.2),
)

-- two accesses meet at a kind exactly where footprints of theirs do
pub at_kind_in : (a b : Params) (sets : List ℕ) (footprints more : List Footprint) → AreFootprints a.queries footprints → AreFootprints b.queries more →
    (list_any (λ f. list_any (λ g. list_any (footprints_meet_by f g) sets) more) footprints ≡ true) ↔ MeetAtKindIn sets a b
at_kind_in a b sets footprints more are those = (found, tested)
  where
    found : list_any (λ f. list_any (λ g. list_any (footprints_meet_by f g) sets) more) footprints ≡ true → MeetAtKindIn sets a b
    found e =
        let one : (q : List Term) × IsIn q a.queries × MeetsOne sets b.queries q =
        found_in (MeetsOne sets b.queries) (λ f. list_any (λ g. list_any (footprints_meet_by f g) sets) more) a.queries footprints are
        (λ q f is h. (meets_one_is sets b.queries more q f those is).0 h) e in
        let kind : ℕ = one.2.2.0 in (
          kind,
          meet-from_test (Some sets) a b (OfKind kind)
              (list_any-IsIn (λ q. list_any (λ r. queries_meet_at (Some sets) q r kind) b.queries) one.0 a.queries one.1
              (list_any-IsIn (λ r. queries_meet_at (Some sets) one.0 r kind) one.2.0 b.queries one.2.1 one.2.2.1)),
        )

    tested : MeetAtKindIn sets a b → list_any (λ f. list_any (λ g. list_any (footprints_meet_by f g) sets) more) footprints ≡ true
    tested (kind, m) =
        let first = IsIn_from_any (λ q. list_any (λ r. queries_meet_at (Some sets) q r kind) b.queries) a.queries (test-from_meet (Some sets) a b (OfKind kind) m) in
        let second = IsIn_from_any (λ r. queries_meet_at (Some sets) first.0 r kind) b.queries first.2 in
        tested_in (MeetsOne sets b.queries) (λ f. list_any (λ g. list_any (footprints_meet_by f g) sets) more) a.queries footprints are
        (λ q f is h. (meets_one_is sets b.queries more q f those is).1 h) first.0 first.1 (second.0, second.1, (kind, second.2))

-- where they meet at a kind, a resource or an event kind they meet
pub meet_by_kind : (a b : Params) (sets : List ℕ) → MeetAtKindIn sets a b → Meet (Some sets) a b
meet_by_kind a b sets (kind, m) = (OfKind kind, m)

pub meet_by_resource : (a b : Params) (sets : List ℕ) → MeetAtResource a b → Meet (Some sets) a b
meet_by_resource a b sets (number, m) = (OfResource number, m)

pub meet_by_event : (a b : Params) (sets : List ℕ) → MeetAtEvent a b → Meet (Some sets) a b
meet_by_event a b sets (kind, m) = (OfEvent kind, m)

-- and where it is neither at a kind nor at a resource it is at an event kind
pub else_event_in : (a b : Params) (sets : List ℕ) → (MeetAtKindIn sets a b → ⊥) → (MeetAtResource a b → ⊥) → Meet (Some sets) a b → MeetAtEvent a b
else_event_in a b sets no_kind no_resource (OfKind kind, m) = absurd (no_kind (kind, m))
else_event_in a b sets no_kind no_resource (OfResource number, m) = absurd (no_resource (number, m))
else_event_in a b sets no_kind no_resource (OfEvent kind, m) = (kind, m)
