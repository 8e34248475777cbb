-- What a query matches fits its shape.
use Rattle.std.proofs.Common.{◌≡◌, ℕ, suc, ◌+◌, ◌*◌, ◌/◌, ◌%◌, ◌^◌, ◌<◌, true, false, cond, ◌==◌, ◌||◌, inl, inr, List, [], ◌∷◌, map, Option, None, refl, sym, ap, subst, ◌∙◌, arith}
use Rattle.std.specs.Prelude.{bit_and, bit_or}
use Rattle.std.specs.Int.{bit_at}
use Rattle.std.proofs.lemmas.Bool.{and_parts, and_from, eq-eqb, not-true}
use Rattle.std.proofs.lemmas.Bool.Decides.{eqb_tells}
use Rattle.std.proofs.lemmas.Nat.{or_lt}
use Rattle.std.proofs.lemmas.Nat.Bits.{bit_at-zero, bit_at-lt, bit_at_and, bit_at_or, bit_at-pow_same, bit_at-pow_other, and_pow, same_from_bits}
use Rattle.std.proofs.Math.Pow.{pow-lt}
use Rattle.kinds.specs.declared.kind.Kind.{Kind}
use Rattle.kinds.specs.Kind.{kind_number}
use Rattle.kinds.proofs.Numbers.{number_below}
use Rattle.model.specs.Lists.{has}
use Rattle.model.specs.access.Query.{Term, matches, admits}
use Rattle.model.specs.access.Query.Term.{Entity, Read, Mut, Opt, With, Without, Added, Changed, AnyOf}
use Rattle.model.specs.access.QueryFaults.{required, excluded}
use Rattle.archetype_store.specs.LivingSets.{set_number}
use Rattle.archetype_store.specs.Shapes.{shape_number, fits, fitting_from}
use Rattle.archetype_store.specs.Layout.{Archetype}
use Rattle.query.specs.declared.term.Term.{Term as QueryTerm}
use Rattle.query.specs.declared.term.Term.TheVariants as query_term
use Rattle.query.specs.Term.{term_of}
use Rattle.query_plan.specs.Candidates.{bit_named, word_by, shape_of, numbers_where, AreCandidates}

-- ---- bits of words

and_zero : (w : ℕ) → bit_and w 0 ≡ 0
and_zero w = same_from_bits (bit_and w 0) 0 (λ i. bit_at_and w 0 i ∙ omega (arith, bit_at-zero i))

-- what both words have of a third
both_within : (w a b : ℕ) → bit_and w a ≡ a → bit_and w b ≡ b → bit_and w (bit_or a b) ≡ bit_or a b
both_within w a b p q =
    same_from_bits (bit_and w (bit_or a b)) (bit_or a b) (λ i.
    let x = sym (bit_at_and w a i) ∙ ap (λ n. bit_at n i) p in
    let y = sym (bit_at_and w b i) ∙ ap (λ n. bit_at n i) q in
    let o = bit_at_or a b i in
    bit_at_and w (bit_or a b) i ∙ omega (arith, x, y, o))

both_apart : (w a b : ℕ) → bit_and w a ≡ 0 → bit_and w b ≡ 0 → bit_and w (bit_or a b) ≡ 0
both_apart w a b p q =
    same_from_bits (bit_and w (bit_or a b)) 0 (λ i.
    let x = sym (bit_at_and w a i) ∙ ap (λ n. bit_at n i) p in
    let y = sym (bit_at_and w b i) ∙ ap (λ n. bit_at n i) q in
    let o = bit_at_or a b i in
    bit_at_and w (bit_or a b) i ∙ omega (arith, x, y, o, bit_at-zero i))

-- the bit of a kind among those of kinds
bit_there : (k : ℕ) (kinds : List ℕ) → has k kinds ≡ true → bit_at (set_number kinds) k ≡ 1
bit_there k [] h = absurd (cc)
bit_there k (m ∷ ms) h = elim (eqb_tells m k) [
  | inl same ↦
      let one : bit_at (2 ^ m) k ≡ 1 = ap (bit_at (2 ^ m)) (sym same.1) ∙ bit_at-pow_same m in
      bit_at_or (2 ^ m) (set_number ms) k ∙ omega (arith, one, bit_at-lt (set_number ms) k)
  | inr other ↦
      let rest : bit_at (set_number ms) k ≡ 1 = bit_there k ms (ap (λ b. b || has k ms) (sym other.0) ∙ h) in
      bit_at_or (2 ^ m) (set_number ms) k ∙ omega (arith, rest, bit_at-lt (2 ^ m) k)
]

bit_absent : (k : ℕ) (kinds : List ℕ) → has k kinds ≡ false → bit_at (set_number kinds) k ≡ 0
bit_absent k [] h = bit_at-zero k
bit_absent k (m ∷ ms) h = elim (eqb_tells m k) [
  | inl same ↦ absurd (let e : true ≡ false = sym (ap (λ b. b || has k ms) same.0) ∙ h in cc)
  | inr other ↦
      let here : bit_at (2 ^ m) k ≡ 0 = bit_at-pow_other m k (λ e. other.1 (sym e)) in
      let rest : bit_at (set_number ms) k ≡ 0 = bit_absent k ms (ap (λ b. b || has k ms) (sym other.0) ∙ h) in
      bit_at_or (2 ^ m) (set_number ms) k ∙ omega (arith, here, rest)
]

module _ (kinds : List ℕ) where
  there : (k : ℕ) → has k kinds ≡ true → bit_and (set_number kinds) (2 ^ k) ≡ 2 ^ k
  there k h = and_pow (set_number kinds) k ∙ ap (λ b. b * 2 ^ k) (bit_there k kinds h) ∙ omega arith

  absent : (k : ℕ) → has k kinds ≡ false → bit_and (set_number kinds) (2 ^ k) ≡ 0
  absent k h = and_pow (set_number kinds) k ∙ ap (λ b. b * 2 ^ k) (bit_absent k kinds h) ∙ omega arith

  -- ---- a term

  required_there : (t : Term) → admits (λ k. has k kinds) t ≡ true → bit_and (set_number kinds) (bit_named (required t)) ≡ bit_named (required t)
  required_there Entity h = and_zero (set_number kinds)
  required_there (Read k) h = there k h
  required_there (Mut k) h = there k h
  required_there (Opt k) h = and_zero (set_number kinds)
  required_there (With k) h = there k h
  required_there (Without k) h = and_zero (set_number kinds)
  required_there (Added k) h = there k h
  required_there (Changed k) h = there k h
  required_there (AnyOf alternatives) h = and_zero (set_number kinds)

  excluded_absent : (t : Term) → admits (λ k. has k kinds) t ≡ true → bit_and (set_number kinds) (bit_named (excluded t)) ≡ 0
  excluded_absent Entity h = and_zero (set_number kinds)
  excluded_absent (Read k) h = and_zero (set_number kinds)
  excluded_absent (Mut k) h = and_zero (set_number kinds)
  excluded_absent (Opt k) h = and_zero (set_number kinds)
  excluded_absent (With k) h = and_zero (set_number kinds)
  excluded_absent (Without k) h = absent k (not-true (has k kinds) h)
  excluded_absent (Added k) h = and_zero (set_number kinds)
  excluded_absent (Changed k) h = and_zero (set_number kinds)
  excluded_absent (AnyOf alternatives) h = and_zero (set_number kinds)

  -- ---- a query

  all_there : (query : List Term) → matches query (λ k. has k kinds) ≡ true → bit_and (set_number kinds) (word_by required query) ≡ word_by required query
  all_there [] h = and_zero (set_number kinds)
  all_there (t ∷ ts) h =
      let parts = and_parts (admits (λ k. has k kinds) t) (matches ts (λ k. has k kinds)) h in
      both_within (set_number kinds) (bit_named (required t)) (word_by required ts) (required_there t parts.0) (all_there ts parts.1)

  all_absent : (query : List Term) → matches query (λ k. has k kinds) ≡ true → bit_and (set_number kinds) (word_by excluded query) ≡ 0
  all_absent [] h = and_zero (set_number kinds)
  all_absent (t ∷ ts) h =
      let parts = and_parts (admits (λ k. has k kinds) t) (matches ts (λ k. has k kinds)) h in
      both_apart (set_number kinds) (bit_named (excluded t)) (word_by excluded ts) (excluded_absent t parts.0) (all_absent ts parts.1)

-- ---- words are small

bit_small : (k : Kind) → 2 ^ kind_number k < 1048576
bit_small k = pow-lt (number_below k)

nothing_small : bit_named None < 1048576
nothing_small = omega arith

required_small : (t : QueryTerm) → bit_named (required (term_of t)) < 1048576
required_small query_term.Entity = nothing_small
required_small (query_term.Read k) = bit_small k
required_small (query_term.Mut k) = bit_small k
required_small (query_term.Opt k) = nothing_small
required_small (query_term.With k) = bit_small k
required_small (query_term.Without k) = nothing_small
required_small (query_term.Added k) = bit_small k
required_small (query_term.Changed k) = bit_small k
required_small (query_term.Or alternatives) = nothing_small

word_small : (named : Term → Option ℕ) → ((t : QueryTerm) → bit_named (named (term_of t)) < 1048576) → (ts : List QueryTerm) → word_by named (map term_of ts) < 1048576
word_small named each [] = omega arith
word_small named each (t ∷ ts) = or_lt 20 (bit_named (named (term_of t))) (word_by named (map term_of ts)) (each t) (word_small named each ts)

-- ---- what is matched fits

words_fit : (number r x w : ℕ) → number ≡ r + x * 4294967296 → r < 1048576 → bit_and w r ≡ r → bit_and w x ≡ 0 → fits number w ≡ true
words_fit number r x w is small has_all has_none =
    let low : number % 4294967296 ≡ r = omega arith in
    let high : number / 4294967296 ≡ x = omega arith in
    and_from (bit_and w (number % 4294967296) == number % 4294967296) (bit_and w (number / 4294967296) == 0)
    (eq-eqb _ _ (ap (bit_and w) low ∙ has_all ∙ sym low)) (eq-eqb _ _ (ap (bit_and w) high ∙ has_none))

pub matched_fits : (ts : List QueryTerm) (query : List Term) (number : ℕ) → map term_of ts ≡ query → number ≡ shape_number (shape_of query) → (kinds : List ℕ) →
    matches query (λ k. has k kinds) ≡ true → fits number (set_number kinds) ≡ true
matched_fits ts query number same is kinds h =
    words_fit number (word_by required query) (word_by excluded query) (set_number kinds) is
    (subst (λ q. word_by required q < 1048576) same (word_small required required_small ts)) (all_there kinds query h) (all_absent kinds query h)

fitting_where : (number n : ℕ) (layout : List Archetype) → fitting_from number n layout ≡ numbers_where (λ kinds. fits number (set_number kinds)) n layout
fitting_where number n [] = refl
fitting_where number n (a ∷ others) = ap (λ rest. cond (fits number (set_number a.kinds)) (n ∷ rest) rest) (fitting_where number (suc n) others)

-- those that fit are all that it may match
pub fitting_candidates : (ts : List QueryTerm) (query : List Term) (number : ℕ) (layout : List Archetype) (ns : List ℕ) → map term_of ts ≡ query → number ≡ shape_number (shape_of query) →
    ns ≡ fitting_from number 0 layout → AreCandidates query layout ns
fitting_candidates ts query number layout ns same is theirs = record {
  test = λ kinds. fits number (set_number kinds);
  theirs = theirs ∙ fitting_where number 0 layout;
  passed = λ kinds h. matched_fits ts query number same is kinds h;
}
