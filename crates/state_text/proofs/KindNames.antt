-- The kind of a number is found by its name.
use Rattle.std.proofs.Common.{◌≡◌, ℕ, zero, suc, ◌<◌, Bool, true, false, ◌&&◌, eqb, List, [], ◌∷◌, get_or, Option, Some, None, refl, ap, ap₂, ◌∙◌, inl, inr, arith}
use Rattle.std.proofs.lemmas.Bool.{and_parts, eqb-true, cases_lt}
use Rattle.kinds.specs.declared.kind.Kind.{Kind}
use Rattle.kinds.specs.declared.kind.Kind.TheVariants.{Position, Velocity, Health, Damage, Team, Timer, Score, Energy, Charge, Target, Frozen, Hidden, Home, Mass, Armor, Range, Level, Rank, Sleeping, Marked}
use Rattle.kinds.specs.Kind.{kind_count, kind_number, kind_name, name_of_kind, IsKind}
use Rattle.parsing.specs.Reads.{Reads}
use Rattle.state_text.proofs.Spelled.{read_none, read_only}

-- ---- tests of numbers

-- what is tested of each number below a bound
abbrev pub all_below : (ℕ → Bool) → ℕ → Bool
all_below test zero = true
all_below test (suc n) = test n && all_below test n

pub at_below : (test : ℕ → Bool) (n k : ℕ) → all_below test n ≡ true → k < n → test k ≡ true
at_below test zero k h low = absurd (omega arith)
at_below test (suc n) k h low =
    let parts = and_parts (test n) (all_below test n) h in
    elim (cases_lt k n) [
      | inl below ↦ at_below test n k parts.1 below
      | inr top ↦ let e : k ≡ n = omega arith in rw e parts.0
    ]

abbrev pub same_word : List ℕ → List ℕ → Bool
same_word [] [] = true
same_word [] (d ∷ ds) = false
same_word (c ∷ cs) [] = false
same_word (c ∷ cs) (d ∷ ds) = eqb c d && same_word cs ds

same_word-true : (cs ds : List ℕ) → same_word cs ds ≡ true → cs ≡ ds
same_word-true [] [] h = refl
same_word-true [] (d ∷ ds) h = absurd (cc)
same_word-true (c ∷ cs) [] h = absurd (cc)
same_word-true (c ∷ cs) (d ∷ ds) h = let parts = and_parts (eqb c d) (same_word cs ds) h in ap₂ ◌∷◌ (eqb-true c d parts.0) (same_word-true cs ds parts.1)

-- ---- kinds

abbrev kind_at : ℕ → Kind
kind_at n =
    get_or (Position ∷ Velocity ∷ Health ∷ Damage ∷ Team ∷ Timer ∷ Score ∷ Energy ∷ Charge ∷ Target ∷ Frozen ∷ Hidden ∷ Home ∷ Mass ∷ Armor ∷ Range ∷ Level ∷ Rank ∷ Sleeping ∷ Marked ∷ []) n Position

number_at : (n : ℕ) → n < kind_count → kind_number (kind_at n) ≡ n
number_at n low = eqb-true (kind_number (kind_at n)) n (at_below (λ k. eqb (kind_number (kind_at k)) k) kind_count n refl low)

name_at : (n : ℕ) → n < kind_count → name_of_kind n ≡ kind_name (kind_at n)
name_at n low = same_word-true (name_of_kind n) (kind_name (kind_at n)) (at_below (λ k. same_word (name_of_kind k) (kind_name (kind_at k))) kind_count n refl low)

-- a reader of the names of kinds, at the name of the kind of a number
module _ (word : List ℕ) (r : Option Kind) (h : Reads IsKind word r) (n : ℕ) (low : n < kind_count) (e : word ≡ name_of_kind n) where
  pub a_kind : r ≡ None → ⊥
  a_kind none = read_none IsKind word r (kind_at n) (e ∙ name_at n low) h none

  pub its_kind : (kind : Kind) → r ≡ Some kind → kind_number kind ≡ n
  its_kind kind some = ap kind_number (read_only IsKind word r (kind_at n) kind (e ∙ name_at n low) h some) ∙ number_at n low
