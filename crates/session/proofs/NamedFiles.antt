-- The line that names a file, in front of a text of a state.
use Rattle.std.proofs.Common.{◌≡◌, ◌≢◌, ℕ, ◌<◌, ⊎_elim, List, ◌++◌, length, get_or, drop, codes, Option, Some, None, sym, ap, subst, ◌∙◌, arith}
use Rattle.std.specs.Borrow.{Bor}
use Rattle.std.specs.Option.{MatchOption}
use Rattle.std.proofs.lemmas.Str.Pattern.{split_after, IsSplitOnceResult}
use Rattle.model.proofs.lists.Each.{each-append, each-at, each-weaker}
use Rattle.parsing.specs.Reads.{SpellsNone}
use Rattle.session.specs.Saved.{AreDigits, IsDigit, IsHead}

-- the front of the line
front : List ℕ → List ℕ
front digits = codes "file " ++ digits

-- no byte of it ends the line
no_end : (digits : List ℕ) → AreDigits digits → (i : ℕ) → i < length (front digits) → get_or (front digits) i 0 ≢ 10
unfolding front
no_end digits are i l =
    each-at (λ b. b ≢ 10) (codes "file " ++ digits) i 0 l
    (each-append (λ b. b ≢ 10) (codes "file ") digits (let other : (b : ℕ) → 10 < b → b ≢ 10 = λ b l e. omega (arith, l, e) in
    (other 102 (omega arith), (other 105 (omega arith), (other 108 (omega arith), (other 101 (omega arith), (other 32 (omega arith), tt))))))
    (each-weaker IsDigit (λ b. b ≢ 10) (λ b h e. ⊎_elim (λ k. omega (arith, k.0, e)) (λ k. omega (arith, k.0, e)) h) digits are.1))

module _ (text : List ℕ) (r : Option (Bor (List ℕ) × Bor (List ℕ))) (cut : IsSplitOnceResult 10 text r) where
  -- the line is what stands in front of the first end of a line
  head_cut : (head : List ℕ × List ℕ) → IsHead head text → MatchOption r ⊥ (λ x. (x.0.now ≡ front head.0) × (x.1.now ≡ head.1))
  unfolding front
  head_cut head h = split_after 10 text (front head.0) head.1 r cut (omega arith) h.1 (no_end head.0 h.0)

  -- there is none
  pub no_head : r ≡ None → SpellsNone IsHead text
  no_head none head h = subst (λ o. MatchOption o ⊥ (λ x. (x.0.now ≡ front head.0) × (x.1.now ≡ head.1))) none (head_cut head h)

  -- it names no file
  pub no_digits : (x : Bor (List ℕ) × Bor (List ℕ)) (digits : List ℕ) → r ≡ Some x → x.0.now ≡ codes "file " ++ digits → (AreDigits digits → ⊥) → SpellsNone IsHead text
  unfolding front
  no_digits x digits some is other head h =
      let these = subst (λ o. MatchOption o ⊥ (λ y. (y.0.now ≡ front head.0) × (y.1.now ≡ head.1))) some (head_cut head h) in
      other (subst AreDigits (sym (ap (drop 5) (sym is ∙ these.0))) h.0)
