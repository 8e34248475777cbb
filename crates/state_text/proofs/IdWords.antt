-- An id is cut at its v.
use Rattle.std.proofs.Common.{◌≡◌, ◌≢◌, ℕ, ◌<◌, ◌^◌, List, length, get_or, Option, Some, None, subst, arith}
use Rattle.std.proofs.lemmas.Fmt.{decimal_is_IsNumeral}
use Rattle.std.proofs.lemmas.Str.Parse.{not_in_digits, numerals_by_value, tells_digits}
use Rattle.std.proofs.lemmas.Str.Pattern.{split_after, IsSplitOnceResult}
use Rattle.std.specs.Borrow.{Bor}
use Rattle.std.specs.Fmt.{decimal}
use Rattle.std.specs.Option.{MatchOption}
use Rattle.std.specs.Str.Parse.{AllDigits}
use Rattle.state_text.specs.LineWords.{id_word}

-- no digit is a v
no_v : (n : ℕ) → n < 2 ^ 32 → (i : ℕ) → i < length (decimal n) → get_or (decimal n) i 0 ≢ 118
no_v n low = not_in_digits (numerals_by_value (AllDigits 10) tells_digits) (decimal n) 118 (decimal_is_IsNumeral n (omega (arith, low))).0.1 (λ within. omega (arith, within))

module _ (word : List ℕ) (r : Option (Bor (List ℕ) × Bor (List ℕ))) (cut : IsSplitOnceResult 118 word r) (index generation : ℕ) (low : index < 2 ^ 32) (e : word ≡ id_word index generation) where
  id_cut : MatchOption r ⊥ (λ x. (x.0.now ≡ decimal index) × (x.1.now ≡ decimal generation))
  id_cut = split_after 118 word (decimal index) (decimal generation) r cut (omega arith) e (no_v index low)

  pub an_id : r ≡ None → ⊥
  an_id none = subst (λ q. MatchOption q ⊥ (λ x. (x.0.now ≡ decimal index) × (x.1.now ≡ decimal generation))) none id_cut

  pub its_parts : (x : Bor (List ℕ) × Bor (List ℕ)) → r ≡ Some x → (x.0.now ≡ decimal index) × (x.1.now ≡ decimal generation)
  its_parts x some = subst (λ q. MatchOption q ⊥ (λ x. (x.0.now ≡ decimal index) × (x.1.now ≡ decimal generation))) some id_cut
