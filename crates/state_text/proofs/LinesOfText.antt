-- A text of lines is read line by line: its words, and the text of the lines behind.
use Rattle.std.proofs.Common.{◌≡◌, ◌≢◌, ℕ, zero, suc, ◌<◌, nat_lt, true, List, [], ◌∷◌, ◌++◌, length, get_or, flat_map, Option, Some, None, refl, sym, ◌∙◌, subst, append_assoc, arith}
use Rattle.std.proofs.lemmas.Bool.{ltb-true}
use Rattle.std.proofs.lemmas.Str.Pattern.{split_after, IsSplitOnceResult}
use Rattle.std.specs.Borrow.{Bor}
use Rattle.std.specs.List.{AllByRecursion}
use Rattle.std.specs.Option.{MatchOption}
use Rattle.parsing.specs.Words.{Lacks, IsWord, EndsWord, AreWordsOf}
use Rattle.parsing.proofs.WordsOfText.{same_words}
use Rattle.state_text.specs.LineWords.{spaced, line_text, IsPlain, AreLines}

-- ---- bytes above a space

lacks : (c : ℕ) → c < 33 → (word : List ℕ) → AllByRecursion (λ b. nat_lt 32 b ≡ true) word → Lacks c word
lacks c low [] h = tt
lacks c low (b ∷ word) h = ((λ e. let above = ltb-true 32 b h.0 in omega (arith, e, low, above)), lacks c low word h.1)

lacks-append : (c : ℕ) (xs ys : List ℕ) → Lacks c xs → Lacks c ys → Lacks c (xs ++ ys)
lacks-append c [] ys h k = k
lacks-append c (x ∷ xs) ys h k = (h.0, lacks-append c xs ys h.1 k)

lacks_at : (c : ℕ) (bs : List ℕ) → Lacks c bs → (i : ℕ) → i < length bs → get_or bs i 0 ≢ c
lacks_at c [] h i low e = omega (arith, low)
lacks_at c (b ∷ bs) h zero low e = h.0 e
lacks_at c (b ∷ bs) h (suc i) low e = lacks_at c bs h.1 i (omega (arith, low)) e

is_word : (word : List ℕ) → IsPlain word → IsWord word
is_word word h = (h.0, lacks 32 (omega arith) word h.1)

-- ---- words with spaces

abbrev behind_spaces : List (List ℕ) → List ℕ
behind_spaces words = flat_map (λ w. 32 ∷ w) words

ends : (words : List (List ℕ)) → EndsWord (behind_spaces words)
ends [] = tt
ends (word ∷ words) = refl

words_behind : (words : List (List ℕ)) → AllByRecursion IsPlain words → AreWordsOf words (behind_spaces words)
words_behind [] h = tt
words_behind (word ∷ words) h = (32 ∷ [], behind_spaces words, (refl, tt), is_word word h.0, ends words, refl, words_behind words h.1)

words_spaced : (words : List (List ℕ)) → AllByRecursion IsPlain words → AreWordsOf words (spaced words)
words_spaced [] h = tt
words_spaced (word ∷ words) h = ([], behind_spaces words, tt, is_word word h.0, ends words, refl, words_behind words h.1)

lacks_behind : (words : List (List ℕ)) → AllByRecursion IsPlain words → Lacks 10 (behind_spaces words)
lacks_behind [] h = tt
lacks_behind (word ∷ words) h = lacks-append 10 (32 ∷ word) (behind_spaces words) ((λ e. omega (arith, e)), lacks 10 (omega arith) word h.0.1) (lacks_behind words h.1)

lacks_spaced : (words : List (List ℕ)) → AllByRecursion IsPlain words → Lacks 10 (spaced words)
lacks_spaced [] h = tt
lacks_spaced (word ∷ words) h = lacks-append 10 word (behind_spaces words) (lacks 10 (omega arith) word h.0.1) (lacks_behind words h.1)

-- ---- the first line

module _ (line : List (List ℕ)) (more : List (List (List ℕ))) (text : List ℕ) (r : Option (Bor (List ℕ) × Bor (List ℕ))) (cut : IsSplitOnceResult 10 text r)
    (h : AreLines (line ∷ more) text) where
  -- it ends at the first end of a line
  line_cut : MatchOption r ⊥ (λ x. (x.0.now ≡ spaced line) × (x.1.now ≡ flat_map line_text more))
  line_cut =
      split_after 10 text (spaced line) (flat_map line_text more) r cut (omega arith)
      (h.written ∙ append_assoc (spaced line) (10 ∷ []) (flat_map line_text more)) (lacks_at 10 (spaced line) (lacks_spaced line h.plain.0))

  pub a_line : r ≡ None → ⊥
  a_line e = subst (λ q. MatchOption q ⊥ (λ x. (x.0.now ≡ spaced line) × (x.1.now ≡ flat_map line_text more))) e line_cut

  pub its_words : (front behind : Bor (List ℕ)) (words : List (List ℕ)) → r ≡ Some (front, behind) → AreWordsOf words front.now → (words ≡ line) × AreLines more behind.now
  its_words front behind words e found =
      let parts = subst (λ q. MatchOption q ⊥ (λ x. (x.0.now ≡ spaced line) × (x.1.now ≡ flat_map line_text more))) e line_cut in (
        same_words words line front.now found (subst (λ t. AreWordsOf line t) (sym parts.0) (words_spaced line h.plain.0)),
        record { written = parts.1; plain = h.plain.1 },
      )
