-- The words of a text are one list.
use Rattle.std.proofs.Common.{◌≡◌, ◌≢◌, ℕ, Bool, true, false, not, inl, inr, List, [], ◌∷◌, ◌++◌, length, refl, sym, ◌∙◌, ap, eqb, Result, IfOk}
use Rattle.std.proofs.lemmas.Bool.{eq-eqb, eqb-false, eqb-true, cases_Bool}
use Rattle.std.proofs.lemmas.List.{append-nil}
use Rattle.std.proofs.lemmas.Result.{IfOk-weaker}
use Rattle.std.proofs.lemmas.List.Splits.{slice_split-cons_yes, slice_split-cons_no, slice_split_none, slice_split_at}
use Rattle.std.proofs.Math.Dec.{eqb-suc-zero}
use Rattle.std.specs.List.{filter, onto_first}
use Rattle.parsing.specs.Words.{AreSpaces, Lacks, IsWord, EndsWord, AreWordsOf}
use Rattle.parsing.proofs.Cuts.{cut, none_passes}

-- whether a list has an element
abbrev pub is_filled : List ℕ → Bool
is_filled [] = false
is_filled (b ∷ bs) = true

-- the test of the code
pub is_filled-length : (bs : List ℕ) → not (eqb (length bs) 0) ≡ is_filled bs
is_filled-length [] = refl
is_filled-length (b ∷ bs) = ap not (eqb-suc-zero (length bs))

-- the words, as the code finds them
abbrev pub words_in : List ℕ → List (List ℕ)
words_in text = filter is_filled (cut 32 text)

-- ---- they are words of the text

-- a space in front changes no word
words_behind_space : (words : List (List ℕ)) (b : ℕ) (bs : List ℕ) → b ≡ 32 → AreWordsOf words bs → AreWordsOf words (b ∷ bs)
words_behind_space [] b bs e h = (e, h)
words_behind_space (word ∷ words) b bs e h = (b ∷ h.0, h.1, (e, h.2), h.3, h.4, ap (λ s. b ∷ s) h.5, h.6)

-- a text whose first part is known, with what follows it
record Opening (text : List ℕ) : Type 0 where
  first : List ℕ
  others : List (List ℕ)
  rest : List ℕ
  cut_is : cut 32 text ≡ first ∷ others
  text_is : text ≡ first ++ rest
  lacks : Lacks 32 first
  ends : EndsWord rest
  words : AreWordsOf (filter is_filled others) rest

whole_words : (first : List ℕ) (others : List (List ℕ)) (rest text : List ℕ) → text ≡ first ++ rest → Lacks 32 first → EndsWord rest
    → AreWordsOf (filter is_filled others) rest → AreWordsOf (filter is_filled (first ∷ others)) text
whole_words [] others rest text e l n w = rw e w
whole_words (b ∷ bs) others rest text e l n w = ([], rest, tt, ((λ q. cc), l), n, e, w)

whole : (text : List ℕ) → Opening text → AreWordsOf (words_in text) text
whole text o = rw o.cut_is (whole_words o.first o.others o.rest text o.text_is o.lacks o.ends o.words)

opening : (text : List ℕ) → Opening text
opening [] = record { first = []; others = []; rest = []; cut_is = refl; text_is = refl; lacks = tt; ends = tt; words = tt }
opening (b ∷ bs) = let o = opening bs in elim (cases_Bool (eqb b 32)) [
  | inl e ↦ record {
    first = [];
    others = cut 32 bs;
    rest = b ∷ bs;
    cut_is = slice_split-cons_yes (λ x. eqb x 32) b bs e;
    text_is = refl;
    lacks = tt;
    ends = eqb-true b 32 e;
    words = words_behind_space (words_in bs) b bs (eqb-true b 32 e) (whole bs o);
  }
  | inr e ↦ record {
    first = b ∷ o.first;
    others = o.others;
    rest = o.rest;
    cut_is = slice_split-cons_no (λ x. eqb x 32) b bs e ∙ ap (onto_first b) o.cut_is;
    text_is = ap (λ s. b ∷ s) o.text_is;
    lacks = (eqb-false b 32 e, o.lacks);
    ends = o.ends;
    words = o.words;
  }
]

pub words_in_words : (text : List ℕ) → AreWordsOf (words_in text) text
words_in_words text = whole text (opening text)

-- ---- and there are no others

words_in-space : (b : ℕ) (bs : List ℕ) → b ≡ 32 → words_in (b ∷ bs) ≡ words_in bs
words_in-space b bs e = rw e refl

words_in-spaces : (front text : List ℕ) → AreSpaces front → words_in (front ++ text) ≡ words_in text
words_in-spaces [] text h = refl
words_in-spaces (b ∷ bs) text h = words_in-space b (bs ++ text) h.0 ∙ words_in-spaces bs text h.1

filled_first : (word : List ℕ) (words : List (List ℕ)) → word ≢ [] → filter is_filled (word ∷ words) ≡ word ∷ filter is_filled words
filled_first [] words h = absurd (h refl)
filled_first (b ∷ bs) words h = refl

words_in-word : (word rest : List ℕ) → IsWord word → EndsWord rest → words_in (word ++ rest) ≡ word ∷ words_in rest
words_in-word word [] h e =
    let k = slice_split_none (λ x. eqb x 32) word (none_passes 32 word h.1) in
    rw (append-nil, k) (filled_first word [] h.0)
words_in-word word (b ∷ bs) h e =
    let k = slice_split_at (λ x. eqb x 32) word b bs (none_passes 32 word h.1) (eq-eqb b 32 e) in
    rw k (filled_first word (cut 32 bs) h.0 ∙ ap (λ s. word ∷ s) (sym (words_in-space b bs e)))

-- the words of a text are those that the code finds
pub words_are : (words : List (List ℕ)) (text : List ℕ) → AreWordsOf words text → words ≡ words_in text
words_are [] text h = sym (ap words_in (sym (append-nil text)) ∙ words_in-spaces text [] h)
words_are (word ∷ words) text h =
    sym (ap words_in h.5 ∙ (words_in-spaces h.0 (word ++ h.1) h.2 ∙ (words_in-word word h.1 h.3 h.4 ∙ ap (λ s. word ∷ s) (sym (words_are words h.1 h.6)))))

pub same_words : (words others : List (List ℕ)) (text : List ℕ) → AreWordsOf words text → AreWordsOf others text → words ≡ others
same_words words others text h k = words_are words text h ∙ sym (words_are others text k)

-- a call that gives what the code finds gives the words
pub words_from_cut : {T E : Type 0} (r : Result T E) (items : T → List (List ℕ)) (text : List ℕ)
    → IfOk r (λ w. items w ≡ words_in text) → IfOk r (λ w. AreWordsOf (items w) text)
words_from_cut {T} r items text h =
    IfOk-weaker r (λ w. items w ≡ words_in text) (λ w. AreWordsOf (items w) text) (λ w e. rw e (words_in_words text)) h
