-- The first word of a text, and what follows it, are one pair.
use Rattle.std.proofs.Common.{◌≡◌, ◌≢◌, ◌==◌, true, false, ℕ, zero, suc, ◌<◌, List, [], ◌∷◌, ◌++◌, length, get_or, take, drop, refl, sym, ap, ap₂, ◌∙◌, subst, arith, append_assoc}
use Rattle.std.specs.Prelude.{Option, None, Some, IfSome}
use Rattle.std.specs.Str.Pattern.{CutsPrefixes, IsTrimStartMatches, FindsCharPrefix, FindsChar, MatchBeginsAt}
use Rattle.std.proofs.lemmas.Bool.{eq-eqb, eqb-true, false≢true}
use Rattle.std.proofs.lemmas.List.{append-nil, take-append-drop}
use Rattle.std.proofs.lemmas.Str.Pattern.{drop_at_char, strip_prefix_char, find_char}
use Rattle.parsing.specs.Reads.{SpellsNone, SpellsOnly}
use Rattle.parsing.specs.Words.{AreSpaces, Lacks, IsWord, EndsWord}
use Rattle.tokens.specs.FirstWord.{IsFirstWord}

-- ---- there is no other

-- a word and what ends it, cut out of one text
same_cut : (word other rest more : List ℕ) → Lacks 32 word → Lacks 32 other → EndsWord rest → EndsWord more → word ++ rest ≡ other ++ more → (word ≡ other) × (rest ≡ more)
same_cut [] [] rest more l m e f same = (refl, same)
same_cut [] (c ∷ cs) [] more l m e f same = cc
same_cut [] (c ∷ cs) (b ∷ bs) more l m e f same = absurd (m.0 (let s : b ≡ c = cc in sym s ∙ e))
same_cut (c ∷ cs) [] rest [] l m e f same = cc
same_cut (c ∷ cs) [] rest (b ∷ bs) l m e f same = absurd (l.0 (let s : c ≡ b = cc in s ∙ f))
same_cut (c ∷ cs) (d ∷ ds) rest more l m e f same =
    let k = same_cut cs ds rest more l.1 m.1 e f cc in
    let s : c ≡ d = cc in
    (ap₂ (λ x xs. x ∷ xs) s k.0, k.1)

-- no word begins with a space
unspaced : (word rest : List ℕ) (b : ℕ) (bs : List ℕ) → IsWord word → b ≡ 32 → word ++ rest ≡ b ∷ bs → ⊥
unspaced [] rest b bs h e same = h.0 refl
unspaced (c ∷ cs) rest b bs h e same = h.1.0 (let s : c ≡ b = cc in s ∙ e)

same_behind : (front ahead word rest other more : List ℕ) → AreSpaces front → AreSpaces ahead → IsWord word → IsWord other → EndsWord rest → EndsWord more
    → front ++ (word ++ rest) ≡ ahead ++ (other ++ more) → (word ≡ other) × (rest ≡ more)
same_behind [] [] word rest other more f a w o e g same = same_cut word other rest more w.1 o.1 e g same
same_behind [] (b ∷ bs) word rest other more f a w o e g same = absurd (unspaced word rest b (bs ++ (other ++ more)) w a.0 same)
same_behind (b ∷ bs) [] word rest other more f a w o e g same = absurd (unspaced other more b (bs ++ (word ++ rest)) o f.0 (sym same))
same_behind (b ∷ bs) (c ∷ cs) word rest other more f a w o e g same = same_behind bs cs word rest other more f.1 a.1 w o e g cc

pub same_first : (first other : List ℕ × List ℕ) (text : List ℕ) → IsFirstWord first text → IsFirstWord other text → first ≡ other
same_first first other text h k =
    let s = same_behind h.0 k.0 first.0 first.1 other.0 other.1 h.1 k.1 h.2 k.2 h.3 k.3 (sym h.4 ∙ k.4) in
    ap₂ (λ x y. (x, y)) s.0 s.1

-- spaces alone have none
no_word : (text front word rest : List ℕ) → AreSpaces text → IsWord word → text ≡ front ++ (word ++ rest) → ⊥
no_word [] [] [] rest t w e = w.0 refl
no_word [] [] (c ∷ cs) rest t w e = cc
no_word [] (b ∷ bs) word rest t w e = cc
no_word (b ∷ bs) [] word rest t w e = unspaced word rest b bs w t.0 (sym e)
no_word (b ∷ bs) (c ∷ cs) word rest t w e = no_word bs cs word rest t.1 w cc

pub none_in_spaces : (text : List ℕ) → AreSpaces text → SpellsNone IsFirstWord text
none_in_spaces text t first h = no_word text h.0 first.0 first.1 t h.2 h.4

-- ---- there is one

-- one space more
spaces_more : (front : List ℕ) → AreSpaces front → AreSpaces (front ++ 32 ∷ [])
spaces_more [] h = (refl, tt)
spaces_more (b ∷ bs) h = (h.0, spaces_more bs h.1)

-- what is cut off the front is spaces
spaces_cut : (ns text rest : List ℕ) → CutsPrefixes (FindsCharPrefix 32) text ns rest → (front : List ℕ) × AreSpaces front × (text ≡ front ++ rest)
spaces_cut [] text rest h = ([], tt, sym h)
spaces_cut (n ∷ ns) text rest h =
    let k = spaces_cut ns text h.0 h.1 in
    let one : h.0 ≡ 32 ∷ rest = drop_at_char 32 h.0 0 n h.2 (omega arith) ∙ ap (λ l. 32 ∷ l) (sym h.3) in
    (k.0 ++ 32 ∷ [], spaces_more k.0 k.1, k.2 ∙ (ap (λ l. k.0 ++ l) one ∙ sym (append_assoc k.0 (32 ∷ []) rest)))

-- and none is left in front
none_left : (o : Option ℕ) (rest more : List ℕ) → FindsCharPrefix 32 rest o → IfSome o (λ n. n ≡ 0) → rest ≢ 32 ∷ more
none_left None rest more h z e = strip_prefix_char 32 rest None h (omega arith) more e
none_left (Some n) rest more h z e =
    let k = drop_at_char 32 rest 0 n h (omega arith) ∙ ap (λ m. 32 ∷ drop m rest) z in
    omega (arith, ap length k)

-- bytes before the first space
lacks_before : (bs : List ℕ) (n : ℕ) → ((i : ℕ) → i < n → get_or bs i 0 ≢ 32) → Lacks 32 (take n bs)
lacks_before [] zero h = tt
lacks_before [] (suc n) h = tt
lacks_before (b ∷ bs) zero h = tt
lacks_before (b ∷ bs) (suc n) h = (h 0 (omega arith), lacks_before bs n (λ i l. h (suc i) (omega arith)))

lacks_all : (bs : List ℕ) → ((i : ℕ) → i < length bs → get_or bs i 0 ≢ 32) → Lacks 32 bs
lacks_all [] h = tt
lacks_all (b ∷ bs) h = (h 0 (omega arith), lacks_all bs (λ i l. h (suc i) (omega arith)))

ends_at : (bs : List ℕ) (n : ℕ) → n < length bs → get_or bs n 0 ≡ 32 → EndsWord (drop n bs)
ends_at [] n l e = absurd (omega arith)
ends_at (b ∷ bs) zero l e = e
ends_at (b ∷ bs) (suc n) l e = ends_at bs n (omega arith) e

some_before : (bs : List ℕ) (n : ℕ) → n < length bs → get_or bs n 0 ≡ 32 → ((more : List ℕ) → bs ≢ 32 ∷ more) → take n bs ≢ []
some_before [] n l e h same = omega arith
some_before (b ∷ bs) zero l e h same = h bs (ap (λ x. x ∷ bs) e)
some_before (b ∷ bs) (suc n) l e h same = cc

no_byte : (bs : List ℕ) → length bs ≡ 0 → bs ≡ []
no_byte [] e = refl
no_byte (b ∷ bs) e = absurd (omega (arith, e))

-- a text, and what is left of it behind its first spaces
module _ (text left : List ℕ) (cut : IsTrimStartMatches (FindsCharPrefix 32) text left) where
  behind : (front : List ℕ) × AreSpaces front × (text ≡ front ++ left)
  behind = spaces_cut cut.0.0 text left cut.0.1

  unspaced_left : (more : List ℕ) → left ≢ 32 ∷ more
  unspaced_left more = none_left cut.1.0 left more cut.1.1 cut.1.2

  only : (first : List ℕ × List ℕ) → IsFirstWord first text → SpellsOnly IsFirstWord text first
  only first h = (h, λ other k. same_first other first text k h)

  -- the word ends at a space
  pub word_before : (n : ℕ) → MatchBeginsAt (FindsChar 32) left n → SpellsOnly IsFirstWord text (take n left, drop n left)
  word_before n found =
      let k = find_char 32 left (Some n) found (omega arith) in
      only (take n left, drop n left) (
        behind.0,
        behind.1,
        (some_before left n k.0 k.1 unspaced_left, lacks_before left n k.2),
        ends_at left n k.0 k.1,
        behind.2 ∙ ap (λ l. behind.0 ++ l) (sym (take-append-drop n left)),
      )

  -- the word ends the text
  pub word_alone : FindsChar 32 left None → false ≡ (length left == 0) → SpellsOnly IsFirstWord text (left, [])
  word_alone found some =
      let k = find_char 32 left None found (omega arith) in
      only (left, []) (behind.0, behind.1, ((λ e. false≢true (some ∙ eq-eqb (length left) 0 (ap length e))), lacks_all left k), tt, behind.2 ∙ ap (λ l. behind.0 ++ l) (sym (append-nil left)))

  -- nothing is left
  pub word_nowhere : true ≡ (length left == 0) → SpellsNone IsFirstWord text
  word_nowhere none = none_in_spaces text (subst AreSpaces (sym (behind.2 ∙ (ap (λ l. behind.0 ++ l) (no_byte left (eqb-true (length left) 0 (sym none))) ∙ append-nil behind.0))) behind.1)
