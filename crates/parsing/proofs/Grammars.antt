-- A reader that first finds the words of its text, or the parts, reads what these spell.
use Rattle.std.proofs.Common.{◌≡◌, ℕ, zero, suc, ◌<◌, List, [], ◌∷◌, ◌++◌, length, get_or, refl, sym, ap, subst, ◌∙◌, arith}
use Rattle.std.specs.List.{AllZip}
use Rattle.parsing.specs.Reads.{SpellsNone, SpellsOnly, SpellsSeen}
use Rattle.parsing.specs.Words.{AreWordsOf, ByWords}
use Rattle.parsing.specs.Parts.{ArePartsOf, ByParts}
use Rattle.parsing.proofs.WordsOfText.{same_words}
use Rattle.parsing.proofs.PartsOfText.{same_parts}

-- ---- words

-- what the words do not spell, the text does not
pub none_by_words : {A : Type 0} (Spells : A → List (List ℕ) → Type 0) (text : List ℕ) (words : List (List ℕ)) → AreWordsOf words text
    → SpellsNone Spells words → SpellsNone (ByWords Spells) text
none_by_words Spells text words h none v spelled =
    none v (subst (λ ws. Spells v ws) (same_words spelled.0 words text spelled.1 h) spelled.2)

-- the one value that the words spell is that of the text
pub only_by_words : {A : Type 0} (Spells : A → List (List ℕ) → Type 0) (text : List ℕ) (words : List (List ℕ)) (x : A) → AreWordsOf words text
    → SpellsOnly Spells words x → SpellsOnly (ByWords Spells) text x
only_by_words Spells text words x h only =
    ((words, h, only.0), λ v spelled. only.1 v (subst (λ ws. Spells v ws) (same_words spelled.0 words text spelled.1 h) spelled.2))

-- ---- parts

-- what the parts do not spell, the text does not
pub none_by_parts : {A : Type 0} (Spells : A → List ℕ → Type 0) (text : List ℕ) (parts : List (List ℕ)) → ArePartsOf parts text
    → SpellsNone (AllZip Spells) parts → SpellsNone (ByParts Spells) text
none_by_parts Spells text parts h none xs spelled =
    none xs (subst (λ ps. AllZip Spells xs ps) (same_parts spelled.0 parts text spelled.1 h) spelled.2)

-- the one list of values that the parts spell is that of the text
pub only_by_parts : {A : Type 0} (Spells : A → List ℕ → Type 0) (text : List ℕ) (parts : List (List ℕ)) (xs : List A) → ArePartsOf parts text
    → SpellsOnly (AllZip Spells) parts xs → SpellsOnly (ByParts Spells) text xs
only_by_parts Spells text parts xs h only =
    ((parts, h, only.0), λ ys spelled. only.1 ys (subst (λ ps. AllZip Spells ys ps) (same_parts spelled.0 parts text spelled.1 h) spelled.2))

-- ---- lists of values, each spelled by its own text

module _ {A : Type 0} (Spells : A → List ℕ → Type 0) where
  no_other : (ys : List A) → AllZip Spells ys [] → ys ≡ []
  no_other [] h = refl
  no_other (y ∷ ys) h = absurd h

  -- the empty list of texts spells the empty list
  pub only_empty : SpellsOnly (AllZip Spells) [] []
  only_empty = (tt, no_other)

  -- one value and one text more
  spelled_push : (xs : List A) (texts : List (List ℕ)) (x : A) (text : List ℕ)
      → AllZip Spells xs texts → Spells x text → AllZip Spells (xs ++ x ∷ []) (texts ++ text ∷ [])
  spelled_push [] [] x text h k = (k, tt)
  spelled_push [] (t ∷ texts) x text h k = absurd h
  spelled_push (y ∷ xs) [] x text h k = absurd h
  spelled_push (y ∷ xs) (t ∷ texts) x text h k = (h.0, spelled_push xs texts x text h.1 k)

  -- the values before the last text, and the last value
  spelled_parts : (texts : List (List ℕ)) (text : List ℕ) (ys : List A) → AllZip Spells ys (texts ++ text ∷ [])
      → (front : List A) × (last : A) × (ys ≡ front ++ last ∷ []) × AllZip Spells front texts × Spells last text
  spelled_parts [] text [] h = absurd h
  spelled_parts [] text (y ∷ []) h = ([], y, refl, tt, h.0)
  spelled_parts [] text (y ∷ z ∷ ys) h = absurd h.1
  spelled_parts (t ∷ texts) text [] h = absurd h
  spelled_parts (t ∷ texts) text (y ∷ ys) h =
      let k = spelled_parts texts text ys h.1 in (y ∷ k.0, k.1, ap (λ s. y ∷ s) k.2, (h.0, k.3), k.4)

  pub only_more : (texts : List (List ℕ)) (xs : List A) (text : List ℕ) (x : A)
      → SpellsOnly (AllZip Spells) texts xs → SpellsOnly Spells text x → SpellsOnly (AllZip Spells) (texts ++ text ∷ []) (xs ++ x ∷ [])
  only_more texts xs text x many one = (
    spelled_push xs texts x text many.0 one.0,
    λ ys h.
        let k = spelled_parts texts text ys h in
        let e = many.1 k.0 k.3 in
        let f = one.1 k.1 k.4 in
        rw (k.2, e, f) refl,
  )

  -- one of the texts spells nothing
  pub none_at : (texts : List (List ℕ)) (i : ℕ) (d : List ℕ) → i < length texts
      → SpellsNone Spells (get_or texts i d) → SpellsNone (AllZip Spells) texts
  none_at [] i d below none xs h = absurd (omega arith)
  none_at (t ∷ texts) i d below none [] h = absurd h
  none_at (t ∷ texts) zero d below none (x ∷ xs) h = none x h.0
  none_at (t ∷ texts) (suc i) d below none (x ∷ xs) h = none_at texts i d (omega arith) none xs h.1

-- ---- what is seen of a value

module _ {A B T : Type 0} (seen : A → B) (Spells : A → T → Type 0) (text : T) where
  pub only_seen : (x : A) → SpellsOnly Spells text x → SpellsOnly (SpellsSeen seen Spells) text (seen x)
  only_seen x only = ((x, only.0, refl), λ y h. h.2 ∙ ap seen (only.1 h.0 h.1))

  pub none_seen : SpellsNone Spells text → SpellsNone (SpellsSeen seen Spells) text
  none_seen none y h = none h.0 h.1
