-- Words that spell values, one by one.
use Rattle.std.proofs.Common.{◌≡◌, ℕ, zero, suc, ◌+◌, ◌-◌, ◌<◌, ◌≤◌, Bool, true, not, ◌&&◌, eqb, List, [], ◌∷◌, ◌++◌, length, map, take, drop, get_or, add-one, take_all, length-drop, refl, sym, ap, ap₂, subst, ◌∙◌, arith}
use Rattle.std.proofs.lemmas.Bool.{false≢true, eq-eqb}
use Rattle.std.proofs.Math.ListN.{get_or-map}
use Rattle.std.specs.List.{drop-map}
use lib.Pointwise.{pointwise}
use Rattle.std.specs.Borrow.{Bor}
use Rattle.std.specs.List.{AllByRecursion}
use Rattle.model.specs.Lists.{head_or, tail_of}

module _ {X : Type 0} (spell : X → List ℕ) (Fit : X → Type 0) where
  at_first : (words : List (Bor (List ℕ))) (i : ℕ) (d : Bor (List ℕ)) (xs : List X) → i < length words → AllByRecursion Fit xs → map (λ word. word.now) words ≡ map spell xs
      → (x : X) × Fit x × ((get_or words i d).now ≡ spell x) × (take (suc i) xs ≡ take i xs ++ x ∷ [])
  at_first [] i d xs low fits e = absurd (omega (arith, low))
  at_first (w ∷ words) i d [] low fits e = absurd (let bad = ap length e in omega (arith, bad))
  at_first (w ∷ words) zero d (x ∷ xs) low fits e = (x, fits.0, ap (head_or []) e, refl)
  at_first (w ∷ words) (suc i) d (x ∷ xs) low fits e =
      let rest = at_first words i d xs (omega (arith, low)) fits.1 (ap tail_of e) in
      (rest.0, rest.1, rest.2, ap (λ ys. x ∷ ys) rest.3)

  -- the value that the word at a place spells is the next one
  pub at_word : (words : List (Bor (List ℕ))) (i : ℕ) (d : Bor (List ℕ)) (xs : List X) → i < length words → AllByRecursion Fit xs → map (λ word. word.now) words ≡ map spell xs
      → (x : X) × Fit x × ((get_or words i d).now ≡ spell x) × (take (i + 1) xs ≡ take i xs ++ x ∷ [])
  at_word words i d xs low fits e =
      let found = at_first words i d xs low fits e in
      (found.0, found.1, found.2, ap (λ n. take n xs) (add-one i) ∙ found.3)

-- ---- words as they stand

-- the word at a place
pub word_is : (words : List (Bor (List ℕ))) (i : ℕ) (d : Bor (List ℕ)) (texts : List (List ℕ)) → map (λ word. word.now) words ≡ texts → (get_or words i d).now ≡ get_or texts i d.now
word_is words i d texts e = sym (get_or-map (λ word. word.now) words i d) ∙ ap (λ ws. get_or ws i d.now) e

-- those behind the first
pub behind_is : (n : ℕ) (words : List (Bor (List ℕ))) (texts : List (List ℕ)) → map (λ word. word.now) words ≡ texts → map (λ word. word.now) (take (length words - n) (drop n words)) ≡ drop n texts
behind_is n words texts e =
    let long = length-drop n words in
    ap (map (λ word. word.now)) (take_all (length words - n) (drop n words) (omega (arith, long))) ∙ sym (drop-map (λ word. word.now) n words) ∙ ap (drop n) e

-- the words of two parts
cut_at : (words : List (Bor (List ℕ))) (xs ys : List (List ℕ)) → map (λ word. word.now) words ≡ xs ++ ys
    → (length xs ≤ length words) × (map (λ word. word.now) (take (length xs) words) ≡ xs) × (map (λ word. word.now) (drop (length xs) words) ≡ ys)
cut_at words [] ys e = (omega arith, refl, e)
cut_at [] (x ∷ xs) ys e = absurd (let bad = ap length e in omega (arith, bad))
cut_at (w ∷ words) (x ∷ xs) ys e =
    let rest = cut_at words xs ys (ap tail_of e) in
    (omega (arith, rest.0), ap₂ ◌∷◌ (ap (head_or []) e) rest.1, rest.2)

pub cut_words : (words : List (Bor (List ℕ))) (n : ℕ) (xs ys : List (List ℕ)) → length xs ≡ n → map (λ word. word.now) words ≡ xs ++ ys
    → (n ≤ length words) × (map (λ word. word.now) (take n words) ≡ xs) × (map (λ word. word.now) (drop n words) ≡ ys)
cut_words words n xs ys long e =
    subst (λ n. (n ≤ length words) × (map (λ word. word.now) (take n words) ≡ xs) × (map (λ word. word.now) (drop n words) ≡ ys)) long (cut_at words xs ys e)

-- it is compared with that which it has to be
same_itself : (word : List ℕ) → pointwise eqb word word ≡ true
same_itself [] = refl
same_itself (b ∷ word) = ap₂ (λ x y. x && y) (eq-eqb b b refl) (same_itself word)

pub named_so : (words : List (Bor (List ℕ))) (d : Bor (List ℕ)) (name : List ℕ) (more : List (List ℕ)) (r : Bool) → r ≡ not (pointwise eqb (get_or words 0 d).now name) → r ≡ true
    → map (λ word. word.now) words ≡ name ∷ more → ⊥
named_so words d name more r is differs e =
    false≢true (sym (is ∙ ap not (ap (λ word. pointwise eqb word name) (word_is words 0 d (name ∷ more) e) ∙ same_itself name)) ∙ differs)

-- ---- few words

module _ {X : Type 0} (spell : X → List ℕ) (Fit : X → Type 0) where
  -- one alone
  pub one : (words : List (Bor (List ℕ))) (d : Bor (List ℕ)) (xs : List X) → 1 ≤ length words → length words < 2 → AllByRecursion Fit xs → map (λ word. word.now) words ≡ map spell xs
      → (x : X) × Fit x × ((get_or words 0 d).now ≡ spell x) × (xs ≡ x ∷ [])
  one [] d xs least most fits e = absurd (omega (arith, least))
  one (w ∷ v ∷ words) d xs least most fits e = absurd (omega (arith, most))
  one (w ∷ []) d [] least most fits e = absurd (let bad = ap length e in omega (arith, bad))
  one (w ∷ []) d (x ∷ []) least most fits e = (x, fits.0, ap (head_or []) e, refl)
  one (w ∷ []) d (x ∷ y ∷ xs) least most fits e = absurd (let bad = ap length e in omega (arith, bad))

  -- two
  pub two : (words : List (Bor (List ℕ))) (d : Bor (List ℕ)) (xs : List X) → 2 ≤ length words → length words < 3 → AllByRecursion Fit xs → map (λ word. word.now) words ≡ map spell xs
      → (x : X) × (y : X) × Fit x × Fit y × ((get_or words 0 d).now ≡ spell x) × ((get_or words 1 d).now ≡ spell y) × (xs ≡ x ∷ y ∷ [])
  two [] d xs least most fits e = absurd (omega (arith, least))
  two (w ∷ words) d [] least most fits e = absurd (let bad = ap length e in omega (arith, bad))
  two (w ∷ words) d (x ∷ xs) least most fits e =
      let rest = one words d xs (omega (arith, least)) (omega (arith, most)) fits.1 (ap tail_of e) in
      (x, rest.0, fits.0, rest.1, ap (head_or []) e, rest.2, ap (λ ys. x ∷ ys) rest.3)
