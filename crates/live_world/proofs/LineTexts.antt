-- A text is so many lines where so many ends of lines are in it, and it ends with one if it has any byte.
use Rattle.std.proofs.Common.{◌≡◌, ◌≢◌, ℕ, suc, ◌+◌, ◌==◌, Bool, true, false, List, [], ◌∷◌, ◌++◌, length, filter, flat_map, refl, sym, ap, ◌∙◌, subst, arith, inl, inr, length-append, append-nil}
use Rattle.std.specs.List.{AllByRecursion}
use Rattle.std.proofs.lemmas.Bool.{cond-false, ne_eqb, eqb-true, eqb-false}
use Rattle.std.proofs.Math.Nat.{suc-ne-zero}
use Rattle.std.proofs.lemmas.List.{append_assoc}
use Rattle.std.proofs.lemmas.List.Elements.{filter-append}
use Rattle.session.specs.Body.{AreLines, ended}
use Rattle.session.specs.Replies.{lines_in}
use Rattle.streams.specs.Lines.{IsUnended}
use Rattle.live_world.specs.Sent.{EndsLines}

-- ---- ends of lines

-- a byte that ends no line, before a text
passed : (byte : ℕ) (text : List ℕ) → byte ≢ 10 → lines_in (byte ∷ text) ≡ lines_in text
passed byte text differs = ap length (cond-false (byte == 10) (byte ∷ filter (λ b. b == 10) text) (filter (λ b. b == 10) text) (ne_eqb byte 10 differs))

joined : (xs ys : List ℕ) → lines_in (xs ++ ys) ≡ lines_in xs + lines_in ys
joined xs ys = ap length (filter-append (λ b. b == 10) xs ys) ∙ length-append (filter (λ b. b == 10) xs) (filter (λ b. b == 10) ys)

unended : (line : List ℕ) → IsUnended line → lines_in line ≡ 0
unended [] h = refl
unended (b ∷ bs) h = passed b bs h.0 ∙ unended bs h.1

-- ---- lines have their ends

counted : (lines : List (List ℕ)) → AllByRecursion IsUnended lines → lines_in (flat_map ended lines) ≡ length lines
counted [] h = refl
counted (l ∷ ls) h =
    let whole = joined (l ++ 10 ∷ []) (flat_map ended ls) in
    let first = joined l (10 ∷ []) in
    let none = unended l h.0 in
    let rest = counted ls h.1 in
    omega (arith, whole, first, none, rest)

closed : (lines : List (List ℕ)) → EndsLines (flat_map ended lines)
closed [] = inl refl
closed (l ∷ ls) = inr (go (closed ls))
  where
    go : EndsLines (flat_map ended ls) → (front : List ℕ) × (ended l ++ flat_map ended ls ≡ front ++ 10 ∷ [])
    go (inl none) = (l, ap (λ t. ended l ++ t) none ∙ append-nil (ended l))
    go (inr some) = (ended l ++ some.0, ap (λ t. ended l ++ t) some.1 ∙ sym (append_assoc (ended l) some.0 (10 ∷ [])))

pub lines_counted : (n : ℕ) (text : List ℕ) → AreLines n text → (lines_in text ≡ n) × EndsLines text
lines_counted n text h = (ap lines_in h.spelled ∙ counted h.lines h.each ∙ h.many, subst EndsLines (sym h.spelled) (closed h.lines))

-- ---- and a text with such ends is lines

-- a byte more in front of the first line
longer : (byte n : ℕ) (text : List ℕ) → byte ≢ 10 → AreLines (suc n) text → AreLines (suc n) (byte ∷ text)
longer byte n text differs h = go h.lines h.many h.each h.spelled
  where
    go : (lines : List (List ℕ)) → length lines ≡ suc n → AllByRecursion IsUnended lines → text ≡ flat_map ended lines → AreLines (suc n) (byte ∷ text)
    go [] many each spelled = absurd (suc-ne-zero n (sym many))
    go (l ∷ ls) many each spelled = record { lines = (byte ∷ l) ∷ ls; many = many; each = ((differs, each.0), each.1); spelled = ap (λ t. byte ∷ t) spelled }

ends : (front : List ℕ) → AreLines (suc (lines_in front)) (front ++ 10 ∷ [])
ends [] = record { lines = [] ∷ []; many = refl; each = (tt, tt); spelled = refl }
ends (b ∷ bs) = go (b == 10) refl (ends bs)
  where
    go : (is : Bool) → (b == 10) ≡ is → AreLines (suc (lines_in bs)) (bs ++ 10 ∷ []) → AreLines (suc (lines_in (b ∷ bs))) (b ∷ (bs ++ 10 ∷ []))
    go true e rest =
        let line : b ≡ 10 = eqb-true b 10 e in
        record {
          lines = [] ∷ rest.lines;
          many = ap suc (rest.many ∙ sym (ap (λ (c : ℕ). lines_in (c ∷ bs)) line));
          each = (tt, rest.each);
          spelled = ap (λ (c : ℕ). c ∷ (bs ++ 10 ∷ [])) line ∙ ap (λ (t : List ℕ). 10 ∷ t) rest.spelled;
        }
    go false e rest =
        let differs : b ≢ 10 = eqb-false b 10 e in
        subst (λ (n : ℕ). AreLines (suc n) (b ∷ (bs ++ 10 ∷ []))) (sym (passed b bs differs)) (longer b (lines_in bs) (bs ++ 10 ∷ []) differs rest)

pub lines_found : (n : ℕ) (text : List ℕ) → lines_in text ≡ n → EndsLines text → AreLines n text
lines_found n text count (inl none) =
    let zero : 0 ≡ n = sym (ap lines_in none) ∙ count in
    subst (λ (t : List ℕ). AreLines n t) (sym none) (subst (λ (m : ℕ). AreLines m []) zero (record { lines = []; many = refl; each = tt; spelled = refl }))
lines_found n text count (inr some) =
    let one : suc (lines_in some.0) ≡ n = omega (arith, joined some.0 (10 ∷ []), ap lines_in some.1, count) in
    subst (λ (t : List ℕ). AreLines n t) (sym some.1) (subst (λ (m : ℕ). AreLines m (some.0 ++ 10 ∷ [])) one (ends some.0))
