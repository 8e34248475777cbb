-- What a reader shows of a line, and lines that are taken in parts.
use Rattle.std.proofs.Common.{◌≡◌, ◌≢◌, ℕ, zero, suc, ◌+◌, ◌-◌, ◌<◌, ◌≤◌, min, List, [], ◌∷◌, ◌++◌, length, get_or, take, refl, sym, ap, subst, ◌∙◌, inl, inr, arith, append_assoc, length-take}
use Rattle.std.specs.Prelude.{Option, None, Some, IfSome, unwrap_or}
use Rattle.std.specs.Io.{StartsWith}
use Rattle.std.specs.Io.KnownBytes.{Consumes, Keeps}
use Rattle.std.specs.Io.BufRead.{DropsConsumable}
use Rattle.std.proofs.BufReadLemmas.{Consumes_shown}
use Rattle.std.proofs.Math.Seq.{take-append-add}
use Rattle.std.proofs.lemmas.Bool.{eqb-true, eq-eqb, cases_lt}
use Rattle.std.proofs.lemmas.List.{take_all, take_more}
use Rattle.memchr.specs.Find.{IsFirstByte, is_byte}
use Rattle.streams.specs.Lines.{IsUnended, GrowsWithin, TakesShown, GivesLine}
use Rattle.streams.specs.declared.lines.Line.TheVariants.{TooLong}
use Rattle.streams.specs.declared.lines.Shown.TheVariants.{Part, Rest, Nothing}
use Rattle.streams.proofs.Losses.{consumed_more}

-- ---- lists

-- of a part, what there is room for
take_kept : (part : List ℕ) (k room : ℕ) → k ≡ min (length part) room → take k part ≡ take room part
take_kept part k room e = elim (cases_lt room (length part)) [
  | inl less ↦ ap (λ n. take n part) (let s : k ≡ room = omega (arith, e) in s)
  | inr more ↦ take_all k part (omega (arith, e)) ∙ sym (take_all room part (omega (arith, more)))
]

-- a line that grows within its room
grown_within : (line part : List ℕ) (room k : ℕ) → length line ≤ room → k ≡ min (length part) (room - length line) → line ++ take k part ≡ take room (line ++ part)
grown_within line part room k small e =
    ap (λ l. line ++ l) (take_kept part k (room - length line) e)
    ∙ (sym (take-append-add line part (room - length line)) ∙ ap (λ n. take n (line ++ part)) (let s : length line + (room - length line) ≡ room = omega (arith, small) in s))

-- bytes before the first end of a line
unended_before : (bs : List ℕ) (n : ℕ) → ((k : ℕ) → k < n → k < length bs → get_or bs k 0 ≢ 10) → IsUnended (take n bs)
unended_before [] zero h = tt
unended_before [] (suc n) h = tt
unended_before (b ∷ bs) zero h = tt
unended_before (b ∷ bs) (suc n) h = (h 0 (omega arith) (omega arith), unended_before bs n (λ k l m. h (suc k) (omega arith) (omega arith)))

-- ---- what a reader shows

-- a reader that has nothing keeps it
none_lost : (old new : Option (List ℕ)) → IfSome old (λ rest. rest ≡ []) → Consumes old new [] → IfSome old (λ rest. (rest ≡ []) × (new ≡ Some []))
none_lost None new none h = tt
none_lost (Some xs) None none h = absurd h
none_lost (Some xs) (Some ys) none h = (none, ap Some (sym h ∙ none))

none_there : (old : Option (List ℕ)) (count : ℕ) → count ≡ 0 → IfSome old (λ xs. count ≡ 0 → xs ≡ []) → IfSome old (λ rest. rest ≡ [])
none_there None count is h = tt
none_there (Some xs) count is h = h is

module _ (old mid new : Option (List ℕ)) (buffered : Option ℕ) (shown line grown : List ℕ) (room end kept : ℕ) (found : Option ℕ)
    (front : IfSome old (λ xs. StartsWith xs shown)) (empty : IfSome old (λ xs. length shown ≡ 0 → xs ≡ [])) (keeps : Keeps old mid)
    (fits : IfSome old (λ _. IfSome buffered (λ k. length shown ≤ k))) (small : length line ≤ room)
    (first : IsFirstByte (is_byte 10) shown found) (cut : end ≡ unwrap_or found (length shown)) (most : kept ≡ min (length (take end shown)) (room - length line))
    (grows : grown ≡ line ++ take kept (take end shown)) where
  growth : grown ≡ take room (line ++ take end shown)
  growth = grows ∙ grown_within line (take end shown) room kept small most

  -- the end of the line
  pub rest_shown : (n : ℕ) → found ≡ Some n → DropsConsumable mid new buffered (n + 1) → TakesShown room old new line grown Rest
  rest_shown n is drops =
      let one = subst (λ o. IsFirstByte (is_byte 10) shown o) is first in
      let at : end ≡ n = cut ∙ ap (λ o. unwrap_or o (length shown)) is in
      let low : n < length shown = one.0.high in
      let ten : get_or shown n 0 ≡ 10 = eqb-true (get_or shown n 0) 10 one.1 in
      let moved = Consumes_shown old mid new buffered shown (n + 1) (omega (arith, low)) front empty keeps fits drops in (
        take end shown,
        (subst (λ m. IsUnended (take m shown)) (sym at) (unended_before shown n (λ k l m e. one.0.before k (omega arith) l (eq-eqb (get_or shown k 0) 10 e))), growth),
        subst (λ bs. Consumes old new bs) (take_more shown n 0 low ∙ (ap (λ b. take n shown ++ b ∷ []) ten ∙ ap (λ m. take m shown ++ 10 ∷ []) (sym at))) moved.0,
      )

  -- more of the line
  pub part_shown : found ≡ None → DropsConsumable mid new buffered (length shown) → TakesShown room old new line grown Part
  part_shown is drops =
      let none = subst (λ o. IsFirstByte (is_byte 10) shown o) is first in
      let at : end ≡ length shown = cut ∙ ap (λ o. unwrap_or o (length shown)) is in
      let moved = Consumes_shown old mid new buffered shown (length shown) (omega arith) front empty keeps fits drops in (
        take end shown,
        (unended_before shown end (λ k l m e. none k (omega arith) m (eq-eqb (get_or shown k 0) 10 e)), growth),
        subst (λ m. Consumes old new (take m shown)) (sym at) moved.0,
      )

  -- nothing is left
  pub nothing_shown : found ≡ None → length shown ≡ 0 → DropsConsumable mid new buffered 0 → TakesShown room old new line grown Nothing
  nothing_shown is none drops =
      let moved = Consumes_shown old mid new buffered shown 0 (omega arith) front empty keeps fits drops in
      none_lost old new (none_there old (length shown) none empty) moved.0

-- ---- lines that are taken in parts

-- what a reader lost of a line that isn't ended yet, of which so much is kept
abbrev pub HasLost : ℕ → Option (List ℕ) → Option (List ℕ) → List ℕ → Type 0
HasLost room old new kept = (lost : List ℕ) × IsUnended lost × (kept ≡ take room lost) × Consumes old new lost

unended_more : (bs cs : List ℕ) → IsUnended bs → IsUnended cs → IsUnended (bs ++ cs)
unended_more [] cs h k = k
unended_more (b ∷ bs) cs h k = (h.0, unended_more bs cs h.1 k)

-- what has no room twice has none
take_again : (n : ℕ) (xs ys : List ℕ) → take n (take n xs ++ ys) ≡ take n (xs ++ ys)
take_again zero xs ys = refl
take_again (suc n) [] ys = refl
take_again (suc n) (x ∷ xs) ys = ap (λ l. x ∷ l) (take_again n xs ys)

module _ (room : ℕ) (old mid new : Option (List ℕ)) (kept grown part : List ℕ) (lost : HasLost room old mid kept) (grows : GrowsWithin room kept grown part) where
  whole_growth : grown ≡ take room (lost.0 ++ part)
  whole_growth = grows.1 ∙ (ap (λ l. take room (l ++ part)) lost.2 ∙ take_again room lost.0 part)

  -- one part more
  pub lost_more : Consumes mid new part → HasLost room old new grown
  lost_more h = (lost.0 ++ part, unended_more lost.0 part lost.1 grows.0, whole_growth, consumed_more old mid new lost.0 part lost.3 h)

  ended : Consumes mid new (part ++ 10 ∷ []) → Consumes old new ((lost.0 ++ part) ++ 10 ∷ [])
  ended h = subst (λ bs. Consumes old new bs) (sym (append_assoc lost.0 part (10 ∷ []))) (consumed_more old mid new lost.0 (part ++ 10 ∷ []) lost.3 h)

  -- the end of a line that had no room
  pub line_long : (limit : ℕ) → room ≡ limit + 1 → room ≤ length grown → Consumes mid new (part ++ 10 ∷ []) → GivesLine limit old new grown TooLong
  line_long limit is long h =
      (lost.0 ++ part, unended_more lost.0 part lost.1 grows.0, omega (arith, is, long, ap length whole_growth, length-take room (lost.0 ++ part)), ended h)
