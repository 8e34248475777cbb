-- One step of a loop that adds to a list what it finds of another.
use Rattle.std.proofs.Common.{◌≡◌, ℕ, ◌+◌, ◌<◌, Bool, true, false, cond, inl, inr, List, [], ◌∷◌, ◌++◌, length, map, take, get_or, append_assoc, sym, ap, subst, ◌∙◌, arith}
use Rattle.std.specs.List.{filter}
use Rattle.std.proofs.lemmas.Bool.{cases_lt}
use Rattle.std.proofs.lemmas.List.{take_more, map-append, append-nil, get_or_append_left, get_or_push, length_push}
use Rattle.std.proofs.lemmas.List.Elements.{filter_more}

-- an element that passes a test gives one
pub found_next : {X Y : Type 0} (f : X → Y) (p : X → Bool) (xs : List X) (i : ℕ) (d : X) (old new : List Y) → i < length xs → p (get_or xs i d) ≡ true → old ≡ map f (filter p (take i xs)) → new ≡ old ++ f (get_or xs i d) ∷ [] →
    new ≡ map f (filter p (take (i + 1) xs))
found_next f p xs i d old new low pass is more =
    let x = get_or xs i d in
    let step : filter p (take (i + 1) xs) ≡ filter p (take i xs) ++ x ∷ [] = filter_more p xs i d low ∙ ap (λ b. filter p (take i xs) ++ cond b (x ∷ []) []) pass in
    more ∙ (ap (λ ys. ys ++ f x ∷ []) is ∙ (sym (map-append f (filter p (take i xs)) (x ∷ [])) ∙ ap (map f) (sym step)))

-- and one that doesn't pass gives none
pub passed_next : {X Y : Type 0} (f : X → Y) (p : X → Bool) (xs : List X) (i : ℕ) (d : X) (old : List Y) → i < length xs → p (get_or xs i d) ≡ false → old ≡ map f (filter p (take i xs)) → old ≡ map f (filter p (take (i + 1) xs))
passed_next f p xs i d old low fails is =
    let x = get_or xs i d in
    let step : filter p (take (i + 1) xs) ≡ filter p (take i xs) ++ [] = filter_more p xs i d low ∙ ap (λ b. filter p (take i xs) ++ cond b (x ∷ []) []) fails in
    is ∙ ap (map f) (sym (step ∙ append-nil (filter p (take i xs))))

-- each number below a bound gives one with a property
pub made_next : {Y : Type 0} (P : ℕ → Y → Type 0) (d : Y) (ys new : List Y) (n : ℕ) (y : Y) → length ys ≡ n → ((k : ℕ) → k < n → P k (get_or ys k d)) → P n y → new ≡ ys ++ y ∷ [] →
    (length new ≡ n + 1) × ((k : ℕ) → k < n + 1 → P k (get_or new k d))
made_next P d ys new n y long each here more = (
  ap length more ∙ (length_push ys y ∙ ap (λ k. k + 1) long),
  λ k low. subst (λ zs. P k (get_or zs k d)) (sym more) (elim (cases_lt k n) [
    | inl below ↦ subst (P k) (sym (get_or_append_left ys (y ∷ []) d k (omega arith))) (each k below)
    | inr above ↦ let at : k ≡ n = omega arith in subst (P k) (sym (get_or_push ys y d k (omega arith))) (subst (λ m. P m y) (sym at) here)
  ]),
)

-- each element is one itself, as a function sees it
pub kept_next : {X Y : Type 0} (f : X → Y) (xs : List Y) (i : ℕ) (y : Y) (first : List Y) (old new : List X) (x : X) → i < length xs → y ≡ get_or xs i y → f x ≡ y → map f old ≡ first ++ take i xs → new ≡ old ++ x ∷ [] →
    map f new ≡ first ++ take (i + 1) xs
kept_next f xs i y first old new x low read here is more =
    ap (map f) more
    ∙ (map-append f old (x ∷ [])
    ∙ (ap (λ ys. ys ++ f x ∷ []) is ∙ (append_assoc first (take i xs) (f x ∷ []) ∙ ap (λ ys. first ++ ys) (ap (λ z. take i xs ++ z ∷ []) (here ∙ read) ∙ sym (take_more xs i y low)))))
