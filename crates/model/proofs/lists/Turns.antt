-- Turns of a loop over a list, each of which adds an element to another one.
use Rattle.std.proofs.Common.{◌≡◌, ℕ, ◌+◌, ◌<◌, ◌≤◌, List, [], ◌∷◌, ◌++◌, length, map, get_or, take, append_assoc, sym, ap, ◌∙◌}
use Rattle.std.proofs.lemmas.List.{map_more, take_more, take_all, map-append}

-- one element more of those that were seen
pub seen_next : {X : Type 0} (xs : List X) (i : ℕ) (x : X) → i < length xs → x ≡ get_or xs i x → take (i + 1) xs ≡ take i xs ++ x ∷ []
seen_next xs i x low here = take_more xs i x low ∙ ap (λ y. take i xs ++ y ∷ []) (sym here)

-- what is added is told, as a function sees it, by the next element
pub copied_next : {X Y Z : Type 0} (seen : Z → Y) (f : X → Y) (xs : List X) (i : ℕ) (d : X) (first : List Y) (old new : List Z) (z : Z) → i < length xs → map seen old ≡ first ++ map f (take i xs) → seen z ≡ f (get_or xs i d) → new ≡ old ++ z ∷ [] →
    map seen new ≡ first ++ map f (take (i + 1) xs)
copied_next seen f xs i d first old new z low is here more =
    ap (map seen) more ∙ map-append seen old (z ∷ []) ∙ ap (λ ys. ys ++ seen z ∷ []) is ∙ append_assoc first (map f (take i xs)) (seen z ∷ [])
    ∙ ap (λ y. first ++ (map f (take i xs) ++ y ∷ [])) here ∙ ap (λ ys. first ++ ys) (sym (map_more f xs i d low))

-- the same where it is added as it is told
pub mapped_next : {X Y : Type 0} (f : X → Y) (xs : List X) (i : ℕ) (d : X) (first old new : List Y) (y : Y) → i < length xs → old ≡ first ++ map f (take i xs) → y ≡ f (get_or xs i d) → new ≡ old ++ y ∷ [] →
    new ≡ first ++ map f (take (i + 1) xs)
mapped_next f xs i d first old new y low is here more =
    more ∙ ap (λ ys. ys ++ y ∷ []) is ∙ append_assoc first (map f (take i xs)) (y ∷ [])
    ∙ ap (λ z. first ++ (map f (take i xs) ++ z ∷ [])) here ∙ ap (λ ys. first ++ ys) (sym (map_more f xs i d low))

-- past the last element all are told
pub mapped_all : {X Y : Type 0} (f : X → Y) (xs : List X) (i : ℕ) (first made : List Y) → length xs ≤ i → made ≡ first ++ map f (take i xs) → made ≡ first ++ map f xs
mapped_all f xs i first made past is = is ∙ ap (λ ys. first ++ map f ys) (take_all i xs past)
