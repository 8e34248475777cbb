-- Lists of which each element is good, or of which one is the first that is bad.
use Rattle.std.proofs.Common.{ℕ, zero, suc, ◌+◌, ◌<◌, ◌≤◌, ◌≡◌, inl, inr, List, [], ◌∷◌, ◌++◌, length, map, take, get_or, refl, sym, ap, subst, arith}
use Rattle.std.proofs.lemmas.List.{take_more, take_all, map-append}
use Rattle.model.specs.Lists.{IsIn}
use Rattle.model.specs.declarations.Walks.{EachIs, IsFirstBad}

pub EachIs-append : {A : Type 0} (Good : A → Type 0) (xs ys : List A) → EachIs Good xs → EachIs Good ys → EachIs Good (xs ++ ys)
EachIs-append Good [] ys h k = k
EachIs-append Good (x ∷ xs) ys h k = (h.0, EachIs-append Good xs ys h.1 k)

pub EachIs-push : {A : Type 0} (Good : A → Type 0) (xs : List A) (x : A) → EachIs Good xs → Good x → EachIs Good (xs ++ x ∷ [])
EachIs-push Good xs x h k = EachIs-append Good xs (x ∷ []) h (k, tt)

pub EachIs-weaker : {A : Type 0} (Good Fine : A → Type 0) (xs : List A) → ((x : A) → Good x → Fine x) → EachIs Good xs → EachIs Fine xs
EachIs-weaker Good Fine [] w h = tt
EachIs-weaker Good Fine (x ∷ xs) w h = (w x h.0, EachIs-weaker Good Fine xs w h.1)

pub EachIs-at : {A : Type 0} (Good : A → Type 0) (xs : List A) → EachIs Good xs → (k : ℕ) (d : A) → k < length xs → Good (get_or xs k d)
EachIs-at Good [] h k d l = absurd (omega arith)
EachIs-at Good (x ∷ xs) h zero d l = h.0
EachIs-at Good (x ∷ xs) h (suc k) d l = EachIs-at Good xs h.1 k d (omega arith)

pub EachIs-from_at : {A : Type 0} (Good : A → Type 0) (xs : List A) → ((k : ℕ) (d : A) → k < length xs → Good (get_or xs k d)) → EachIs Good xs
EachIs-from_at Good [] h = tt
EachIs-from_at Good (x ∷ xs) h = (h 0 x (omega arith), EachIs-from_at Good xs (λ k d l. h (suc k) d (omega arith)))

pub EachIs-map : {A B : Type 0} (Good : B → Type 0) (f : A → B) (xs : List A) → EachIs (λ x. Good (f x)) xs → EachIs Good (map f xs)
EachIs-map Good f [] h = tt
EachIs-map Good f (x ∷ xs) h = (h.0, EachIs-map Good f xs h.1)

pub IsFirstBad-front : {A : Type 0} (Good Bad : A → Type 0) (xs ys : List A) (x : A) → IsFirstBad Good Bad xs x → IsFirstBad Good Bad (xs ++ ys) x
IsFirstBad-front Good Bad [] ys x h = absurd h
IsFirstBad-front Good Bad (y ∷ xs) ys x (inl h) = inl h
IsFirstBad-front Good Bad (y ∷ xs) ys x (inr h) = inr (h.0, IsFirstBad-front Good Bad xs ys x h.1)

pub IsFirstBad-rest : {A : Type 0} (Good Bad : A → Type 0) (xs ys : List A) (x : A) → EachIs Good xs → IsFirstBad Good Bad ys x → IsFirstBad Good Bad (xs ++ ys) x
IsFirstBad-rest Good Bad [] ys x e h = h
IsFirstBad-rest Good Bad (y ∷ xs) ys x e h = inr (e.0, IsFirstBad-rest Good Bad xs ys x e.1 h)

pub IsFirstBad-weaker : {A : Type 0} (Good Bad Fine Ill : A → Type 0) (xs : List A) (x : A) → ((y : A) → Good y → Fine y) → ((y : A) → Bad y → Ill y) → IsFirstBad Good Bad xs x → IsFirstBad Fine Ill xs x
IsFirstBad-weaker Good Bad Fine Ill [] x g b h = h
IsFirstBad-weaker Good Bad Fine Ill (y ∷ xs) x g b (inl h) = inl (h.0, b y h.1)
IsFirstBad-weaker Good Bad Fine Ill (y ∷ xs) x g b (inr h) = inr (g y h.0, IsFirstBad-weaker Good Bad Fine Ill xs x g b h.1)

-- the element at a place that is bad, after good ones
pub IsFirstBad-at : {A : Type 0} (Good Bad : A → Type 0) (xs : List A) (k : ℕ) (d : A) → k < length xs → ((j : ℕ) → j < k → Good (get_or xs j d)) → Bad (get_or xs k d) → IsFirstBad Good Bad xs (get_or xs k d)
IsFirstBad-at Good Bad [] k d l g b = absurd (omega arith)
IsFirstBad-at Good Bad (x ∷ xs) zero d l g b = inl (refl, b)
IsFirstBad-at Good Bad (x ∷ xs) (suc k) d l g b = inr (g 0 (omega arith), IsFirstBad-at Good Bad xs k d (omega arith) (λ j h. g (suc j) (omega arith)) b)

-- what a list of good ones has is good
pub each_in : {A : Type 0} (Good : A → Type 0) (xs : List A) → EachIs Good xs → (x : A) → IsIn x xs → Good x
each_in Good [] each x h = absurd h
each_in Good (y ∷ ys) each x (inl same) = subst Good (sym same) each.0
each_in Good (y ∷ ys) each x (inr more) = each_in Good ys each.1 x more

-- ---- a list that is gone through, with something made of each element

-- one more element is good
pub each_more : {A B : Type 0} (Good : B → Type 0) (f : A → B) (xs : List A) (i : ℕ) (x : A) → i < length xs → x ≡ get_or xs i x → EachIs Good (map f (take i xs)) → Good (f x) →
    EachIs Good (map f (take (i + 1) xs))
each_more {A} Good f xs i x low here each good =
    let more : take (i + 1) xs ≡ take i xs ++ x ∷ [] = subst (λ (y : A). take (i + 1) xs ≡ take i xs ++ y ∷ []) (sym here) (take_more xs i x low) in
    subst (λ ys. EachIs Good (map f ys)) (sym more)
    (subst (λ ys. EachIs Good ys) (sym (map-append f (take i xs) (x ∷ []))) (EachIs-push Good (map f (take i xs)) (f x) each good))

-- all of them are
pub each_all : {A B : Type 0} (Good : B → Type 0) (f : A → B) (xs : List A) (i : ℕ) → length xs ≤ i → EachIs Good (map f (take i xs)) → EachIs Good (map f xs)
each_all Good f xs i past each = subst (λ ys. EachIs Good (map f ys)) (take_all i xs past) each

-- the next one is the first that is bad
pub first_here : {A B : Type 0} (Good Bad : B → Type 0) (f : A → B) (xs : List A) (i : ℕ) (x : A) → i < length xs → x ≡ get_or xs i x → EachIs Good (map f (take i xs)) → Bad (f x) →
    IsFirstBad Good Bad (map f xs) (f x)
first_here Good Bad f [] i x low here each bad = absurd (omega arith)
first_here Good Bad f (y ∷ ys) zero x low here each bad = inl (ap f here, subst (λ z. Bad (f z)) here bad)
first_here Good Bad f (y ∷ ys) (suc i) x low here each bad = inr (each.0, first_here Good Bad f ys i x (omega arith) here each.1 bad)
