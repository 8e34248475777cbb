-- Systems that never ran.
use Rattle.std.proofs.Common.{◌≡◌, ℕ, zero, suc, ◌+◌, ◌<◌, List, [], ◌∷◌, ◌++◌, length, map, take, drop, set, get_or, replicate, refl, ap, ◌∙◌, arith}
use Rattle.model.proofs.lists.Each.{each-replicate as all-replicate}

more : {A : Type 0} (n : ℕ) (x : A) → replicate (suc n) x ≡ replicate n x ++ x ∷ []
more zero x = refl
more (suc n) x = ap (λ xs. x ∷ xs) (more n x)

-- one more
pub replicate-more : {A : Type 0} (n : ℕ) (x : A) → replicate (n + 1) x ≡ replicate n x ++ x ∷ []
replicate-more n x = ap (λ m. replicate m x) (let s : n + 1 ≡ suc n = omega arith in s) ∙ more n x

-- a cursor for each reader
pub zeros : {A : Type 0} (f : A → ℕ) (xs : List A) → map {B = ℕ} (λ kind. 0) (map f xs) ≡ replicate (length xs) 0
zeros f [] = refl
zeros f (x ∷ xs) = ap (λ ys. 0 ∷ ys) (zeros f xs)

-- one more cursor at its end
pub set-ends : {A : Type 0} (f : A → ℕ) (xs : List A) (cs : List ℕ) (i v : ℕ) (d : A) → i < length xs → length cs ≡ length xs → v ≡ f (get_or xs i d) →
    set (map f (take i xs) ++ drop i cs) i v ≡ map f (take (suc i) xs) ++ drop (suc i) cs
set-ends f [] cs i v d l e is = absurd (omega arith)
set-ends f (x ∷ xs) [] i v d l e is = absurd (omega (arith, e))
set-ends f (x ∷ xs) (c ∷ cs) zero v d l e is = ap (λ w. w ∷ cs) is
set-ends f (x ∷ xs) (c ∷ cs) (suc i) v d l e is = ap (λ ys. f x ∷ ys) (set-ends f xs cs i v d (omega arith) (let h : suc (length cs) ≡ suc (length xs) = e in omega arith) is)

-- the ends of the queues of these kinds
pub map-twice : {A B C : Type 0} (f : A → B) (g : B → C) (xs : List A) → map g (map f xs) ≡ map (λ x. g (f x)) xs
map-twice f g [] = refl
map-twice f g (x ∷ xs) = ap (λ ys. g (f x) ∷ ys) (map-twice f g xs)

pub ruleset repeated = (replicate-more, all-replicate)
