-- What holds of the first elements of a list.
use Rattle.std.proofs.Common.{◌<◌, ◌≤◌, ◌+◌, ℕ, zero, suc, List, [], ◌∷◌, length, map, take, get_or, add-one, subst, sym, arith}
use Rattle.std.specs.List.{AllByRecursion}

-- one more
all_next : {X : Type 0} (P : X → Type 0) (xs : List X) (i : ℕ) (d : X) → i < length xs → AllByRecursion P (take i xs) → P (get_or xs i d) → AllByRecursion P (take (suc i) xs)
all_next P [] i d low all is = absurd (omega arith)
all_next P (x ∷ xs) zero d low all is = (is, tt)
all_next P (x ∷ xs) (suc i) d low all is = (all.0, all_next P xs i d (omega arith) all.1 is)

pub all_more : {X : Type 0} (P : X → Type 0) (xs : List X) (i : ℕ) (d : X) → i < length xs → AllByRecursion P (take i xs) → P (get_or xs i d) → AllByRecursion P (take (i + 1) xs)
all_more P xs i d low all is = subst (λ (n : ℕ). AllByRecursion P (take n xs)) (sym (add-one i)) (all_next P xs i d low all is)

-- all of them
pub all_whole : {X : Type 0} (P : X → Type 0) (xs : List X) (i : ℕ) → length xs ≤ i → AllByRecursion P (take i xs) → AllByRecursion P xs
all_whole P [] i high all = tt
all_whole P (x ∷ xs) zero high all = absurd (omega arith)
all_whole P (x ∷ xs) (suc i) high all = (all.0, all_whole P xs i (omega arith) all.1)

-- of what is seen of them
pub all_seen : {X Y : Type 0} (P : Y → Type 0) (f : X → Y) (xs : List X) → AllByRecursion (λ x. P (f x)) xs → AllByRecursion P (map f xs)
all_seen P f [] all = tt
all_seen P f (x ∷ xs) all = (all.0, all_seen P f xs all.1)
