-- Lists that go with a list of kinds: one element for each kind.
use Rattle.std.specs.Prelude.{ℕ, ◌<◌, cond, ◌==◌, List, [], ◌∷◌, filter, Option, Some, None}
use Rattle.std.specs.List.{AllByRecursion}
use Rattle.model.specs.Lists.{has}
use Rattle.kinds.specs.Kind.{kind_count, numbers_from}

-- the element of a kind
abbrev pub at_kind : {A : Type 0} → List ℕ → ℕ → List A → Option A
at_kind [] kind xs = None
at_kind (k ∷ ks) kind [] = None
at_kind (k ∷ ks) kind (x ∷ xs) = cond (k == kind) (Some x) (at_kind ks kind xs)

-- the list with f applied to the element of a kind
abbrev pub update_kind : {A : Type 0} → List ℕ → ℕ → (A → A) → List A → List A
update_kind [] kind f xs = xs
update_kind (k ∷ ks) kind f [] = []
update_kind (k ∷ ks) kind f (x ∷ xs) = cond (k == kind) (f x ∷ xs) (x ∷ update_kind ks kind f xs)

-- the numbers of kinds that are among a list, each once, in rising order
abbrev pub in_order : List ℕ → List ℕ
in_order numbers = filter (λ n. has n numbers) (numbers_from 0 kind_count)

-- numbers of which each is below those after it
abbrev pub AreBelow : List ℕ → Type 0
AreBelow [] = Unit {0}
AreBelow (n ∷ ns) = AllByRecursion (λ m. n < m) ns × AreBelow ns
