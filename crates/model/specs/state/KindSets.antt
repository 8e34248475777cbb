-- Sets of kinds as numbers: the number of a set is the sum of 2 ^ k over its kinds k. And the sets of the living entities.
use Rattle.std.specs.Prelude.{ℕ, ◌^◌, ◌<◌, Bool, ◌==◌, nat_lt, bit_or, cond, List, [], ◌∷◌}
use Rattle.std.specs.List.{AllByRecursion}
use Rattle.std.specs.Int.{bit_at}
use Rattle.model.specs.declarations.Hierarchy.{IsRising}
use Rattle.model.specs.state.State.{Component, Slot, is_living}

-- the set of kinds of a number: whether it holds a kind
abbrev pub set_of : ℕ → ℕ → Bool
set_of number kind = bit_at number kind == 1

-- the number of the kinds that a row holds, each once
unfoldable pub kinds_number : List Component → ℕ
kinds_number [] = 0
kinds_number (c ∷ cs) = bit_or (2 ^ c.kind) (kinds_number cs)

-- rising numbers with one more, where it isn't there
abbrev pub with_number : ℕ → List ℕ → List ℕ
with_number n [] = n ∷ []
with_number n (m ∷ ms) = cond (n == m) (m ∷ ms) (cond (nat_lt n m) (n ∷ m ∷ ms) (m ∷ with_number n ms))

-- less than this is the number of any set of kinds
abbrev pub set_limit : ℕ
set_limit = 1048576

-- numbers of sets of kinds: they rise, and none is past that of all kinds together
pub record AreSetNumbers (numbers : List ℕ) : Type 0 where
  pub rise : IsRising numbers
  pub below : AllByRecursion (λ n. n < set_limit) numbers

-- the numbers of the kind sets of the living entities, each once, rising
unfoldable pub kind_sets_of : List Slot → List ℕ
kind_sets_of [] = []
kind_sets_of (slot ∷ slots) = cond (is_living slot.status) (with_number (kinds_number slot.row) (kind_sets_of slots)) (kind_sets_of slots)
