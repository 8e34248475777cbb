-- The members of items, each by its number among the systems: how they are found, and what is told of them.
use Rattle.std.specs.Prelude.{ℕ, ◌+◌, ◌<◌, ◌≡◌, ◌↔◌, Bool, true, List, [], length, get_or}
use Rattle.model.specs.Lists.{has}
use Rattle.model.specs.declarations.Hierarchy.{Hierarchy, IsRising}
use Rattle.model.specs.declarations.Edges.{IsMemberOf}
use Rattle.system_set.specs.Edges.{has_member}

-- the members of an item that are below a number, by what reaches each set
pub record AreNumbersTo (sets : ℕ) (rows : List (List Bool)) (item below : ℕ) (numbers : List ℕ) : Type 0 where
  pub each : (n : ℕ) → (has n numbers ≡ true) ↔ ((sets + n < below) × (has_member sets rows item (sets + n) ≡ true))
  pub rising : IsRising numbers

-- the members of an item, in rising order
pub record AreNumbers (h : Hierarchy) (item : ℕ) (numbers : List ℕ) : Type 0 where
  pub each : (n : ℕ) → (has n numbers ≡ true) ↔ IsMemberOf h item (h.sets + n)
  pub rising : IsRising numbers

-- the members of each of some items
pub record AreCovered (h : Hierarchy) (items : List ℕ) (lists : List (List ℕ)) : Type 0 where
  pub long : length lists ≡ length items
  pub each : (c : ℕ) → c < length items → AreNumbers h (get_or items c 0) (get_or lists c [])
