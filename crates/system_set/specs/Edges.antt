-- How the edges of systems are found: what reaches each set, then for each system the items that orders lead to.
use Rattle.std.specs.Prelude.{ℕ, ◌+◌, ◌<◌, ◌≡◌, ◌↔◌, ◌⊎◌, ◌==◌, Bool, true, nat_lt, if◌then◌else◌, List, [], length, get_or}
use Rattle.model.specs.Lists.{IsIn}
use Rattle.model.specs.declarations.Hierarchy.{Hierarchy, Reaches}
use Rattle.model.specs.declarations.Edges.{IsEdge}
use Rattle.cycle_search.specs.declared.order.Order.{Order}
use Rattle.system_set.specs.Pairs.{pairs_of, is_marked}

-- a mark for each item that reaches a set
pub record IsRow (h : Hierarchy) (holder : ℕ) (row : List Bool) : Type 0 where
  pub tells : (n : ℕ) → (is_marked row n ≡ true) ↔ Reaches h n holder

-- the same for each of the first sets
pub record AreRows (h : Hierarchy) (count : ℕ) (rows : List (List Bool)) : Type 0 where
  pub long : length rows ≡ count
  pub each : (holder : ℕ) → holder < count → IsRow h holder (get_or rows holder [])

-- whether a system is a member of an item
abbrev pub has_member : ℕ → List (List Bool) → ℕ → ℕ → Bool
has_member sets rows item n = if nat_lt item sets then is_marked (get_or rows item []) n else item == n

-- an order leads from an item of which the system is a member to this one
abbrev pub IsSecond : ℕ → List (List Bool) → List (ℕ × ℕ) → ℕ → ℕ → Type 0
IsSecond sets rows orders m second = (first : ℕ) × IsIn (first, second) orders × (has_member sets rows first m ≡ true)

-- the marks are those items, and so are the numbers
pub record AreMarkedSeconds (sets : ℕ) (rows : List (List Bool)) (orders : List (ℕ × ℕ)) (m : ℕ) (marks : List Bool) : Type 0 where
  pub tells : (second : ℕ) → (is_marked marks second ≡ true) ↔ IsSecond sets rows orders m second

pub record AreSeconds (sets : ℕ) (rows : List (List Bool)) (orders : List (ℕ × ℕ)) (m : ℕ) (seconds : List ℕ) : Type 0 where
  pub tells : (second : ℕ) → IsIn second seconds ↔ IsSecond sets rows orders m second

-- these are the numbers of the marked items
abbrev pub AreMarked : List Bool → List ℕ → Type 0
AreMarked marks numbers = (n : ℕ) → IsIn n numbers ↔ (is_marked marks n ≡ true)

-- a system is a member of one of these items
abbrev pub IsLedTo : ℕ → List (List Bool) → List ℕ → ℕ → Type 0
IsLedTo sets rows seconds n = (second : ℕ) × IsIn second seconds × (has_member sets rows second n ≡ true)

-- with the edges of one more system, as far as to the systems below a number
pub record HasEdgesTo (sets : ℕ) (rows : List (List Bool)) (seconds : List ℕ) (system below : ℕ) (old new : List Order) : Type 0 where
  pub tells : (m n : ℕ) → IsIn (m, n) (pairs_of new) ↔ (IsIn (m, n) (pairs_of old) ⊎ ((sets + m ≡ system) × (sets + n < below) × IsLedTo sets rows seconds (sets + n)))

-- the edges from the systems below a number
pub record HasEdgesFrom (sets items : ℕ) (rows : List (List Bool)) (orders : List (ℕ × ℕ)) (below : ℕ) (edges : List Order) : Type 0 where
  pub tells : (m n : ℕ) → IsIn (m, n) (pairs_of edges) ↔ ((sets + m < below) × (sets + n < items)
      × ((first : ℕ) × (second : ℕ) × IsIn (first, second) orders × (has_member sets rows first (sets + m) ≡ true) × (has_member sets rows second (sets + n) ≡ true)))

-- all edges of systems, each system by its number among them
pub record AreEdges (h : Hierarchy) (orders : List (ℕ × ℕ)) (edges : List Order) : Type 0 where
  pub tells : (m n : ℕ) → IsIn (m, n) (pairs_of edges) ↔ IsEdge h orders (h.sets + m) (h.sets + n)
