-- Orders of items by number: the edges of systems that they give, and what is refused of orders where there are sets.
use Rattle.std.specs.Prelude.{ℕ, ◌<◌, ◌≤◌, ◌≡◌, ◌⊎◌, ◌++◌, true, List, length, take}
use Rattle.model.specs.Lists.{has, IsIn, head_or}
use Rattle.model.specs.declarations.Walks.{EachIs, IsFirstBad, IsOnceEach, IsWalk}
use Rattle.model.specs.declarations.Hierarchy.{Hierarchy, Reaches, IsMember}

-- a system is its own only member
pub record IsItself (h : Hierarchy) (item n : ℕ) : Type 0 where
  pub system : h.sets ≤ n
  pub known : n < h.items
  pub same : item ≡ n

-- a member of an item: of a system itself, of a set one of its members
abbrev pub IsMemberOf : Hierarchy → ℕ → ℕ → Type 0
IsMemberOf h item n = IsItself h item n ⊎ IsMember h item n

-- an edge leads from each member of the first item of an order to each member of the second
pub record IsEdge (h : Hierarchy) (orders : List (ℕ × ℕ)) (m n : ℕ) : Type 0 where
  pub first : ℕ
  pub second : ℕ
  pub ordered : IsIn (first, second) orders
  pub from : IsMemberOf h first m
  pub to : IsMemberOf h second n

-- ---- an item and itself

-- no item is ordered with itself
abbrev pub HasNoLoop : List (ℕ × ℕ) → Type 0
HasNoLoop orders = EachIs (λ o. o.0 ≡ o.1 → ⊥) orders

-- the first order of an item with itself
abbrev pub IsLoop : List (ℕ × ℕ) → ℕ → Type 0
IsLoop orders n = IsFirstBad (λ o. o.0 ≡ o.1 → ⊥) (λ o. o.0 ≡ o.1) orders (n, n)

-- ---- an item and a set that holds it

-- an order is one between an item and a set that holds it, at any depth
abbrev pub IsCrossed : Hierarchy → ℕ × ℕ → Type 0
IsCrossed h o = Reaches h o.0 o.1 ⊎ Reaches h o.1 o.0

-- no order is
abbrev pub HasNoCrossing : Hierarchy → List (ℕ × ℕ) → Type 0
HasNoCrossing h orders = EachIs (λ o. IsCrossed h o → ⊥) orders

-- the first order that is, with the item and the set
pub record IsCrossing (h : Hierarchy) (orders : List (ℕ × ℕ)) (item holder : ℕ) : Type 0 where
  pub order : ℕ × ℕ
  pub first : IsFirstBad (λ o. IsCrossed h o → ⊥) (IsCrossed h) orders order
  pub between : (order ≡ (item, holder)) ⊎ (order ≡ (holder, item))
  pub held : Reaches h item holder

-- ---- two sets that share a system

-- the two items of an order are sets that share a system
abbrev pub IsShared : Hierarchy → ℕ × ℕ → ℕ → Type 0
IsShared h o n = IsMember h o.0 n × IsMember h o.1 n

-- no two ordered sets share a system
abbrev pub AreApart : Hierarchy → List (ℕ × ℕ) → Type 0
AreApart h orders = EachIs (λ o. (n : ℕ) → IsShared h o n → ⊥) orders

-- the first order of two sets that do, with the least declared system that they share
pub record IsSharing (h : Hierarchy) (orders : List (ℕ × ℕ)) (first second n : ℕ) : Type 0 where
  pub order : IsFirstBad (λ o. (m : ℕ) → IsShared h o m → ⊥) (λ o. (m : ℕ) × IsShared h o m) orders (first, second)
  pub shared : IsShared h (first, second) n
  pub least : (m : ℕ) → m < n → IsShared h (first, second) m → ⊥

-- ---- cycles

-- an item follows another: by an order, or by an edge of systems
abbrev pub IsFollowed : Hierarchy → List (ℕ × ℕ) → ℕ → ℕ → Type 0
IsFollowed h orders m n = IsIn (m, n) orders ⊎ IsEdge h orders m n

-- a cycle: at least two items, none twice, each followed by the next, and the last by the first
pub record IsCycle (h : Hierarchy) (orders : List (ℕ × ℕ)) (items : List ℕ) : Type 0 where
  pub two : 2 ≤ length items
  pub once : IsOnceEach items
  pub followed : IsWalk (IsFollowed h orders) (items ++ take 1 items)

-- there is none
abbrev pub HasNoCycle : Hierarchy → List (ℕ × ℕ) → Type 0
HasNoCycle h orders = (items : List ℕ) → IsCycle h orders items → ⊥

-- a cycle from its earliest declared item
pub record IsReportedCycle (h : Hierarchy) (orders : List (ℕ × ℕ)) (items : List ℕ) : Type 0 where
  pub cycle : IsCycle h orders items
  pub earliest : (n : ℕ) → has n items ≡ true → head_or 0 items ≤ n
