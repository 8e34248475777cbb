-- The schedule that declared items stand for: its edges, its levels, its sync points, its conditions, the ambiguities that it allows and its schedule order.
use Rattle.std.specs.Prelude.{ℕ, suc, ◌+◌, ◌<◌, ◌≤◌, ◌≡◌, ◌⊎◌, ◌↔◌, true, false, is_some, List, ◌∷◌, ◌++◌, length, map}
use Rattle.model.specs.Lists.{has}
use Rattle.model.specs.steps.Schedule.{Schedule, ScheduledSystem, has_edge, level_of, condition_of, covers, is_silenced}
use Rattle.model.specs.steps.Ambiguity.{Before}
use Rattle.model.specs.declarations.Declarations.{Declared, DeclaredSystem, declared_at, hierarchy_of, declared_orders, plain_orders, declared_silences, declared_conditions, condition_numbered, conditioned}
use Rattle.model.specs.declarations.Edges.{IsMemberOf, IsEdge}

-- a system that is not placed yet, where all that are before it are placed
pub record IsPlaceable (s : Schedule) (placed : List ℕ) (n : ℕ) : Type 0 where
  pub known : n < length s.systems
  pub open_yet : has n placed ≡ false
  pub after : (m : ℕ) → m < length s.systems → Before s m n → has m placed ≡ true

-- the least declared such system
pub record IsNextPlaced (s : Schedule) (placed : List ℕ) (n : ℕ) : Type 0 where
  pub placeable : IsPlaceable s placed n
  pub least : (m : ℕ) → m < n → IsPlaceable s placed m → ⊥

-- the schedule order: always the least declared system of which all that are before it are placed, until each system is placed
pub record IsScheduleOrder (s : Schedule) : Type 0 where
  pub next : (front rest : List ℕ) (n : ℕ) → s.order ≡ front ++ n ∷ rest → IsNextPlaced s front n
  pub whole : (n : ℕ) → n < length s.systems → has n s.order ≡ true

-- an edge between two systems, by their numbers among the systems
abbrev pub IsDeclaredEdge : Declared → ℕ → ℕ → Type 0
IsDeclaredEdge d m n = IsEdge (hierarchy_of d) (declared_orders d) (length d.sets + m) (length d.sets + n)

-- the edges that the declared orders give, and no other
abbrev pub HasDeclaredEdges : Declared → Schedule → Type 0
HasDeclaredEdges d s = (m n : ℕ) → (has_edge s m n ≡ true) ↔ IsDeclaredEdge d m n

-- the systems in declared order, each with its parameters
abbrev pub HasDeclaredSystems : Declared → Schedule → Type 0
HasDeclaredSystems d s = map (λ (x : ScheduledSystem). x.params) s.systems ≡ map (λ (x : DeclaredSystem). x.params) d.systems

-- ---- levels

-- whether a system has commands
abbrev pub HasCommands : Declared → ℕ → Type 0
HasCommands d n = is_some (declared_at d n).params.spawns ≡ true

-- an edge is deferring where it leads out of a system with commands, and not every order that gives it ignores deferred commands
pub record IsDeferring (d : Declared) (m n : ℕ) : Type 0 where
  pub commands : HasCommands d m
  pub plain : IsEdge (hierarchy_of d) (plain_orders d) (length d.sets + m) (length d.sets + n)

-- a path of edges that ends at a system, with so many deferring edges
pub data HasPath (d : Declared) : ℕ → ℕ → Type 0 where
  Begins : (n : ℕ) → HasPath d n 0
  Goes : (m n count : ℕ) → HasPath d m count → IsDeclaredEdge d m n → (IsDeferring d m n → ⊥) → HasPath d n count
  Defers : (m n count : ℕ) → HasPath d m count → IsDeferring d m n → HasPath d n (suc count)

-- the level of a system: the greatest number of deferring edges on a path that ends at it
pub record IsLevel (d : Declared) (n level : ℕ) : Type 0 where
  pub path : HasPath d n level
  pub greatest : (count : ℕ) → HasPath d n count → count ≤ level

-- each system has its level, and there are as many sync points as the greatest level plus one, and one without systems
pub record HasLevels (d : Declared) (s : Schedule) : Type 0 where
  pub levels : (n : ℕ) → n < length s.systems → IsLevel d n (level_of s n)
  pub below : (n : ℕ) → n < length s.systems → level_of s n < s.syncs
  pub least : (s.syncs ≡ 1) ⊎ ((n : ℕ) × (n < length s.systems) × (s.syncs ≡ suc (level_of s n)))

-- ---- ambiguities that are allowed

-- a system is of an item that may be ambiguous with an item of another
abbrev pub IsSilence : Declared → ℕ → ℕ → Type 0
IsSilence d m n = IsEdge (hierarchy_of d) (declared_silences d) (length d.sets + m) (length d.sets + n)

-- two systems may be ambiguous where this is so either way
pub record HasDeclaredSilences (d : Declared) (s : Schedule) : Type 0 where
  pub tells : (m n : ℕ) → m < length s.systems → (is_silenced s m n ≡ true) ↔ (IsSilence d m n ⊎ IsSilence d n m)

-- ---- conditions

-- the conditions by number, each of which covers the members of its item
pub record HasDeclaredConditions (d : Declared) (s : Schedule) : Type 0 where
  pub count : length s.conditions ≡ length (declared_conditions d)
  pub asks : (c : ℕ) → condition_of s c ≡ condition_numbered d c
  pub covered : (c n : ℕ) → c < length s.conditions → (covers s c n ≡ true) ↔ IsMemberOf (hierarchy_of d) (conditioned d c) (length d.sets + n)
