-- A schedule under construction, and which systems can be placed next.
use Rattle.std.specs.Prelude.{ℕ, ◌<◌, ◌≤◌, ◌≡◌, ◌++◌, ◌∷◌, Bool, true, false, not, ◌&&◌, ◌==◌, List, [], length, map, get_or, Option, None, Some, nat_lt, if◌then◌else◌}
use Rattle.std.specs.List.{list_all, filter}
use Rattle.model.specs.access.Access.{Params, no_params}
use Rattle.model.specs.declarations.Declarations.{DeclaredSystem, plain_item}
use Rattle.model.specs.steps.Schedule.{Schedule, ScheduledSystem, ScheduledCondition, system_at, has_edge, level_of}
use Rattle.model.specs.Lists.{has}
use Rattle.cycle_search.specs.declared.order.Order.{Order}

-- a schedule of these parts
abbrev pub schedule_with : List ScheduledSystem → List ScheduledCondition → ℕ → List ℕ → List (List ℕ) → Schedule
schedule_with systems conditions syncs order silences = record { systems = systems; conditions = conditions; syncs = syncs; order = order; silences = silences; sets = None }

-- a schedule of these systems in this order, with one sync point
abbrev pub schedule_of : List ScheduledSystem → List ℕ → Schedule
schedule_of systems order = schedule_with systems [] 1 order []

-- whether a system is not placed, is of this level, and its predecessors are all placed
abbrev pub can_place : List ScheduledSystem → List Bool → ℕ → ℕ → Bool
can_place systems placed lowest n =
    not (get_or placed n false) && ((level_of (schedule_of systems []) n == lowest) && list_all (λ m. get_or placed m false) (system_at (schedule_of systems []) n).predecessors)

-- the lowest level of the systems that are not placed, of the first so many
pub record IsLowest (systems : List ScheduledSystem) (placed : List Bool) (count lowest : ℕ) : Type 0 where
  pub system : ℕ
  pub known : system < count
  pub open_yet : get_or placed system false ≡ false
  pub same : level_of (schedule_of systems []) system ≡ lowest
  pub least : (m : ℕ) → m < count → get_or placed m false ≡ false → lowest ≤ level_of (schedule_of systems []) m

-- the lesser of a level that may be there and one that is
abbrev pub lesser_level : Option ℕ → ℕ → ℕ
lesser_level None level = level
lesser_level (Some known) level = if nat_lt known level then known else level

-- the lower of a level that may be there and that of a system, unless it is placed
abbrev pub lower_level : Option ℕ → Bool → ℕ → Option ℕ
lower_level lowest placed level = if placed then lowest else Some (lesser_level lowest level)

-- the lowest level of the first so many systems that are not placed, or that all are
abbrev pub TellsLowestAmong : List ScheduledSystem → List Bool → ℕ → Option ℕ → Type 0
TellsLowestAmong systems placed count None = (m : ℕ) → m < count → get_or placed m false ≡ true
TellsLowestAmong systems placed count (Some lowest) = IsLowest systems placed count lowest

-- the same of all systems
abbrev pub TellsLowest : List ScheduledSystem → List Bool → Option ℕ → Type 0
TellsLowest systems placed lowest = TellsLowestAmong systems placed (length systems) lowest

-- the items that orders put before an item
abbrev pub items_before : List Order → ℕ → List ℕ
items_before orders n = map (λ (o : Order). o.first) (filter (λ (o : Order). o.second == n) orders)

-- a system with the predecessors that orders give it, of a level
abbrev pub scheduled : List Order → ℕ → Params → ℕ → ScheduledSystem
scheduled orders n params level = record { params = params; predecessors = items_before orders n; level = level }

-- an edge from one system to another
abbrev pub IsEdge : List ScheduledSystem → ℕ → ℕ → Type 0
IsEdge systems m n = has_edge (schedule_of systems []) m n ≡ true

-- every edge begins at a system
abbrev pub HasSourcesBelow : List ScheduledSystem → Type 0
HasSourcesBelow systems = (m n : ℕ) → IsEdge systems m n → m < length systems

-- a system that is not placed yet, where all that have an edge to it and all of lower levels are placed
pub record IsOpen (systems : List ScheduledSystem) (placed : List ℕ) (n : ℕ) : Type 0 where
  pub known : n < length systems
  pub open_yet : has n placed ≡ false
  pub after : (m : ℕ) → IsEdge systems m n → has m placed ≡ true
  pub lower : (m : ℕ) → m < length systems → level_of (schedule_of systems []) m < level_of (schedule_of systems []) n → has m placed ≡ true

-- the least declared such system
pub record IsNextOpen (systems : List ScheduledSystem) (placed : List ℕ) (n : ℕ) : Type 0 where
  pub is_open : IsOpen systems placed n
  pub least : (m : ℕ) → m < n → IsOpen systems placed m → ⊥

-- the list follows the rule of the schedule order as far as it goes, edge by edge
abbrev pub IsSequence : List ScheduledSystem → List ℕ → Type 0
IsSequence systems order = (front rest : List ℕ) (n : ℕ) → order ≡ front ++ n ∷ rest → IsNextOpen systems front n

-- levels don't fall along edges
abbrev pub AreRising : List ScheduledSystem → Type 0
AreRising systems = (m n : ℕ) → IsEdge systems m n → level_of (schedule_of systems []) m ≤ level_of (schedule_of systems []) n

-- a system of these parameters, without a name
abbrev pub system_with : Params → DeclaredSystem
system_with params = record { item = plain_item []; params = params }

-- the declared system of a number
abbrev pub declared_in : List DeclaredSystem → ℕ → DeclaredSystem
declared_in systems n = get_or systems n (record { item = plain_item []; params = no_params })

-- the systems, each with its parameters, the predecessors that orders give it, and its level; those of no level are of level 0
pub record AreScheduled (orders : List Order) (levels : List ℕ) (systems : List DeclaredSystem) (built : List ScheduledSystem) : Type 0 where
  pub long : length built ≡ length systems
  pub each : (n : ℕ) → n < length systems → system_at (schedule_of built []) n ≡ scheduled orders n (declared_in systems n).params (get_or levels n 0)
