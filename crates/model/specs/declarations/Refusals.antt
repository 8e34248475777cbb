-- Why declared items are refused, each refusal in its own words, and which one is told.
use Rattle.std.specs.Prelude.{ℕ, ◌<◌, ◌≤◌, ◌≡◌, ◌⊎◌, true, Some, None, unwrap_or, List, [], length, map, get_or}
use Rattle.model.specs.access.Query.{Term, writes}
use Rattle.model.specs.access.Condition.{queries_of}
use Rattle.model.specs.access.SelfConflict.{ConflictWithin}
pub use Rattle.model.specs.access.QueryFaults.{query_fault}
use Rattle.model.specs.declarations.Walks.{EachIs, IsFirstBad}
use Rattle.model.specs.declarations.Hierarchy.{HasNoSelf, IsFirstSelf, HasNoSetCycle, IsReportedSetCycle}
use Rattle.model.specs.declarations.Edges.{HasNoLoop, IsLoop, HasNoCrossing, IsCrossing, AreApart, IsSharing, HasNoCycle, IsReportedCycle}
use Rattle.model.specs.declarations.Declarations.{Declared, items_of, name_of, declared_at, system_name, IsNamedBelow, looked_up, hierarchy_of, declared_orders, declared_conditions, condition_numbered}

-- a refusal, with what it tells
pub data Refusal : Type 0 where
  UnknownName DuplicateName HierarchyLoop DependencyLoop : List ℕ → Refusal
  HierarchyCycle DependencyCycle : List (List ℕ) → Refusal
  CrossDependency : List ℕ → List ℕ → Refusal
  SetsIntersect : List ℕ → List ℕ → List ℕ → Refusal
  SelfConflict : List ℕ → Refusal
  BadQuery : List ℕ → ℕ → ℕ → Refusal
  BadConditionQuery : ℕ → ℕ → ℕ → Refusal
  ConditionWrites : ℕ → Refusal
  OverLimit : ℕ → Refusal

-- ---- names

-- a name that is looked up is that of an item that it may name
abbrev pub IsKnown : Declared → ℕ × List ℕ → Type 0
IsKnown d looked = IsNamedBelow d looked.0 looked.1

-- each name that is looked up is
abbrev pub KnowsNames : Declared → Type 0
KnowsNames d = EachIs (IsKnown d) (looked_up d)

-- the first name looked up that is not
pub record IsUnknownName (d : Declared) (name : List ℕ) : Type 0 where
  pub bound : ℕ
  pub first : IsFirstBad (IsKnown d) (λ x. IsKnown d x → ⊥) (looked_up d) (bound, name)

-- an item has an earlier item's name
abbrev pub RepeatsName : Declared → ℕ → Type 0
RepeatsName d n = (m : ℕ) × (m < n) × (name_of d m ≡ name_of d n)

-- no item has an earlier item's name
abbrev pub HasDistinctNames : Declared → Type 0
HasDistinctNames d = (n : ℕ) → n < length (items_of d) → RepeatsName d n → ⊥

-- the name of the first item that has an earlier item's name
abbrev pub IsDuplicateName : Declared → List ℕ → Type 0
IsDuplicateName d name = (n : ℕ) × (n < length (items_of d)) × RepeatsName d n × ((m : ℕ) → m < n → RepeatsName d m → ⊥) × (name ≡ name_of d n)

-- ---- sets and orders

-- the names of items that are told
abbrev pub names_of : Declared → List ℕ → List (List ℕ)
names_of d items = map (name_of d) items

-- the first set that is declared to be in itself
abbrev pub IsHierarchyLoop : Declared → List ℕ → Type 0
IsHierarchyLoop d name = (n : ℕ) × IsFirstSelf (hierarchy_of d) n × (name ≡ name_of d n)

-- a cycle of sets
abbrev pub IsHierarchyCycle : Declared → List (List ℕ) → Type 0
IsHierarchyCycle d told = (items : List ℕ) × IsReportedSetCycle (hierarchy_of d) items × (told ≡ names_of d items)

-- the first declared order of an item with itself
abbrev pub IsDependencyLoop : Declared → List ℕ → Type 0
IsDependencyLoop d name = (n : ℕ) × IsLoop (declared_orders d) n × (name ≡ name_of d n)

-- the first declared order between an item and a set that holds it
abbrev pub IsCrossDependency : Declared → List ℕ → List ℕ → Type 0
IsCrossDependency d item holder = (m : ℕ) × (n : ℕ) × IsCrossing (hierarchy_of d) (declared_orders d) m n × (item ≡ name_of d m) × (holder ≡ name_of d n)

-- the first declared order of two sets that share a system
abbrev pub IsSetsIntersect : Declared → List ℕ → List ℕ → List ℕ → Type 0
IsSetsIntersect d first second system = (m : ℕ) × (n : ℕ) × (k : ℕ) × IsSharing (hierarchy_of d) (declared_orders d) m n k
    × (first ≡ name_of d m) × (second ≡ name_of d n) × (system ≡ name_of d k)

-- a cycle of items, each followed by the next by a declared order or by an edge of systems
abbrev pub IsDependencyCycle : Declared → List (List ℕ) → Type 0
IsDependencyCycle d told = (items : List ℕ) × IsReportedCycle (hierarchy_of d) (declared_orders d) items × (told ≡ names_of d items)

-- ---- parameters

-- no system's parameters conflict among themselves
abbrev pub HasNoSelfConflict : Declared → Type 0
HasNoSelfConflict d = (n : ℕ) → n < length d.systems → ConflictWithin (declared_at d n).params → ⊥

-- the name of the first system whose parameters conflict among themselves
abbrev pub IsSelfConflict : Declared → List ℕ → Type 0
IsSelfConflict d name = (n : ℕ) × (n < length d.systems) × ConflictWithin (declared_at d n).params × ((m : ℕ) → m < n → ConflictWithin (declared_at d m).params → ⊥) × (name ≡ system_name d n)

-- ---- queries

-- the query of a system by its number; none where the system has no such query
abbrev pub query_of : Declared → ℕ → ℕ → List Term
query_of d n number = get_or (declared_at d n).params.queries number []

-- nothing is wrong with any query
abbrev pub HasGoodQueries : Declared → Type 0
HasGoodQueries d = (n number : ℕ) → query_fault (query_of d n number) ≡ None

-- the first system with a query at fault, its first query at fault, and the least fault of that query
pub record IsBadQuery (d : Declared) (owner : List ℕ) (number fault : ℕ) : Type 0 where
  pub item : ℕ
  pub least : query_fault (query_of d item number) ≡ Some fault
  pub systems_before : (m k : ℕ) → m < item → query_fault (query_of d m k) ≡ None
  pub queries_before : (k : ℕ) → k < number → query_fault (query_of d item k) ≡ None
  pub told : owner ≡ system_name d item

-- ---- queries of conditions

-- the query of a condition by its number, the queries of one condition numbered from the left; none where it has no such query
abbrev pub condition_query : Declared → ℕ → ℕ → List Term
condition_query d c number = get_or (queries_of (condition_numbered d c)) number []

-- nothing is wrong with any query of a condition
abbrev pub HasGoodConditions : Declared → Type 0
HasGoodConditions d = (c number : ℕ) → query_fault (condition_query d c number) ≡ None

-- the first condition with a query at fault, its first query at fault, and the least fault of that query
pub record IsBadCondition (d : Declared) (c number fault : ℕ) : Type 0 where
  pub least : query_fault (condition_query d c number) ≡ Some fault
  pub conditions_before : (m k : ℕ) → m < c → query_fault (condition_query d m k) ≡ None
  pub queries_before : (k : ℕ) → k < number → query_fault (condition_query d c k) ≡ None

-- a condition has a query that writes a kind
abbrev pub IsWriting : Declared → ℕ → Type 0
IsWriting d c = (number : ℕ) × (kind : ℕ) × (writes (condition_query d c number) kind ≡ true)

-- none has
abbrev pub AreReading : Declared → Type 0
AreReading d = (c : ℕ) → IsWriting d c → ⊥

-- the first condition that has
abbrev pub IsConditionWrites : Declared → ℕ → Type 0
IsConditionWrites d c = IsWriting d c × ((m : ℕ) → m < c → IsWriting d m → ⊥)

-- ---- limits

-- the ids that a system is given at a start
abbrev pub granted_to : Declared → ℕ → ℕ
granted_to d n = unwrap_or (declared_at d n).params.spawns 0

-- there are few enough systems, sets, conditions, queries in each system, and ids at each start
pub record IsWithinLimits (d : Declared) : Type 0 where
  pub systems : length d.systems ≤ 256
  pub sets : length d.sets ≤ 64
  pub conditions : length (declared_conditions d) ≤ 512
  pub queries : (n : ℕ) → length (declared_at d n).params.queries ≤ 8
  pub spawns : (n : ℕ) → granted_to d n ≤ 1024

-- a system has too many queries
abbrev pub HasManyQueries : Declared → Type 0
HasManyQueries d = (n : ℕ) × (8 < length (declared_at d n).params.queries)

-- a system is given too many ids
abbrev pub HasManySpawns : Declared → Type 0
HasManySpawns d = (n : ℕ) × (1024 < granted_to d n)

-- each system has few enough queries
abbrev pub HasFewQueries : Declared → Type 0
HasFewQueries d = (n : ℕ) → length (declared_at d n).params.queries ≤ 8

-- the number of the least limit that is passed: 1 of systems, 2 of sets, 3 of conditions, 4 of the queries of a system, 5 of the ids
-- that a system is given
abbrev pub IsOverLimit : Declared → ℕ → Type 0
IsOverLimit d limit = ((256 < length d.systems) × (limit ≡ 1))
    ⊎ (((length d.systems ≤ 256) × (64 < length d.sets) × (limit ≡ 2))
    ⊎ (((length d.systems ≤ 256) × (length d.sets ≤ 64) × (512 < length (declared_conditions d)) × (limit ≡ 3))
    ⊎ (((length d.systems ≤ 256) × (length d.sets ≤ 64) × (length (declared_conditions d) ≤ 512) × HasManyQueries d × (limit ≡ 4))
    ⊎ ((length d.systems ≤ 256) × (length d.sets ≤ 64) × (length (declared_conditions d) ≤ 512) × HasFewQueries d × HasManySpawns d × (limit ≡ 5)))))

-- ---- which one is told

-- names can be looked up, and no two items have one
pub record IsNamed (d : Declared) : Type 0 where
  pub known : KnowsNames d
  pub distinct : HasDistinctNames d

-- sets hold one another in no circle
pub record IsNested (d : Declared) : Type 0 where
  pub named : IsNamed d
  pub no_self : HasNoSelf (hierarchy_of d)
  pub no_cycle : HasNoSetCycle (hierarchy_of d)

-- orders are of two items, neither in the other, and share no system
pub record IsApart (d : Declared) : Type 0 where
  pub nested : IsNested d
  pub no_loop : HasNoLoop (declared_orders d)
  pub no_crossing : HasNoCrossing (hierarchy_of d) (declared_orders d)
  pub apart : AreApart (hierarchy_of d) (declared_orders d)

-- orders lead back nowhere
pub record IsOrdered (d : Declared) : Type 0 where
  pub apart : IsApart d
  pub no_cycle : HasNoCycle (hierarchy_of d) (declared_orders d)

-- nothing is at fault
pub record IsBuildable (d : Declared) : Type 0 where
  pub ordered : IsOrdered d
  pub no_self_conflict : HasNoSelfConflict d
  pub good_queries : HasGoodQueries d
  pub good_conditions : HasGoodConditions d
  pub reading : AreReading d
  pub within : IsWithinLimits d

-- the refusal holds, and none that is looked for before it
abbrev pub IsRefused : Declared → Refusal → Type 0
IsRefused d (UnknownName name) = IsUnknownName d name
IsRefused d (DuplicateName name) = KnowsNames d × IsDuplicateName d name
IsRefused d (HierarchyLoop name) = IsNamed d × IsHierarchyLoop d name
IsRefused d (HierarchyCycle told) = IsNamed d × HasNoSelf (hierarchy_of d) × IsHierarchyCycle d told
IsRefused d (DependencyLoop name) = IsNested d × IsDependencyLoop d name
IsRefused d (CrossDependency item holder) = IsNested d × HasNoLoop (declared_orders d) × IsCrossDependency d item holder
IsRefused d (SetsIntersect first second system) =
    IsNested d × HasNoLoop (declared_orders d) × HasNoCrossing (hierarchy_of d) (declared_orders d) × IsSetsIntersect d first second system
IsRefused d (DependencyCycle told) = IsApart d × IsDependencyCycle d told
IsRefused d (SelfConflict name) = IsOrdered d × IsSelfConflict d name
IsRefused d (BadQuery owner number fault) = IsOrdered d × HasNoSelfConflict d × IsBadQuery d owner number fault
IsRefused d (BadConditionQuery c number fault) = IsOrdered d × HasNoSelfConflict d × HasGoodQueries d × IsBadCondition d c number fault
IsRefused d (ConditionWrites c) = IsOrdered d × HasNoSelfConflict d × HasGoodQueries d × HasGoodConditions d × IsConditionWrites d c
IsRefused d (OverLimit limit) = IsOrdered d × HasNoSelfConflict d × HasGoodQueries d × HasGoodConditions d × AreReading d × IsOverLimit d limit
