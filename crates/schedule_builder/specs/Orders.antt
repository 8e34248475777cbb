-- Names looked up, and what is declared by the numbers of items.
use Rattle.std.specs.Prelude.{ℕ, ◌<◌, ◌≡◌, ◌⊎◌, List, [], ◌∷◌, Option, Some, None, length, string_bytes}
use Rattle.std.specs.List.{All}
use Rattle.std.specs.BTreeMap.{BTreeMap, get_by_text}
use Rattle.std.specs.declared.alloc.Global.{Global}
use Rattle.std.specs.declared.string.String.{String}
use Rattle.model.specs.declarations.Walks.{IsFirstBad}
use Rattle.model.specs.declarations.Declarations.{Declared, items_of, name_of, hierarchy_of, declared_orders, plain_orders, declared_silences}
use Rattle.model.specs.Lists.{IsIn}
use Rattle.model.specs.declarations.Hierarchy.{IsHeld}
use Rattle.model.specs.declarations.Edges.{HasNoLoop, IsLoop}
use Rattle.model.specs.declarations.Refusals.{IsKnown}
use Rattle.cycle_search.specs.declared.order.Order.{Order}
use Rattle.cycle_search.specs.Orders.{IsBetween}
use Rattle.system_set.specs.Pairs.{pairs_of}
use Rattle.schedule_builder.specs.declared.fault.BuildFault.{BuildFault}
use Rattle.schedule_builder.specs.declared.fault.BuildFault.TheVariants.{UnknownName, Memory}

-- numbers of items by their names
abbrev pub Places : Type 0
Places = BTreeMap (String Global) ℕ

-- the least of the first n items with a name, or none of them
abbrev pub IsPlaceAmong : Declared → ℕ → List ℕ → Option ℕ → Type 0
IsPlaceAmong d n name (Some place) = (place < n) × (name_of d place ≡ name) × ((m : ℕ) → m < place → name_of d m ≡ name → ⊥)
IsPlaceAmong d n name None = (m : ℕ) → m < n → name_of d m ≡ name → ⊥

-- the table tells the least of the first n items with a name
abbrev pub TellsPlacesAmong : Declared → ℕ → Places → Type 0
TellsPlacesAmong d n places = (name : List ℕ) → IsPlaceAmong d n name (get_by_text places name)

-- the table tells the least item with a name
pub record TellsPlaces (d : Declared) (places : Places) : Type 0 where
  pub tells : TellsPlacesAmong d (length (items_of d)) places

-- the fault tells the first name looked up that is not known
pub record TellsLacking (d : Declared) (looked : List (ℕ × List ℕ)) (fault : BuildFault) : Type 0 where
  pub name : String Global
  pub told : fault ≡ UnknownName name
  pub bound : ℕ
  pub first : IsFirstBad (IsKnown d) (λ x. IsKnown d x → ⊥) looked (bound, string_bytes name)

-- the same, or a failed allocation
abbrev pub IsLacking : Declared → List (ℕ × List ℕ) → BuildFault → Type 0
IsLacking d looked fault = (fault ≡ Memory) ⊎ TellsLacking d looked fault

-- a number with one before it, where it is there
abbrev pub link : Option ℕ → ℕ → List (ℕ × ℕ)
link None second = []
link (Some first) second = (first, second) ∷ []

-- the pairs and the orders are the declared ones
pub record AreDeclared (d : Declared) (inside orders plain silences : List Order) : Type 0 where
  pub held : pairs_of inside ≡ (hierarchy_of d).inside
  pub ordered : pairs_of orders ≡ declared_orders d
  pub plainly : pairs_of plain ≡ plain_orders d
  pub silenced : pairs_of silences ≡ declared_silences d

-- the item of the first order of an item with itself, or that there is none
abbrev pub TellsLoop : List (ℕ × ℕ) → Option ℕ → Type 0
TellsLoop orders None = HasNoLoop orders
TellsLoop orders (Some n) = IsLoop orders n

-- the orders are the declared ones
pub record AreOrders (d : Declared) (orders : List Order) : Type 0 where
  pub ordered : pairs_of orders ≡ declared_orders d
  pub between : All (IsBetween (length (items_of d))) orders

-- items are in sets, and orders are of items
pub record IsWhole (d : Declared) : Type 0 where
  pub held : (item holder : ℕ) → IsHeld (hierarchy_of d) item holder → (item < length (items_of d)) × (holder < length d.sets)
  pub ordered : (m n : ℕ) → IsIn (m, n) (declared_orders d) → (m < length (items_of d)) × (n < length (items_of d))
  pub plainly : (m n : ℕ) → IsIn (m, n) (plain_orders d) → (m < length (items_of d)) × (n < length (items_of d))
  pub silenced : (m n : ℕ) → IsIn (m, n) (declared_silences d) → (m < length (items_of d)) × (n < length (items_of d))
