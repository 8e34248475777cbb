-- What a program declares of a schedule: sets, systems and chains by name, what is in which sets, the orders among them, on which
-- conditions they run, and what its systems touch.
use Rattle.std.specs.Prelude.{ℕ, suc, ◌<◌, ◌≡◌, Bool, if◌then◌else◌, List, [], ◌∷◌, ◌++◌, length, map, flat_map, get_or}
use Rattle.std.specs.Str.{bytes_eq}
use Rattle.model.specs.access.Access.{Params, no_params}
use Rattle.model.specs.access.Condition.{Condition}
use Rattle.model.specs.access.Condition.Condition.{RunOnce}
use Rattle.model.specs.declarations.Hierarchy.{Hierarchy}

-- a set or a system: its name, by its bytes, the names of the sets that it is in, of the items that it runs before and after, of those
-- that it runs before and after whatever commands are deferred, and of those with which it may be ambiguous; and the conditions on
-- which it runs
pub record DeclaredItem : Type 0 where
  pub name : List ℕ
  pub inside : List (List ℕ)
  pub before : List (List ℕ)
  pub after : List (List ℕ)
  pub before_ignore_deferred : List (List ℕ)
  pub after_ignore_deferred : List (List ℕ)
  pub ambiguous_with : List (List ℕ)
  pub conditions : List Condition

-- an item with this name and nothing else
abbrev pub plain_item : List ℕ → DeclaredItem
plain_item name = record {
  name = name;
  inside = [];
  before = [];
  after = [];
  before_ignore_deferred = [];
  after_ignore_deferred = [];
  ambiguous_with = [];
  conditions = [];
}

-- a system: an item with parameters
pub record DeclaredSystem : Type 0 where
  pub item : DeclaredItem
  pub params : Params

-- a chain: the names of items, each of which runs before the next, and whether these orders ignore deferred commands
pub record DeclaredChain : Type 0 where
  pub items : List (List ℕ)
  pub ignores_deferred : Bool

-- the sets, the systems and the chains, each in declared order
pub record Declared : Type 0 where
  pub sets : List DeclaredItem
  pub systems : List DeclaredSystem
  pub chains : List DeclaredChain

-- the items: sets come before systems
abbrev pub items_of : Declared → List DeclaredItem
items_of d = d.sets ++ map (λ (s : DeclaredSystem). s.item) d.systems

-- the item of a number
abbrev pub item_at : Declared → ℕ → DeclaredItem
item_at d n = get_or (items_of d) n (plain_item [])

-- the name of an item
abbrev pub name_of : Declared → ℕ → List ℕ
name_of d n = (item_at d n).name

-- the system of a number among the systems
abbrev pub declared_at : Declared → ℕ → DeclaredSystem
declared_at d n = get_or d.systems n (record { item = plain_item []; params = no_params })

-- the name of a system
abbrev pub system_name : Declared → ℕ → List ℕ
system_name d n = (declared_at d n).item.name

-- ---- names

-- the number of the first item of a name; where there is none, how many items there are
abbrev pub first_named : List DeclaredItem → List ℕ → ℕ
first_named [] name = 0
first_named (i ∷ items) name = if bytes_eq i.name name then 0 else suc (first_named items name)

abbrev pub number_of : Declared → List ℕ → ℕ
number_of d name = first_named (items_of d) name

-- one of the first so many items has the name
abbrev pub IsNamedBelow : Declared → ℕ → List ℕ → Type 0
IsNamedBelow d bound name = (n : ℕ) × (n < bound) × (name_of d n ≡ name)

-- names, each with how many of the first items it may name
abbrev pub bounded : ℕ → List (List ℕ) → List (ℕ × List ℕ)
bounded bound names = map (λ name. (bound, name)) names

-- the names that an item's texts look up, in order, each with how many of the first items it may name: the sets alone, or all items
abbrev pub names_in : ℕ → ℕ → DeclaredItem → List (ℕ × List ℕ)
names_in sets items i = bounded sets i.inside ++ (bounded items i.before ++ (bounded items i.after
    ++ (bounded items i.before_ignore_deferred ++ (bounded items i.after_ignore_deferred ++ bounded items i.ambiguous_with))))

-- the names that a chain looks up
abbrev pub names_along : ℕ → DeclaredChain → List (ℕ × List ℕ)
names_along items c = bounded items c.items

-- the names that are looked up, in order: those of each item, then those of each chain
abbrev pub looked_up : Declared → List (ℕ × List ℕ)
looked_up d = flat_map (names_in (length d.sets) (length (items_of d))) (items_of d) ++ flat_map (names_along (length (items_of d))) d.chains

-- ---- sets and orders, by number

-- an item and each set that it is declared to be in
abbrev pub holders_in : Declared → ℕ → DeclaredItem → List (ℕ × ℕ)
holders_in d n i = map (λ name. (n, number_of d name)) i.inside

-- the orders of an item before others and after others, each as the item that comes first and the item that comes second
abbrev pub orders_before : Declared → ℕ → List (List ℕ) → List (ℕ × ℕ)
orders_before d n names = map (λ later. (n, number_of d later)) names

abbrev pub orders_after : Declared → ℕ → List (List ℕ) → List (ℕ × ℕ)
orders_after d n names = map (λ earlier. (number_of d earlier, n)) names

-- the orders that an item declares, and of these the plain ones, which don't ignore deferred commands
abbrev pub orders_in : Declared → ℕ → DeclaredItem → List (ℕ × ℕ)
orders_in d n i = (orders_before d n i.before ++ orders_after d n i.after) ++ (orders_before d n i.before_ignore_deferred ++ orders_after d n i.after_ignore_deferred)

abbrev pub plain_orders_in : Declared → ℕ → DeclaredItem → List (ℕ × ℕ)
plain_orders_in d n i = orders_before d n i.before ++ orders_after d n i.after

-- each number with the next
abbrev pub neighbours : List ℕ → List (ℕ × ℕ)
neighbours [] = []
neighbours (m ∷ []) = []
neighbours (m ∷ n ∷ ns) = (m, n) ∷ neighbours (n ∷ ns)

-- the orders of a chain, and of these the plain ones
abbrev pub orders_along : Declared → DeclaredChain → List (ℕ × ℕ)
orders_along d c = neighbours (map (number_of d) c.items)

abbrev pub plain_orders_along : Declared → DeclaredChain → List (ℕ × ℕ)
plain_orders_along d c = if c.ignores_deferred then [] else orders_along d c

-- the pairs with which an item may be ambiguous
abbrev pub silences_in : Declared → ℕ → DeclaredItem → List (ℕ × ℕ)
silences_in d n i = orders_before d n i.ambiguous_with

-- the conditions of an item, each with the item
abbrev pub conditions_in : ℕ → DeclaredItem → List (ℕ × Condition)
conditions_in n i = map (λ c. (n, c)) i.conditions

-- the lists of all items, one after the other
abbrev pub from_each : {A : Type 0} → (ℕ → DeclaredItem → List A) → ℕ → List DeclaredItem → List A
from_each f n [] = []
from_each f n (i ∷ items) = f n i ++ from_each f (suc n) items

-- which items are in which sets
abbrev pub hierarchy_of : Declared → Hierarchy
hierarchy_of d = record { sets = length d.sets; items = length (items_of d); inside = from_each (holders_in d) 0 (items_of d) }

-- the declared orders, in order: those of items, then those of chains
abbrev pub declared_orders : Declared → List (ℕ × ℕ)
declared_orders d = from_each (orders_in d) 0 (items_of d) ++ flat_map (orders_along d) d.chains

-- the plain ones
abbrev pub plain_orders : Declared → List (ℕ × ℕ)
plain_orders d = from_each (plain_orders_in d) 0 (items_of d) ++ flat_map (plain_orders_along d) d.chains

-- the pairs of items that may be ambiguous
abbrev pub declared_silences : Declared → List (ℕ × ℕ)
declared_silences d = from_each (silences_in d) 0 (items_of d)

-- the conditions by number, each with its item: those of sets come before those of systems
abbrev pub declared_conditions : Declared → List (ℕ × Condition)
declared_conditions d = from_each conditions_in 0 (items_of d)

-- the condition of a number, and its item
abbrev pub condition_numbered : Declared → ℕ → Condition
condition_numbered d c = (get_or (declared_conditions d) c (0, RunOnce)).1

abbrev pub conditioned : Declared → ℕ → ℕ
conditioned d c = (get_or (declared_conditions d) c (0, RunOnce)).0
