-- The columns of a query by archetype and kind.
use Rattle.std.specs.Prelude.{ℕ, ◌<◌, ◌≡◌, true, cond, List, length, slice_get, slice_set, Option, Some, IsSome}
use Rattle.std.specs.List.{AllByRecursion}
use Rattle.kinds.specs.Kind.{kind_count}
use Rattle.model.specs.Lists.{update_at}
use Rattle.model.specs.access.Query.{Term}
use Rattle.body.specs.Columns.{Column}
use Rattle.body.specs.Seen.{fetches}
use Rattle.body.specs.Sheet.{slot_in}

-- slots with the column of a kind of an archetype
abbrev pub with_slot : ℕ → ℕ → ℕ → List (List (Option ℕ)) → List (List (Option ℕ))
with_slot archetype kind j slots = update_at archetype (λ columns. slice_set columns kind (Some j)) slots

-- slots with a column, if its kind is fetched
abbrev pub is_slot_kind : List Term → Column → ℕ → List (List (Option ℕ)) → List (List (Option ℕ))
is_slot_kind terms column j slots = cond (fetches terms column.kind) (with_slot column.archetype column.kind j slots) slots

-- a slot names one of the columns, of its archetype and kind, which is fetched
pub record IsSlotOf (terms : List Term) (columns : List Column) (number kind j : ℕ) : Type 0 where
  pub column : Column
  pub there : slice_get columns j ≡ Some column
  pub archetype_is : column.archetype ≡ number
  pub kind_is : column.kind ≡ kind
  pub fetched_is : fetches terms kind ≡ true

-- the slots of columns below a number: a table for each archetype, each slot names a column, and each column that is fetched has its slot
pub record AreSlotsBelow (terms : List Term) (archetypes : ℕ) (columns : List Column) (many : ℕ) (slots : List (List (Option ℕ))) : Type 0 where
  pub count : length slots ≡ archetypes
  pub wide : AllByRecursion (λ row. length row ≡ kind_count) slots
  pub named : (archetype kind j : ℕ) → slot_in slots archetype kind ≡ Some j → IsSlotOf terms columns archetype kind j
  pub found : (j : ℕ) (column : Column) → j < many → slice_get columns j ≡ Some column → fetches terms column.kind ≡ true → IsSome (slot_in slots column.archetype column.kind)

abbrev pub AreSlotsOf : List Term → ℕ → List Column → List (List (Option ℕ)) → Type 0
AreSlotsOf terms archetypes columns slots = AreSlotsBelow terms archetypes columns (length columns) slots
