-- Plans of queries that are kept for the next starts: they hold as long as no entity changes.
use Rattle.std.specs.Prelude.{ℕ, suc, ◌≡◌, false, List, [], ◌++◌, length, map, Option}
use Rattle.std.specs.List.{list_any, AllByRecursion}
use Rattle.model.specs.access.Query.{Term, matches, is_filter}
use Rattle.model.specs.shown.Input.{ShownRow, rows_of}
use Rattle.archetype_store.specs.declared.columns.ColumnAt.{ColumnAt}
use Rattle.archetype_store.specs.Layout.{Archetype, IsLayoutOf}
use Rattle.archetype_store.specs.Store.{StoreValue}
use Rattle.query_plan.specs.declared.row.Row.{Row}
use Rattle.query_plan.specs.Picks.{Picked, picks_of}
use Rattle.query_plan.specs.Standing.{IsStanding}
use Rattle.body.specs.Columns.{Column}
use Rattle.body.specs.Picked.{Spot, spot_of, picked_own, picked_read, AreRequestsOf}
use Rattle.body.specs.SlotTable.{AreSlotsOf}

-- what of an archetype stays while no entity changes, whatever column is away; and those of a layout
abbrev pub form_of : Archetype → Archetype
form_of a = record { kinds = a.kinds; entities = a.entities; homes = [] }

abbrev pub forms_of : List Archetype → List Archetype
forms_of layout = map form_of layout

-- where a column is
abbrev pub spot_in : Column → Spot
spot_in c = record { archetype = c.archetype; kind = c.kind }

-- a query whose rows depend on the kinds of entities alone: it compares no stamps
abbrev pub IsStampFree : List Term → Type 0
IsStampFree terms = list_any is_filter terms ≡ false

-- a query that no entity without components is a row of
abbrev pub AsksForKinds : List Term → Type 0
AsksForKinds terms = matches terms (λ kind. false) ≡ false

-- the plan of a query on a store: its picks, the table of its columns, and its rows, of which none depends on a last run or has no components
pub record IsKeptPlan (terms : List Term) (w : StoreValue) (picks : List Picked) (tables : List (List (Option ℕ))) (rows : List Row) : Type 0 where
  pub last : ℕ
  pub columns : List Column
  pub free : IsStampFree terms
  pub kinds : AsksForKinds terms
  pub laid : IsLayoutOf w.state.slots w.layout
  pub rows_are : map (λ (row : Row). row.entity) rows ≡ map (λ (row : ShownRow). row.entity) (rows_of terms last w.state.slots)
  pub standing : AllByRecursion (IsStanding w.state.slots w.layout) rows
  pub picks_are : picks ≡ picks_of terms w.layout
  pub spots_are : map spot_in columns ≡ map spot_of (picked_own picks ++ picked_read picks)
  pub tables_are : AreSlotsOf terms (suc (length w.layout)) columns tables

-- what is kept of it: with the places of its picks
pub record IsKept (terms : List Term) (w : StoreValue) (picks : List Picked) (own read : List ColumnAt) (tables : List (List (Option ℕ))) (rows : List Row) : Type 0 where
  pub plan : IsKeptPlan terms w picks tables rows
  pub requests : AreRequestsOf picks own read

-- a kept plan as contracts see it: its query, and the forms of the layout over which it holds
pub record KeptSeen : Type 0 where
  pub terms : List Term
  pub forms : List Archetype

-- kept plans that hold over these forms
abbrev pub AreOver : List Archetype → List KeptSeen → Type 0
AreOver forms plans = AllByRecursion (λ (plan : KeptSeen). plan.forms ≡ forms) plans
