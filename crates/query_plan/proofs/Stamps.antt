-- The filters of a query read in columns tell which entities pass.
use Rattle.std.proofs.Common.{◌≡◌, ℕ, ◌+◌, ◌<◌, Bool, true, false, cond, ◌&&◌, List, [], ◌∷◌, ◌++◌, length, map, get_or, drop, slice_get, Option, Some, None, option_map, refl, sym, ap, ap₂, ◌∙◌}
use Rattle.std.specs.List.{list_all}
use Rattle.std.proofs.lemmas.List.{length-map, drop_more}
use Rattle.std.proofs.lemmas.Option.{slice_get-map}
use Rattle.model.specs.declared.entities.Entity.{Entity}
use Rattle.model.specs.state.State.{Cell, Component, Slot}
use Rattle.model.specs.state.Rows.{cell_at, row_at}
use Rattle.model.specs.access.Query.{Term}
use Rattle.model.specs.shown.Input.{passes}
use Rattle.model.specs.state.Commands.{is_alive}
use Rattle.model.proofs.lists.Each.{each-append}
use Rattle.archetype_store.specs.Slot.{cell_of, column_cells}
use Rattle.query_plan.specs.declared.filter.Filter.{Filter}
use Rattle.query_plan.specs.Standing.{is_newer}
use Rattle.query_plan.specs.Filters.{IsFilterOf, AreFiltersOf}

some_inside : (o : Option Cell) (p : Option Cell) → option_map (λ c. Some c) o ≡ Some p → o ≡ p
some_inside None p h = absurd (cc)
some_inside (Some c) p h = cc

-- the cell at the place of an entity that lives is that of its row
pub cell_here : (slots : List Slot) (es : List Entity) (k : ℕ) (cells : List Cell) (place : ℕ) (e : Entity) → map (λ cell. Some cell) cells ≡ column_cells slots es k →
    slice_get es place ≡ Some e → is_alive slots e ≡ true → slice_get cells place ≡ cell_at (row_at slots e.index) k
cell_here slots es k cells place e are here alive =
    some_inside (slice_get cells place) (cell_of slots e k)
    (sym (slice_get-map (λ (c : Cell). Some c) cells place) ∙ ap (λ xs. slice_get xs place) are ∙ slice_get-map (λ x. cell_of slots x k) es place ∙ ap (option_map (λ x. cell_of slots x k)) here)
    ∙ ap (λ b. cond b (cell_at (row_at slots e.index) k) None) alive

pub cells_length : (slots : List Slot) (es : List Entity) (k : ℕ) (cells : List Cell) → map (λ cell. Some cell) cells ≡ column_cells slots es k → length cells ≡ length es
cells_length slots es k cells are = sym (length-map cells (λ (c : Cell). Some c)) ∙ ap length are ∙ length-map es (λ x. cell_of slots x k)

-- what a filter's test of a cell is to a row
pub filter_is : (slots : List Slot) (es : List Entity) (k : ℕ) (f : Filter) (t : Term) → map (λ cell. Some cell) f.column.now.cells ≡ column_cells slots es k →
    ((last : ℕ) (row : List Component) → is_newer last f.is_added (cell_at row k) ≡ passes last row t) → IsFilterOf slots es t f
filter_is slots es k f t are same = record {
  same_length = cells_length slots es k f.column.now.cells are;
  passed = λ last place e here alive. ap (is_newer last f.is_added) (cell_here slots es k f.column.now.cells place e are here alive) ∙ same last (row_at slots e.index);
}

-- ---- filters, term by term

and_one : (b : Bool) → (b && true) ≡ b
and_one true = refl
and_one false = refl

all_end : {A : Type 0} (p : A → Bool) (xs : List A) (y : A) → list_all p (xs ++ y ∷ []) ≡ (list_all p xs && p y)
all_end p [] y = and_one (p y)
all_end p (x ∷ xs) y = ap (λ b. p x && b) (all_end p xs y) ∙ and_assoc (p x) (list_all p xs) (p y)
  where
    and_assoc : (a b c : Bool) → (a && (b && c)) ≡ ((a && b) && c)
    and_assoc true b c = refl
    and_assoc false b c = refl

module _ (slots : List Slot) (es : List Entity) (ts : List Term) (fs : List Filter) (t : Term) (so_far : AreFiltersOf slots es ts fs) where
  -- a term that is none
  pub filters_passed : ((last : ℕ) (row : List Component) → passes last row t ≡ true) → AreFiltersOf slots es (ts ++ t ∷ []) fs
  filters_passed free = record {
    same_length = so_far.same_length;
    passed = λ last place e here alive.
        so_far.passed last place e here alive
        ∙ sym (all_end (passes last (row_at slots e.index)) ts t ∙ ap (λ b. list_all (passes last (row_at slots e.index)) ts && b) (free last (row_at slots e.index))
        ∙ and_one (list_all (passes last (row_at slots e.index)) ts));
  }

  -- a filter more
  pub filters_more : (f : Filter) → IsFilterOf slots es t f → AreFiltersOf slots es (ts ++ t ∷ []) (fs ++ f ∷ [])
  filters_more f is = record {
    same_length = each-append (λ g. length g.column.now.cells ≡ length es) fs (f ∷ []) so_far.same_length (is.same_length, tt);
    passed = λ last place e here alive.
        all_end (λ g. is_newer last g.is_added (slice_get g.column.now.cells place)) fs f
        ∙ ap₂ ◌&&◌ (so_far.passed last place e here alive) (is.passed last place e here alive)
        ∙ sym (all_end (passes last (row_at slots e.index)) ts t);
  }

-- ---- a list of tests that is gone through

pub all_drop : {A : Type 0} (p : A → Bool) (xs : List A) (i : ℕ) (d : A) (b : Bool) → i < length xs → p (get_or xs i d) ≡ true → b ≡ list_all p (drop i xs) → b ≡ list_all p (drop (i + 1) xs)
all_drop p xs i d b l pass h = h ∙ ap (list_all p) (drop_more xs i d l) ∙ ap (λ c. c && list_all p (drop (i + 1) xs)) pass

pub all_stops : {A : Type 0} (p : A → Bool) (xs : List A) (i : ℕ) (d : A) (b : Bool) → i < length xs → p (get_or xs i d) ≡ false → b ≡ list_all p (drop i xs) → b ≡ false
all_stops p xs i d b l fail h = h ∙ ap (list_all p) (drop_more xs i d l) ∙ ap (λ c. c && list_all p (drop (i + 1) xs)) fail

-- no terms have no filters
pub no_filters : (slots : List Slot) (es : List Entity) → AreFiltersOf slots es [] []
no_filters slots es = record { same_length = tt; passed = λ last place e here alive. refl }
