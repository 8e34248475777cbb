-- The components of a row.
use Rattle.column_store.proofs.Common.{◌≡◌, ℕ, ◌<◌, ◌==◌, Bool, true, false, cond, ℤ, List, [], ◌∷◌, Option, Some, None, option_map, option_and_then, refl, sym, ap, ap₂, subst, ◌∙◌, arith, nat_tests, eqb-true, AllByRecursion, with_at, Cell, Component, IsRising, row_after, cell_after, changed_cell, AreBelow, at_kind, update_kind, components_in, ComponentsRise, CellsAreTheirs, WritesAreTheirs}
use Rattle.model.specs.state.Rows.{cell_at}

pub not_same : (n kind : ℕ) → kind < n → (n == kind) ≡ false
not_same n kind h = grind (arith, nat_tests)

-- the kinds after one are after what is equal to it
same_below : (kind k : ℕ) (ks : List ℕ) → (k == kind) ≡ true → AllByRecursion (λ n. k < n) ks → AllByRecursion (λ n. kind < n) ks
same_below kind k ks e h = subst (λ m. AllByRecursion (λ n. m < n) ks) (eqb-true k kind e) h

-- ---- rising kinds

above : (k : ℕ) (ks : List ℕ) (cells : List (Option Cell)) → AllByRecursion (λ n. k < n) ks → AllByRecursion (λ (d : Component). k < d.kind) (components_in ks cells)
above k [] cells h = tt
above k (n ∷ ks) [] h = tt
above k (n ∷ ks) (None ∷ cells) h = above k ks cells h.1
above k (n ∷ ks) (Some c ∷ cells) h = (h.0, above k ks cells h.1)

rise : (ks : List ℕ) (cells : List (Option Cell)) → AreBelow ks → IsRising (components_in ks cells)
rise [] cells h = tt
rise (k ∷ ks) [] h = tt
rise (k ∷ ks) (None ∷ cells) h = rise ks cells h.1
rise (k ∷ ks) (Some c ∷ cells) h = (above k ks cells h.0, rise ks cells h.1)

pub components_rise : ComponentsRise
components_rise kinds row h = rise kinds row.cells h

-- ---- the cell of a kind

some_step : (b : Bool) (c : Cell) (o : Option Cell) (a : Option (Option Cell)) → o ≡ option_and_then (λ x. x) a → cond b (Some c) o ≡ option_and_then (λ x. x) (cond b (Some (Some c)) a)
some_step true c o a h = refl
some_step false c o a h = h

none_step : (b : Bool) (o : Option Cell) (a : Option (Option Cell)) → (b ≡ true → o ≡ None) → o ≡ option_and_then (λ x. x) a → o ≡ option_and_then (λ x. x) (cond b (Some None) a)
none_step true o a f h = f refl
none_step false o a f h = h

absent : (kind : ℕ) (ks : List ℕ) (cells : List (Option Cell)) → AllByRecursion (λ n. kind < n) ks → cell_at (components_in ks cells) kind ≡ None
absent kind [] cells h = refl
absent kind (n ∷ ks) [] h = refl
absent kind (n ∷ ks) (None ∷ cells) h = absent kind ks cells h.1
absent kind (n ∷ ks) (Some c ∷ cells) h =
    ap (λ b. cond b (Some c) (cell_at (components_in ks cells) kind)) (not_same n kind h.0) ∙ absent kind ks cells h.1

found : (kind : ℕ) (ks : List ℕ) (cells : List (Option Cell)) → AreBelow ks → cell_at (components_in ks cells) kind ≡ option_and_then (λ x. x) (at_kind ks kind cells)
found kind [] cells h = refl
found kind (k ∷ ks) [] h = refl
found kind (k ∷ ks) (Some c ∷ cells) h = some_step (k == kind) c _ (at_kind ks kind cells) (found kind ks cells h.1)
found kind (k ∷ ks) (None ∷ cells) h =
    none_step (k == kind) _ (at_kind ks kind cells) (λ e. absent kind ks cells (same_below kind k ks e h.0)) (found kind ks cells h.1)

pub cells_are_theirs : CellsAreTheirs
cells_are_theirs kinds row kind h = found kind kinds row.cells h

-- ---- a write

none_written : (b : Bool) (k : ℕ) (ks : List ℕ) (cells others : List (Option Cell)) (r : List Component) → (b ≡ true → components_in ks cells ≡ r) → components_in ks others ≡ r →
    components_in (k ∷ ks) (cond b (None ∷ cells) (None ∷ others)) ≡ r
none_written true k ks cells others r f h = f refl
none_written false k ks cells others r f h = h

some_written : (b : Bool) (k : ℕ) (c : Cell) (words : List ℤ) (tick : ℕ) (ks : List ℕ) (cells others : List (Option Cell)) (r : List Component) →
    (b ≡ true → components_in ks cells ≡ r) → components_in ks others ≡ r →
    components_in (k ∷ ks) (cond b (Some (changed_cell words tick c) ∷ cells) (Some c ∷ others)) ≡ record { kind = k; cell = cell_after tick (cond b (Some words) None) c } ∷ r
some_written true k c words tick ks cells others r f h =
    ap (λ rs. (let d : Component = record { kind = k; cell = changed_cell words tick c } in d) ∷ rs) (f refl)
some_written false k c words tick ks cells others r f h = ap (λ rs. (let d : Component = record { kind = k; cell = c } in d) ∷ rs) h

untouched : (kind : ℕ) (words : List ℤ) (tick : ℕ) (ks : List ℕ) (cells : List (Option Cell)) → AllByRecursion (λ n. kind < n) ks →
    components_in ks cells ≡ row_after tick (with_at kind (Some words) (λ _. None)) (components_in ks cells)
untouched kind words tick [] cells h = refl
untouched kind words tick (n ∷ ks) [] h = refl
untouched kind words tick (n ∷ ks) (None ∷ cells) h = untouched kind words tick ks cells h.1
untouched kind words tick (n ∷ ks) (Some c ∷ cells) h = ap₂ ◌∷◌
    (ap (λ b. let d : Component = record { kind = n; cell = cell_after tick (cond b (Some words) None) c } in d) (sym (not_same n kind h.0)))
    (untouched kind words tick ks cells h.1)

written : (kind : ℕ) (words : List ℤ) (tick : ℕ) (ks : List ℕ) (cells : List (Option Cell)) → AreBelow ks →
    components_in ks (update_kind ks kind (option_map (changed_cell words tick)) cells) ≡ row_after tick (with_at kind (Some words) (λ _. None)) (components_in ks cells)
written kind words tick [] cells h = refl
written kind words tick (k ∷ ks) [] h = refl
written kind words tick (k ∷ ks) (None ∷ cells) h =
    none_written (k == kind) k ks cells (update_kind ks kind (option_map (changed_cell words tick)) cells) _
    (λ e. untouched kind words tick ks cells (same_below kind k ks e h.0)) (written kind words tick ks cells h.1)
written kind words tick (k ∷ ks) (Some c ∷ cells) h =
    some_written (k == kind) k c words tick ks cells (update_kind ks kind (option_map (changed_cell words tick)) cells) _
    (λ e. untouched kind words tick ks cells (same_below kind k ks e h.0)) (written kind words tick ks cells h.1)

pub writes_are_theirs : WritesAreTheirs
writes_are_theirs kinds row kind words tick h = written kind words tick kinds row.cells h
