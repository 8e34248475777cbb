-- Rows: the components of one entity, a list in strictly rising kinds. What a row holds, insertion and removal.
use Rattle.std.specs.Prelude.{ℕ, ◌<◌, ℤ, Bool, cond, nat_lt, ◌==◌, List, [], ◌∷◌, get_or, Option, Some, None, is_some}
use Rattle.std.specs.List.{AllByRecursion}
use Rattle.model.specs.state.State.{Cell, Component, Slot, fresh_slot}

-- the row of the entity at an index
abbrev pub row_at : List Slot → ℕ → List Component
row_at slots index = (get_or slots index fresh_slot).row

-- the cell of a kind in a row
abbrev pub cell_at : List Component → ℕ → Option Cell
cell_at [] kind = None
cell_at (c ∷ cs) kind = cond (c.kind == kind) (Some c.cell) (cell_at cs kind)

-- the kinds that a row holds
abbrev pub kinds_of : List Component → ℕ → Bool
kinds_of row kind = is_some (cell_at row kind)

-- a row in strictly rising kinds
abbrev pub IsRising : List Component → Type 0
IsRising [] = Unit {0}
IsRising (c ∷ cs) = AllByRecursion (λ d. c.kind < d.kind) cs × IsRising cs

-- a new component: both stamps are the tick
abbrev pub new_component : ℕ → ℕ → List ℤ → Component
new_component tick kind words = record { kind = kind; cell = record { words = words; added = tick; changed = tick } }

-- a component with another value: its added stamp stays
abbrev pub changed_component : ℕ → List ℤ → Component → Component
changed_component tick words c = record { kind = c.kind; cell = record { words = words; added = c.cell.added; changed = tick } }

-- a row with a component inserted: one that is there is changed, a new one stands in its place
abbrev pub insert_component : ℕ → ℕ → List ℤ → List Component → List Component
insert_component tick kind words [] = new_component tick kind words ∷ []
insert_component tick kind words (c ∷ cs) = cond (c.kind == kind)
    (changed_component tick words c ∷ cs)
    (cond (nat_lt kind c.kind) (new_component tick kind words ∷ c ∷ cs) (c ∷ insert_component tick kind words cs))

-- a row without the component of a kind
abbrev pub remove_component : ℕ → List Component → List Component
remove_component kind [] = []
remove_component kind (c ∷ cs) = cond (c.kind == kind) cs (c ∷ remove_component kind cs)
