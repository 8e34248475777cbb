-- A query of a view as it is opened: nothing is written.
use Rattle.std.proofs.Common.{◌≡◌, ℕ, ◌<◌, Bool, true, false, cond, ◌==◌, ℤ, List, [], ◌∷◌, map, Option, Some, None, refl, ap₂, arith}
use Rattle.std.proofs.lemmas.Bool.{ne_eqb}
use Rattle.model.specs.state.State.{Cell}
use Rattle.model.specs.access.Query.{Term, written}
use Rattle.model.specs.shown.Outcome.{untouched_rows}
use Rattle.query_plan.specs.declared.row.Row.{Row}
use Rattle.event_buffers.proofs.ListsOfEvents.{choose}
use Rattle.body.specs.Columns.{Column, cell_in, AreFresh}
use Rattle.body.specs.Sheet.{slot_in, slot_cell, seen_at, words_at, words_for, without_kind, written_in, row_of, written_of}

-- no cell was changed at the tick yet
nothing-at : (tick : ℕ) (columns : List Column) (slot : Option ℕ) (place : ℕ) → AreFresh tick columns → words_at tick (slot_cell slot columns place) ≡ None
nothing-at tick columns None place fresh = refl
nothing-at tick columns (Some j) place fresh = at (cell_in columns j place) (λ c e. fresh j place c e)
  where
    at : (o : Option Cell) → ((c : Cell) → o ≡ Some c → c.changed < tick) → words_at tick o ≡ None
    at None h = refl
    at (Some c) h = let l = h c refl in choose (c.changed == tick) false (Some c.words) None (ne_eqb c.changed tick (omega arith))

nothing-for : (kind_of : Option ℕ) (f : ℕ → Option (List ℤ)) → ((m : ℕ) → f m ≡ None) → words_for kind_of f ≡ None
nothing-for None f h = refl
nothing-for (Some m) f h = h m

nothing-without : (o : Option ℕ) (f : ℕ → Option (List ℤ)) → ((m : ℕ) → f m ≡ None) → (m : ℕ) → without_kind o f m ≡ None
nothing-without None f h m = h m
nothing-without (Some k) f h m = at (m == k)
  where
    at : (b : Bool) → cond b None (f m) ≡ None
    at true = refl
    at false = h m

row-untouched : (terms : List Term) (f : ℕ → Option (List ℤ)) → ((m : ℕ) → f m ≡ None) → written_in f terms ≡ map (λ t. None) terms
row-untouched [] f h = refl
row-untouched (t ∷ ts) f h = ap₂ ◌∷◌ (nothing-for (written t) f h) (row-untouched ts (without_kind (written t) f) (nothing-without (written t) f h))

pub untouched-of : (tick : ℕ) (terms : List Term) (slots : List (List (Option ℕ))) (rows : List Row) (columns taken : List Column) → AreFresh tick columns →
    map (written_of tick slots columns terms) rows ≡ untouched_rows terms (map (row_of slots taken terms) rows)
untouched-of tick terms slots [] columns taken fresh = refl
untouched-of tick terms slots (row ∷ rows) columns taken fresh =
    ap₂ ◌∷◌ (row-untouched terms (λ m. words_at tick (seen_at slots columns row m)) (λ m. nothing-at tick columns (slot_in slots row.archetype m) row.place fresh)) (untouched-of tick terms slots rows columns taken fresh)
