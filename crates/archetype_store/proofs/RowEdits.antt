-- Insertions, removals and writes of a kind that a row has or hasn't, and the kinds of rows.
use Rattle.archetype_store.proofs.Common.{◌≡◌, ℕ, ◌<◌, Bool, true, false, cond, ◌==◌, ◌||◌, List, [], ◌∷◌, map, Option, Some, None, is_some, refl, ap, ◌∙◌, AllByRecursion, has, Cell, Component, cell_at, IsRising, remove_component, StampedValue, stamped_number, AreBelow, component_of}
use Rattle.column_store.proofs.TheirComponents.{not_same}

-- ---- a kind that isn't there

-- it isn't removed
pub absent-removed : (k : ℕ) (row : List Component) → cell_at row k ≡ None → remove_component k row ≡ row
absent-removed k [] h = refl
absent-removed k (c ∷ cs) h = go (c.kind == k) h (absent-removed k cs)
  where
    go : (b : Bool) → cond b (Some c.cell) (cell_at cs k) ≡ None → (cell_at cs k ≡ None → remove_component k cs ≡ cs) → cond b cs (c ∷ remove_component k cs) ≡ c ∷ cs
    go true e more = absurd (cc)
    go false e more = ap (λ rest. c ∷ rest) (more e)

-- above a kind it isn't
pub above_absent : (k : ℕ) (row : List Component) → AllByRecursion (λ c. k < c.kind) row → cell_at row k ≡ None
above_absent k [] h = refl
above_absent k (c ∷ cs) h = ap (λ b. cond b (Some c.cell) (cell_at cs k)) (not_same c.kind k h.0) ∙ above_absent k cs h.1

-- ---- kinds

some_step : (b r : Bool) (c : Cell) (o : Option Cell) → r ≡ is_some o → (b || r) ≡ is_some (cond b (Some c) o)
some_step true r c o h = refl
some_step false r c o h = h

-- a row has the kinds that are among its kinds
pub kinds-among : (row : List Component) (k : ℕ) → has k (map (λ (c : Component). c.kind) row) ≡ is_some (cell_at row k)
kinds-among [] k = refl
kinds-among (c ∷ cs) k = some_step (c.kind == k) _ c.cell _ (kinds-among cs k)

pub kinds-components : (ss : List StampedValue) → map (λ (c : Component). c.kind) (map component_of ss) ≡ map stamped_number ss
kinds-components [] = refl
kinds-components (s ∷ ss) = ap (λ ks. stamped_number s ∷ ks) (kinds-components ss)

above_kinds : (n : ℕ) (row : List Component) → AllByRecursion (λ c. n < c.kind) row → AllByRecursion (λ m. n < m) (map (λ (c : Component). c.kind) row)
above_kinds n [] h = tt
above_kinds n (c ∷ cs) h = (h.0, above_kinds n cs h.1)

kinds_above : (n : ℕ) (row : List Component) → AllByRecursion (λ m. n < m) (map (λ (c : Component). c.kind) row) → AllByRecursion (λ c. n < c.kind) row
kinds_above n [] h = tt
kinds_above n (c ∷ cs) h = (h.0, kinds_above n cs h.1)

-- the kinds of a row rise where it rises
pub below_from_rising : (row : List Component) → IsRising row → AreBelow (map (λ (c : Component). c.kind) row)
below_from_rising [] h = tt
below_from_rising (c ∷ cs) h = (above_kinds c.kind cs h.0, below_from_rising cs h.1)

pub rising_from_below : (row : List Component) → AreBelow (map (λ (c : Component). c.kind) row) → IsRising row
rising_from_below [] h = tt
rising_from_below (c ∷ cs) h = (kinds_above c.kind cs h.0, rising_from_below cs h.1)
