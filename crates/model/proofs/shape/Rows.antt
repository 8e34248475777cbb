-- Rows keep their shape: strictly rising kinds, and components of their kinds' widths with no stamp above the clock.
use Rattle.std.proofs.Common.{◌≡◌, ◌≢◌, ℕ, ◌<◌, ◌≤◌, ℤ, Bool, true, false, cond, refl, sym, ap, ◌∙◌, List, [], ◌∷◌, length, Option, Some, None, arith, ◌==◌, nat_lt, eqb-true, ltb-true, ltb-false}
use Rattle.std.proofs.lemmas.Bool.{eqb-false}
use Rattle.std.specs.List.{AllByRecursion}
use Rattle.model.specs.state.State.{Component}
use Rattle.model.specs.state.Rows.{IsRising, new_component, changed_component, insert_component, remove_component}
use Rattle.model.specs.shown.Overlay.{cell_after, component_after, row_after}
use Rattle.model.specs.state.Shape.{IsComponent}
use Rattle.model.proofs.lists.Each.{each-weaker, each-map}

-- ---- insertion and removal

-- what is true of each component is true after an insertion where it is so of what is put there
pub each-insert : (P : Component → Type 0) (tick kind : ℕ) (words : List ℤ) (row : List Component) → P (new_component tick kind words)
    → ((c : Component) → c.kind ≡ kind → P c → P (changed_component tick words c)) → AllByRecursion P row → AllByRecursion P (insert_component tick kind words row)
each-insert P tick kind words [] new changed h = (new, tt)
each-insert P tick kind words (c ∷ cs) new changed h = go (c.kind == kind) refl (nat_lt kind c.kind) (each-insert P tick kind words cs new changed h.1)
  where
    go : (b : Bool) → (c.kind == kind) ≡ b → (d : Bool) → AllByRecursion P (insert_component tick kind words cs)
        → AllByRecursion P (cond b (changed_component tick words c ∷ cs) (cond d (new_component tick kind words ∷ c ∷ cs) (c ∷ insert_component tick kind words cs)))
    go true e d rest = (changed c (eqb-true c.kind kind e) h.0, h.1)
    go false e true rest = (new, (h.0, h.1))
    go false e false rest = (h.0, rest)

-- what is true of each component is true after a removal
pub each-remove : (P : Component → Type 0) (kind : ℕ) (row : List Component) → AllByRecursion P row → AllByRecursion P (remove_component kind row)
each-remove P kind [] h = tt
each-remove P kind (c ∷ cs) h = go (c.kind == kind) (each-remove P kind cs h.1)
  where
    go : (b : Bool) → AllByRecursion P (remove_component kind cs) → AllByRecursion P (cond b cs (c ∷ remove_component kind cs))
    go true rest = h.1
    go false rest = (h.0, rest)

-- kinds above a kind are above a smaller one
pub above-lower : (j k : ℕ) → j < k → (row : List Component) → AllByRecursion (λ c. k < c.kind) row → AllByRecursion (λ c. j < c.kind) row
above-lower j k below row h = each-weaker (λ c. k < c.kind) (λ c. j < c.kind) (λ c above. omega arith) row h

-- an insertion keeps kinds rising
pub rising-insert : (tick kind : ℕ) (words : List ℤ) (row : List Component) → IsRising row → IsRising (insert_component tick kind words row)
rising-insert tick kind words [] h = (tt, tt)
rising-insert tick kind words (c ∷ cs) h = go (c.kind == kind) refl (nat_lt kind c.kind) refl (rising-insert tick kind words cs h.1)
  where
    go : (b : Bool) → (c.kind == kind) ≡ b → (d : Bool) → nat_lt kind c.kind ≡ d → IsRising (insert_component tick kind words cs)
        → IsRising (cond b (changed_component tick words c ∷ cs) (cond d (new_component tick kind words ∷ c ∷ cs) (c ∷ insert_component tick kind words cs)))
    go true e d f rest = h
    go false e true f rest = ((ltb-true kind c.kind f, above-lower kind c.kind (ltb-true kind c.kind f) cs h.0), h)
    go false e false f rest = let differ : c.kind ≢ kind = eqb-false c.kind kind e in
        (each-insert (λ d. c.kind < d.kind) tick kind words cs (omega (arith, ltb-false kind c.kind f)) (λ d same above. above) h.0, rest)

-- a removal keeps kinds rising
pub rising-remove : (kind : ℕ) (row : List Component) → IsRising row → IsRising (remove_component kind row)
rising-remove kind [] h = tt
rising-remove kind (c ∷ cs) h = go (c.kind == kind) (rising-remove kind cs h.1)
  where
    go : (b : Bool) → IsRising (remove_component kind cs) → IsRising (cond b cs (c ∷ remove_component kind cs))
    go true rest = h.1
    go false rest = (each-remove (λ d. c.kind < d.kind) kind cs h.0, rest)

-- writes keep kinds rising
pub rising-row_after : (tick : ℕ) (words : ℕ → Option (List ℤ)) (row : List Component) → IsRising row → IsRising (row_after tick words row)
rising-row_after tick words [] h = tt
rising-row_after tick words (c ∷ cs) h =
    (each-map (λ d. c.kind < d.kind) (λ d. c.kind < d.kind) (component_after tick words) (λ d above. above) cs h.0, rising-row_after tick words cs h.1)

-- ---- components

-- a component at a later clock
pub component-later : (widths : ℕ → ℕ) (clock later : ℕ) → clock ≤ later → (c : Component) → IsComponent widths clock c → IsComponent widths later c
component-later widths clock later le c h = let a = h.added in let b = h.changed in
    record { width = h.width; added = omega (arith, a); changed = omega (arith, b) }

-- a new component
pub component-new : (widths : ℕ → ℕ) (clock tick kind : ℕ) (words : List ℤ) → tick ≤ clock → length words ≡ widths kind → IsComponent widths clock (new_component tick kind words)
component-new widths clock tick kind words le w = record { width = w; added = le; changed = le }

-- a component with another value
pub component-changed : (widths : ℕ → ℕ) (clock tick kind : ℕ) (words : List ℤ) → tick ≤ clock → length words ≡ widths kind → (c : Component) → c.kind ≡ kind
    → IsComponent widths clock c → IsComponent widths clock (changed_component tick words c)
component-changed widths clock tick kind words le w c same h = record { width = w ∙ ap widths (sym same); added = h.added; changed = le }

-- a component after a write
pub component-after : (widths : ℕ → ℕ) (clock tick : ℕ) (words : ℕ → Option (List ℤ)) → tick ≤ clock
    → ((kind : ℕ) (v : List ℤ) → words kind ≡ Some v → length v ≡ widths kind)
    → (c : Component) → IsComponent widths clock c → IsComponent widths clock (component_after tick words c)
component-after widths clock tick words le width c h = go (words c.kind) refl
  where
    go : (o : Option (List ℤ)) → words c.kind ≡ o → IsComponent widths clock (record { kind = c.kind; cell = cell_after tick o c.cell })
    go None e = h
    go (Some v) e = record { width = width c.kind v e; added = h.added; changed = le }
