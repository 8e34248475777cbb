-- What the steps of one row come to: insertions, removals and writes of a kind.
use Rattle.archetype_store.proofs.Common.{◌≡◌, ◌≢◌, ℕ, ◌<◌, true, List, [], ◌∷◌, length, set, map, Option, Some, None, is_some, refl, sym, ap, subst, ◌∙◌, is_there, Component, Entity, StampedValue, stamped_number, TableValue, EntityLocation, component_of, kinds_at, held_at, row_or_none, IsHeldNow, archetypes_of, place_of, row_in, holder_in, IsHolder, AreArchetypes, HasRow}
use Rattle.archetype_store.proofs.PlacesAfterRowChange.{moved_whole, moved_row, somewhere, kinds_there}
use Rattle.archetype_store.proofs.SingleRowMove.{moved_joined, moved_cleared, moved_written, row_placed}
use Rattle.archetype_store.proofs.RowNumbers.{placed_within}
use Rattle.archetype_store.proofs.RowEdits.{kinds-components}

-- ---- a row that is laid

some_components : (ss : List StampedValue) → ss ≢ [] → is_there (map component_of ss) ≡ true
some_components [] h = absurd (h refl)
some_components (s ∷ ss) h = refl

module _ (T T' : List TableValue) (P : List (Option EntityLocation)) (e : Entity) (table : ℕ) (ss : List StampedValue) where
  pub joined : AreArchetypes T P → e.index < length P → place_of P e.index ≡ None → ss ≢ [] → kinds_at T table ≡ map stamped_number ss → IsHeldNow T T' table e (Some (map component_of ss)) →
      AreArchetypes T' (set P e.index (Some (record { generation = e.generation; table = table })))
      × HasRow (archetypes_of T P) e (map component_of ss) (archetypes_of T' (set P e.index (Some (record { generation = e.generation; table = table }))))
  joined whole within none some kinds put =
      let moved = moved_joined T T' P e table (map component_of ss) whole within none (kinds-components ss ∙ sym kinds) (some_components ss some) put in (
        moved_whole T T' P (set P e.index (Some (record { generation = e.generation; table = table }))) e (Some table) (map component_of ss) whole (subst (λ o. IsHolder e.generation (holder_in o)) (sym none) tt) moved,
        moved_row T T' P (set P e.index (Some (record { generation = e.generation; table = table }))) e (Some table) (map component_of ss) moved,
      )

-- ---- where an entity has a place

module _ (T : List TableValue) (P : List (Option EntityLocation)) (e : Entity) (p : EntityLocation) (h : AreArchetypes T P) (fits : IsHolder e.generation (holder_in (place_of P e.index)))
    (at : place_of P e.index ≡ Some p) where
  -- it is of the generation there
  gen_there : p.generation ≡ e.generation
  gen_there = subst (λ o. IsHolder e.generation (holder_in o)) at fits

  is_held : is_some (held_at T p.table e) ≡ true
  is_held = somewhere T P h e p at gen_there

  -- its row
  pub row_is : row_in T e.index (place_of P e.index) ≡ row_or_none (held_at T p.table e)
  row_is = ap (row_in T e.index) at ∙ row_placed T P e h fits p at gen_there

  kinds_or_none : (o : Option (List Component)) → held_at T p.table e ≡ o → is_some o ≡ true → map (λ (c : Component). c.kind) (row_or_none o) ≡ kinds_at T p.table
  kinds_or_none None k s = absurd (cc)
  kinds_or_none (Some row) k s = kinds_there T P h e p.table row k

  -- the kinds of its row
  kinds_held : map (λ (c : Component). c.kind) (row_or_none (held_at T p.table e)) ≡ kinds_at T p.table
  kinds_held = kinds_or_none (held_at T p.table e) refl is_held

  -- it is taken away
  pub cleared : (T' : List TableValue) → IsHeldNow T T' p.table e None →
      AreArchetypes T' (set P e.index None) × HasRow (archetypes_of T P) e [] (archetypes_of T' (set P e.index None))
  cleared T' now =
      let moved = moved_cleared T T' P e p h at (placed_within P e.index p at) now in
      (moved_whole T T' P (set P e.index None) e None [] h fits moved, moved_row T T' P (set P e.index None) e None [] moved)

  -- all of it is replaced
  pub renewed : (T' : List TableValue) (ss : List StampedValue) → ss ≢ [] → kinds_at T p.table ≡ map stamped_number ss → IsHeldNow T T' p.table e (Some (map component_of ss)) →
      AreArchetypes T' P × HasRow (archetypes_of T P) e (map component_of ss) (archetypes_of T' P)
  renewed T' ss some kinds now =
      let moved = moved_written T T' P e p h at (map component_of ss) gen_there (kinds-components ss ∙ sym kinds) (some_components ss some) now in
      (moved_whole T T' P P e (Some p.table) (map component_of ss) h fits moved, moved_row T T' P P e (Some p.table) (map component_of ss) moved)

-- the kinds of the row of an index are those of its table
pub kinds_at_place : (T : List TableValue) (P : List (Option EntityLocation)) → AreArchetypes T P → (i : ℕ) (p : EntityLocation) → place_of P i ≡ Some p →
    map (λ (c : Component). c.kind) (row_in T i (place_of P i)) ≡ kinds_at T p.table
kinds_at_place T P h i p at =
    let e : Entity = record { index = i; generation = p.generation } in
    let fits : IsHolder e.generation (holder_in (place_of P e.index)) = subst (λ o. IsHolder p.generation (holder_in o)) (sym at) refl in
    ap (map (λ (c : Component). c.kind)) (row_is T P e p h fits at) ∙ kinds_held T P e p h fits at
