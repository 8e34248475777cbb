-- Rows by index: who has a place has a row.
use Rattle.archetype_store.proofs.Common.{◌≡◌, ℕ, Option, Some, None, is_some, refl, sym, ap, ◌∙◌, is_there, Entity, EntityLocation, RowsValue, rows_seen, AreRows, row_of, place_of, row_in}
use Rattle.archetype_store.proofs.PlacesAfterRowChange.{row_seen, somewhere, row_there}
use Rattle.archetype_store.proofs.RowSteps.{kinds_at_place}

pub there_if_placed : (v : RowsValue) → AreRows v → (i : ℕ) → is_there (row_of (rows_seen v).rows i) ≡ is_some (place_of v.places i)
there_if_placed v h i = ap is_there (row_seen v.tables v.places i) ∙ go (place_of v.places i) refl
  where
    go : (o : Option EntityLocation) → place_of v.places i ≡ o → is_there (row_in v.tables i (place_of v.places i)) ≡ is_some (place_of v.places i)
    go None at = ap (λ o. is_there (row_in v.tables i o)) at ∙ sym (ap is_some at)
    go (Some p) at =
        let e : Entity = record { index = i; generation = p.generation } in
        row_there v.tables v.places h.whole e p.table (row_in v.tables i (place_of v.places i)) (somewhere v.tables v.places h.whole e p at refl) (kinds_at_place v.tables v.places h.whole i p at) ∙ sym (ap is_some at)
