-- The rows of tables stand in the archetypes of the tables.
use Rattle.archetype_store.proofs.Common.{◌≡◌, ℕ, zero, suc, ◌<◌, true, List, [], ◌∷◌, length, get_or, map, Some, None, refl, ap, ◌∙◌, arith, slice_get, is_there, Entity, TableRow, TableValue, layout_of, archetype_at, numbers_from, table_at, number_of, entity_in_row}
use Rattle.archetype_store.proofs.ArchetypeColumns.{entities_there}
use Rattle.archetype_store.proofs.FittingTables.{number_at}

some_rows : (rows : List TableRow) (row : ℕ) (e : Entity) → slice_get (map (λ (r : TableRow). r.entity) rows) row ≡ Some e → is_there rows ≡ true
some_rows [] row e h = absurd (cc)
some_rows (r ∷ rows) row e h = refl

pub peopled_within : (T : List TableValue) (t : ℕ) → is_there (table_at T t).rows ≡ true → t < length T
peopled_within [] t h = absurd (cc)
peopled_within (u ∷ us) zero h = omega arith
peopled_within (u ∷ us) (suc t) h = let l = peopled_within us t h in omega arith

module _ (T : List TableValue) (t row : ℕ) (e : Entity) (there : entity_in_row T t row ≡ Some e) where
  pub peopled : is_there (table_at T t).rows ≡ true
  peopled = some_rows (table_at T t).rows row e there

  -- the table of a row is an archetype
  pub number_known : get_or (numbers_from 0 T) t None ≡ Some (number_of T t)
  number_known = number_at 0 T t peopled ∙ ap (λ k. Some k) (omega arith)

  -- and the row's entity stands there
  pub stands_there : slice_get (archetype_at (layout_of T) (number_of T t)).entities row ≡ Some e
  stands_there =
      ap (λ es. slice_get es row) (entities_there T (number_of T t) t (record { within = peopled_within T t peopled; peopled = peopled; number = refl })) ∙ there
