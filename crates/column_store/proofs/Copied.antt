-- A copy of a table: the same kinds and entities, and the same columns, which are the copy's alone.
use Rattle.column_store.proofs.Common.{◌≡◌, ℕ, List, map, sym, ap, subst, ◌∙◌, Entity, ColumnSlotValue, owned, Owned, standing_at, seen_slot, table_of, IsTable}
use Rattle.column_store.proofs.Kept.{kept-columns}
use Rattle.column_store.proofs.Tables.{owned_columns, table-owned}

module _ (ns ms : List ℕ) (es fs : List Entity) (ps qs : List ColumnSlotValue) (kinds : ms ≡ ns) (entities : fs ≡ es) (columns : map seen_slot qs ≡ map (standing_at Owned) (map seen_slot ps)) where
  pub copied_table : IsTable ns es ps → IsTable ms fs qs
  copied_table h =
      subst (λ k. IsTable k fs qs) (sym kinds) (subst (λ l. IsTable ns l qs) (sym entities) (kept-columns ns es ps qs (owned_columns ps qs columns) h))

  pub copied_value : table_of ms fs qs ≡ owned (table_of ns es ps)
  copied_value =
      ap (λ k. table_of k fs qs) kinds ∙ ap (λ l. table_of ns l qs) entities ∙ table-owned ns es ps qs columns
