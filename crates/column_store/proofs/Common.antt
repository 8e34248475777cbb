-- The names that most proofs cite, passed on from one place. Declares nothing.
pub use Rattle.std.proofs.Common.{◌≡◌, ℕ, ◌+◌, ◌-◌, ◌<◌, ◌≤◌, List, [], ◌∷◌, ◌++◌, length, map, sym, ap, subst, ◌∙◌, arith, zero, suc, Bool, true, false, ◌==◌, ◌&&◌, ◌⊎◌, inl, inr, Some, refl, ap₂, slice_get, ⊎_elim, get_or, set, Result, Ok, Err, OnOk, OnErr, Option, option_map, MatchOption, None, ◌||◌, nat_lt, take, add-zero, zero-add, add-one, not, cond, ℤ, option_and_then, IfOk, filter, reverse, ◌≢◌, min, pos, drop, vec_len, vec_capacity, is_some}
pub use Rattle.std.proofs.lemmas.Bool.{cases_eq, eq-eqb, eqb-true, or_left, or_right}
pub use Rattle.std.proofs.lemmas.Bool.Decides.{nat_tests}
pub use Rattle.std.proofs.lemmas.Int.{to_z-of_z}
pub use Rattle.std.proofs.lemmas.List.{length_push, map-set, length-map, length-set, same_lists, get_or_default, get_or_append_left, get_or-set_same, get_or-set_other, take-map, with_items_is}
pub use Rattle.std.proofs.lemmas.Result.{on_ok_weaker}
pub use Rattle.std.proofs.lemmas.Simd.{map-map}
pub use Rattle.std.specs.List.{AllByRecursion, position, insert, remove, list_all, list_any, swap_remove, position_or_len}
pub use Rattle.std.specs.List.Sorted.{IsPartitionedBy, IsPartitionPoint}
pub use Rattle.std.specs.Prelude.{Vec, IsNone}
pub use Rattle.std.specs.declared.alloc.Global.{Global}
pub use Rattle.std.specs.declared.sync.Arc.{Arc}
pub use Rattle.kinds.specs.Components.{word_at, widths}
pub use Rattle.kinds.specs.Kind.{kind_number, kind_count}
pub use Rattle.kinds.specs.Value.{value_words}
pub use Rattle.kinds.specs.declared.kind.Kind.{Kind}
pub use Rattle.model.proofs.lists.Each.{each-at, each-weaker}
pub use Rattle.model.proofs.lists.Lists.{length-update_at}
pub use Rattle.model.proofs.lists.Places.{get-there}
pub use Rattle.model.specs.Lists.{update_at, has, with_at, tail_of}
pub use Rattle.model.specs.declared.entities.Entity.{Entity}
pub use Rattle.model.specs.shown.Overlay.{row_after, cell_after}
pub use Rattle.model.specs.state.Rows.{IsRising}
pub use Rattle.model.specs.state.State.{Cell, Component}
pub use Rattle.change_ticks.specs.declared.stamp.Stamp.{Stamp}
pub use Rattle.column_store.specs.Cells.{stamped_number, stamped_cell, changed_cell, stamp_of}
pub use Rattle.column_store.specs.Column.{ColumnCells, cells_of, cell_of}
pub use Rattle.column_store.specs.Components.{components_in, ComponentsRise, CellsAreTheirs, WritesAreTheirs}
pub use Rattle.column_store.specs.EntityList.{EntityListValue, GapListValue, row_limit, IsCopy, IsKept, IsEntityList}
pub use Rattle.column_store.specs.Fields.{words_with, field_cell, with_field_cells, with_field_words, changed_stamp, changed_stamps}
pub use Rattle.column_store.specs.Held.{words_in, width_in}
pub use Rattle.column_store.specs.Inside.{swap_out_in, push_all, replace_all, HasRoom, AreRoomier, IsTable, IsTableWithRoom, IsTableWithSpare, standing_at, seen_column, seen_slot, table_of, IsOfLength, IsKindPlace, IsKindPlaced, IsNoKind, kind_in, owned_slot, IsOwned, AllTake, AllRenew, cell_at, standing_in, tail_in, rows_of, AreAlike, IsAtHome, HoldsRow, OwnsRow, empty_column}
pub use Rattle.column_store.specs.Kinds.{AreBelow, at_kind, update_kind, in_order}
pub use Rattle.column_store.specs.Order.{is_same, AreApart, is_before, AreRising}
pub use Rattle.column_store.specs.Packed.{mark_words, amount_words, pair_words}
pub use Rattle.column_store.specs.Places.{IsPlace, IsNowhere, IsGap}
pub use Rattle.column_store.specs.RowOrder.{entity_at, numbers_from, IsOrderOf, rows_in, OrdersRows}
pub use Rattle.column_store.specs.Spots.{slot_of}
pub use Rattle.column_store.specs.Swapped.{swap_removed}
pub use Rattle.column_store.specs.Table.{ColumnSlotValue, Standing, is_home, lent, shared, IsHome, IsAlike, TableRow, TableValue, cell_of_kind, filled_rows, cell_in_row, standing_of, kind_cells, moved_to, owned, homed, is_owned, row_of, new_row, renewed_row, empty_table}
pub use Rattle.column_store.specs.Table.Standing.{Shared, Away, Owned}
pub use Rattle.column_store.specs.Words.{ColumnWords}
pub use Rattle.column_store.specs.declared.column.Packs.{Packs}
pub use Rattle.column_store.specs.declared.column.Packs.TheVariants.{Marks, Amounts, Pairs}
pub use Rattle.column_store.specs.declared.column_slot.Spot.{Spot}
pub use Rattle.column_store.specs.declared.stamped.StampedValue.{StampedValue}
