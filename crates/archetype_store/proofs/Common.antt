-- The names that most proofs cite, passed on from one place. Declares nothing.
pub use Rattle.std.proofs.Common.{◌≡◌, ℕ, zero, suc, true, List, [], ◌∷◌, length, map, Option, Some, None, option_and_then, option_map, refl, sym, ap, ◌∙◌, ◌+◌, ◌<◌, ◌≤◌, Bool, false, cond, ap₂, subst, true≢false, set, ◌⊎◌, inl, inr, Result, Ok, Err, OnOk, OnErr, ◌==◌, get_or, is_some, arith, eqb-true, not, ◌&&◌, ℤ, ◌++◌, drop, append_assoc, add-one, take, pos, sum, ◌||◌, ◌≢◌, filter, nat_lt, ◌-◌, IfOk, nat_le, lt-ltb, length-append, ◌^◌, ◌*◌, ◌%◌, nat_eq, vec_len, rules}
pub use Rattle.std.proofs.Math.Seq.{map-set_same, get_or-append_seam}
pub use Rattle.std.proofs.lemmas.Bool.{cases_eq, and_parts, or_left, false≢true, eq-eqb, ne_eqb, cases_lt, and_from, true_from_ne_false}
pub use Rattle.std.proofs.lemmas.Bool.Decides.{nat_tests}
pub use Rattle.std.proofs.lemmas.List.{length-map, length-set, get_or-set_same, get_or-set_other, drop_more, drop_all, append-nil, take_more, get_or_past, get_or_default, map-append, get_or_read, get_or_append_left, take_all}
pub use Rattle.std.proofs.lemmas.List.Quantifiers.{position-Some}
pub use Rattle.std.proofs.lemmas.Result.{on_ok_weaker, on_err_weaker, IfOk-weaker}
pub use Rattle.std.specs.Arc.{arc_value}
pub use Rattle.std.specs.Int.{bit_at, w32}
pub use Rattle.std.specs.List.{AllByRecursion, list_any, Contains, list_all, position, insert, position_or_len, remove}
pub use Rattle.std.specs.List.Sorted.{IsPermutation}
pub use Rattle.std.specs.Map.{lookup}
pub use Rattle.std.specs.Prelude.{slice_get, sum_by, bit_or, MatchOption, vec_capacity}
pub use Rattle.kinds.specs.Components.{widths}
pub use Rattle.kinds.specs.Kind.{kind_number, kind_count}
pub use Rattle.kinds.specs.Value.{value_number, value_words}
pub use Rattle.kinds.specs.declared.kind.Kind.{Kind}
pub use Rattle.kinds.specs.declared.kind.Kind.TheVariants.{Position}
pub use Rattle.kinds.specs.declared.value.Value.{Value}
pub use Rattle.model.proofs.lists.Bools.{apart_number}
pub use Rattle.model.proofs.lists.Each.{each-weaker, each-map_index, each-append, each-at}
pub use Rattle.model.proofs.lists.Lists.{map_index-same, get_or-update_at-view, length-map_index, IsIn_from_any, list_any-IsIn, map_index-map_index, map-same, ==-same, get_or-update_at_other}
pub use Rattle.model.proofs.lists.Turns.{copied_next, mapped_all, mapped_next}
pub use Rattle.model.specs.Lists.{map_index, update_at, is_there, head_or, has, IsIn, with_at, tail_of}
pub use Rattle.model.specs.declared.entities.Entity.{Entity}
pub use Rattle.model.specs.sessions.Inputs.{next_id}
pub use Rattle.model.specs.shown.Input.{words_of}
pub use Rattle.model.specs.shown.Overlay.{resource_after, cell_after, component_after, row_after, slot_after}
pub use Rattle.model.specs.state.Commands.{is_alive, with_row, spawned, release, freed}
pub use Rattle.model.specs.state.Ids.{has_ids, grant, has_ids_for_each, grant_each, granted_ids, ids_of_each}
pub use Rattle.model.specs.state.KindSets.{with_number, kind_sets_of, set_limit}
pub use Rattle.model.specs.state.Loaded.{resource_given}
pub use Rattle.model.specs.state.Rows.{IsRising, row_at, cell_at, insert_component, remove_component, changed_component, kinds_of, new_component}
pub use Rattle.model.specs.state.Shape.{IsComponent, IsSlot, IsWorld}
pub use Rattle.model.specs.state.State.{Cell, Component, Slot, Status, World, fresh_slot, is_living, is_granted, most_indices, last_generation}
pub use Rattle.model.specs.state.State.Status.{Vacant, Granted, Living, Retired}
pub use Rattle.entity_table.specs.Ids.{slot_at, spawned_all, settled, IsGranted, lives_at, IsBook, living_count}
pub use Rattle.entity_table.specs.Rows.{with_rows}
pub use Rattle.entity_table.specs.Status.{empty_slot}
pub use Rattle.column_store.specs.Cells.{stamped_number, stamped_cell}
pub use Rattle.column_store.specs.Column.{ColumnCells}
pub use Rattle.column_store.specs.Components.{components_in, components_of}
pub use Rattle.column_store.specs.Kinds.{at_kind, update_kind, in_order, AreBelow}
pub use Rattle.column_store.specs.Order.{is_same, AreApart}
pub use Rattle.column_store.specs.Places.{IsPlace, IsNowhere}
pub use Rattle.column_store.specs.RowOrder.{OrdersRows}
pub use Rattle.column_store.specs.Swapped.{swap_removed}
pub use Rattle.column_store.specs.Table.{Standing, TableRow, TableValue, is_home, is_not_away, cell_of_kind, cell_in_row, IsColumnOf, IsHome, empty_table, lent, standing_of, with_cell_at, filled_rows, homed, owned, IsAlike, is_owned, new_row, renewed_row}
pub use Rattle.column_store.specs.Table.Standing.{Owned, Shared, Away}
pub use Rattle.column_store.specs.declared.stamped.StampedValue.{StampedValue}
pub use Rattle.archetype_store.specs.Changes.{components_left, slot_left, change_at, changed, CanChange, with_new, book_changed, IsHeldBy, AreOfOtherIndices, row_left, living_slot, settled_slot}
pub use Rattle.archetype_store.specs.Inside.{HasRows, slots_seen, store_seen, IsStore}
pub use Rattle.archetype_store.specs.Layout.{Archetype, archetype_at, column_home, with_column, with_home, AreOfOtherKinds, IsArchetype, IsLayoutOf, has_index, archetype_of, layout_of, AreAllHome, IsCellHome, IsRowHome, is_in_archetype, IsShape}
pub use Rattle.archetype_store.specs.Lending.{CanTake, CanComeHome, AreTaken, AreShared, IsColumn, IsAway, all_away, all_home, KindsAreHome}
pub use Rattle.archetype_store.specs.LivingSets.{set_number, numbers_with, first_numbers, number_seen, lives_empty, entity_count}
pub use Rattle.archetype_store.specs.Overlays.{also_written, written_by, is_reached, IsAfter, AreReached, ColumnsAreOverlays, TakenAreOverlays, TakenClose}
pub use Rattle.archetype_store.specs.Resources.{resource_of}
pub use Rattle.archetype_store.specs.Row.{component_of, added_at}
pub use Rattle.archetype_store.specs.RowMoves.{components_moved, arrives_in, stays_there, stays_in, is_table, one_if, gone, come_to, come, HasLeft, IsPlanned, AreAlikeBut, change_of, HaveRoom, other_table, coming_count, AreAlikeBefore, IsTarget}
pub use Rattle.archetype_store.specs.RowNumbers.{AreRowsKnown, number_of_row}
pub use Rattle.archetype_store.specs.Rows.{RowsValue, rows_seen, placed_in, left_from, left, AreRows, CanJoin, CanRenew, row_number, without_row, with_row_renewed, joined, renewed, AreKept, IsTheirs}
pub use Rattle.archetype_store.specs.Shapes.{fits, fitting_tables, with_some, numbered, numbers_from, kept_seen, noted, AreListed, fitting_from, Fitting}
pub use Rattle.archetype_store.specs.Slot.{cell_of, bare_of, column_cells}
pub use Rattle.archetype_store.specs.Storage.{place_of, row_in, holder_in, IsHolder, HasRow, StorageValue, row_of, HaveRows, cell_for, row_with, holder_of, archetypes_of, is_place, row_cells, cell_held, IsOfKinds, IsStored, IsFilled, AreArchetypes, AreAlike, row_changed, holder_changed, holder_if, IsLaidOut}
pub use Rattle.archetype_store.specs.Store.{StoreValue, with_slots, slots_with, homed_in, IsPast, with_slot, with_resource}
pub use Rattle.archetype_store.specs.TableIndex.{IsIndexed, has_bit, peopled_from, IsWord, IsFound}
pub use Rattle.archetype_store.specs.TableWords.{told_table}
pub use Rattle.archetype_store.specs.Tables.{room_at, shape_of, table_at, entities_at, with_room, AreAllAlike, AreShaped, AreUnlike, IsGrown, IsTableOf, kinds_at, held_in, held_at, row_or_none, is_unshared, cells_at, number_of, AreUnshared, IsHeldNow, entity_in_row, AreOwned, IsOneTable, AreHome, is_in, AreEmptyHome}
pub use Rattle.archetype_store.specs.View.{kinds_seen, entities_seen}
pub use Rattle.archetype_store.specs.declared.change.EntityChange.{EntityChange}
pub use Rattle.archetype_store.specs.declared.change.Fate.{Fate}
pub use Rattle.archetype_store.specs.declared.columns.ColumnAt.{ColumnAt}
pub use Rattle.archetype_store.specs.declared.columns.SharedColumn.{SharedColumn}
pub use Rattle.archetype_store.specs.declared.columns.TakenColumn.{TakenColumn}
pub use Rattle.archetype_store.specs.declared.locations.EntityLocation.{EntityLocation}
pub use Rattle.archetype_store.specs.declared.resources.Resource.{Resource}
pub use Rattle.archetype_store.specs.declared.row_moves.RowMove.{RowMove}
pub use Rattle.archetype_store.specs.declared.shapes.KeptShape.{KeptShape}
pub use Rattle.archetype_store.specs.declared.table_index.TableIndex.{TableIndex}
pub use Rattle.archetype_store.specs.declared.tables.ArchetypeView.{ArchetypeView}
