-- A slot whose column is taken for the table alone, and then leaves.
use Rattle.column_store.proofs.Common.{◌≡◌, true, sym, ap, ◌∙◌, Spot, ColumnCells, slot_of, ColumnSlotValue, is_home, Owned, Away, seen_slot, standing_at, owned_slot}
use Rattle.column_store.specs.declared.column_slot.Spot.TheVariants as spot

-- one that is the table's alone is at home
pub home_by_owned : (old own : ColumnSlotValue) → seen_slot own ≡ standing_at Owned (seen_slot old) → is_home own.standing ≡ true
home_by_owned old own e = ap (λ (p : ColumnSlotValue). is_home p.standing) e

-- the column that comes out of the slot is the one that was in it
pub left_column : (s : Spot) (column : ColumnCells) (own old : ColumnSlotValue) → s ≡ spot.Home column → slot_of s ≡ own → seen_slot own ≡ standing_at Owned (seen_slot old) →
    column ≡ record old.column { room = column.room }
left_column s column own old home is e =
    let same : seen_slot (owned_slot column) ≡ standing_at Owned (seen_slot old) = ap seen_slot (sym (ap slot_of home) ∙ is) ∙ e in
    ap (λ (p : ColumnSlotValue). let c : ColumnCells = record { kind = p.column.kind; cells = p.column.cells; room = column.room } in c) same

-- the slot has the column as it left
pub left_slot : (left column : ColumnCells) (own old : ColumnSlotValue) → left ≡ column → column ≡ own.column → seen_slot own ≡ standing_at Owned (seen_slot old) →
    seen_slot (standing_at Away (owned_slot left)) ≡ standing_at Away (seen_slot old)
left_slot left column own old is seen e = ap (λ (c : ColumnCells). seen_slot (standing_at Away (owned_slot c))) (is ∙ seen) ∙ ap (standing_at Away) e
