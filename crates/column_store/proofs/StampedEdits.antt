-- A column with its stamps: what is at a place, and an edit of both.
use Rattle.column_store.proofs.Common.{◌≡◌, ℕ, ◌<◌, min, ℤ, List, length, get_or, Some, sym, ap, ap₂, subst, ◌∙◌, swap_remove, slice_get, Stamp, ColumnCells, cell_of, cells_of, ColumnWords, swap_removed}
use Rattle.column_store.proofs.Cells.{length-cells_of, get-cells_of, get-there, cells_of-swap_removed, length-removed}

-- a place of a cell is that of a stamp
pub stamp-within : (column : ColumnWords) (ss : List Stamp) (seen : ColumnCells) (room i : ℕ) → length column.words ≡ length ss →
    (let v : ColumnCells = record { kind = column.kind; cells = cells_of column.words ss; room = room } in v) ≡ seen → i < length seen.cells → i < length ss
stamp-within column ss seen room i h is l = subst (λ n. i < n) (sym (ap (λ (v : ColumnCells). length v.cells) is) ∙ length-cells_of column.words ss h) l

-- and that of words
pub words-within : (column : ColumnWords) (ss : List Stamp) (seen : ColumnCells) (room i : ℕ) → length column.words ≡ length ss →
    (let v : ColumnCells = record { kind = column.kind; cells = cells_of column.words ss; room = room } in v) ≡ seen → i < length seen.cells → i < length column.words
words-within column ss seen room i h is l = subst (λ n. i < n) (sym h) (stamp-within column ss seen room i h is l)

-- the cell at a place has the words and the stamp that are there
pub cell-there : (column : ColumnWords) (ss : List Stamp) (seen : ColumnCells) (room i : ℕ) (w : List ℤ) (s : Stamp) → length column.words ≡ length ss →
    (let v : ColumnCells = record { kind = column.kind; cells = cells_of column.words ss; room = room } in v) ≡ seen → i < length seen.cells → slice_get column.words i ≡ Some w → s ≡ get_or ss i s →
    slice_get seen.cells i ≡ Some (cell_of w s)
cell-there column ss seen room i w s h is l e at =
    ap (λ (v : ColumnCells). slice_get v.cells i) (sym is)
    ∙ get-cells_of column.words ss i w s e (get-there ss i s (stamp-within column ss seen room i h is l) at)

-- a column from which one was removed, of words and of stamps
pub removed-view : (column new : ColumnWords) (ss news : List Stamp) (seen : ColumnCells) (room newroom i : ℕ) (d : Stamp) → length column.words ≡ length ss →
    (let v : ColumnCells = record { kind = column.kind; cells = cells_of column.words ss; room = min column.room room } in v) ≡ seen → i < length seen.cells →
    new ≡ record { kind = column.kind; words = swap_removed column.words i; room = column.room } → news ≡ swap_remove ss i d → newroom ≡ room →
    (let v : ColumnCells = record { kind = new.kind; cells = cells_of new.words news; room = min new.room newroom } in v)
    ≡ record { kind = seen.kind; cells = swap_removed seen.cells i; room = seen.room }
removed-view column new ss news seen room newroom i d h is l e f k =
    ap (λ (n : ColumnWords). let v : ColumnCells = record { kind = n.kind; cells = cells_of n.words news; room = min n.room newroom } in v) e
    ∙ ap₂ (λ (xs : List Stamp) (m : ℕ). let v : ColumnCells = record { kind = column.kind; cells = cells_of (swap_removed column.words i) xs; room = min column.room m } in v) f k
    ∙ ap (λ cells. let v : ColumnCells = record { kind = column.kind; cells = cells; room = min column.room room } in v)
    (cells_of-swap_removed column.words ss i d h (stamp-within column ss seen (min column.room room) i h is l))
    ∙ ap (λ (s : ColumnCells). let v : ColumnCells = record { kind = s.kind; cells = swap_removed s.cells i; room = s.room } in v) is

-- words and stamps stay as many
pub removed-lengths : (column new : ColumnWords) (ss news : List Stamp) (seen : ColumnCells) (room i : ℕ) (d : Stamp) → length column.words ≡ length ss →
    (let v : ColumnCells = record { kind = column.kind; cells = cells_of column.words ss; room = room } in v) ≡ seen → i < length seen.cells →
    new ≡ record { kind = column.kind; words = swap_removed column.words i; room = column.room } → news ≡ swap_remove ss i d → length new.words ≡ length news
removed-lengths column new ss news seen room i d h is l e f =
    ap (λ (n : ColumnWords). length n.words) e ∙ length-removed column.words ss i d h (stamp-within column ss seen room i h is l) ∙ sym (ap length f)
