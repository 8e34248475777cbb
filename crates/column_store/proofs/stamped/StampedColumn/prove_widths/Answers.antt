use Rattle.column_store.proofs.Common.{◌≡◌, length, subst, AllByRecursion, widths, ColumnCells}
use Rattle.column_store.proofs.Wide.{cells_wide}
use Rattle.column_store.proofs.stamped.StampedColumn.prove_widths.Goals as goal

pub returns : goal.returns
returns c = subst (λ (v : ColumnCells). AllByRecursion (λ x. length x.words ≡ widths v.kind) v.cells) c.self.view_is
    (cells_wide (widths c.self.inside.column.kind) c.self.inside.column.words c.self.inside.stamps.items c.prove_width.ensures)
