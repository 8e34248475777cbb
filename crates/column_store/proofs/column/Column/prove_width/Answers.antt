use Rattle.column_store.proofs.Common.{◌≡◌, length, subst, AllByRecursion, widths, ColumnWords}
use Rattle.column_store.proofs.Wide.{packs_wide}
use Rattle.column_store.proofs.column.Column.prove_width.Goals as goal

pub returns : goal.returns
returns c = subst (λ (v : ColumnWords). AllByRecursion (λ ws. length ws ≡ widths v.kind) v.words) c.self.view_is (packs_wide c.self.inside.packs _ c.self.invariant)
