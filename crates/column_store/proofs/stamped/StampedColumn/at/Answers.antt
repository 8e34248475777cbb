use Rattle.column_store.proofs.Common.{Some, sym, ap, ◌∙◌, value_words}
use Rattle.column_store.proofs.StampedEdits.{cell-there}
use Rattle.column_store.proofs.stamped.StampedColumn.at.Goals as goal

pub returns-clause-cell : goal.returns-clause-cell
returns-clause-cell c =
    cell-there c.self.inside.column c.self.inside.stamps.items c.args.self.now _ c.args.place (value_words c.of.result) c.index.result.now c.self.invariant c.self.view_is c.requires
    (c.fields.ensures.words ∙ ap Some (sym (c.of.ensures.words ∙ c.as_slice.ensures))) c.index.ensures
