use Rattle.archetype_store.proofs.Common.{◌<◌, List, length, get_or, ap, ◌∙◌, subst, KeptShape, fitting_tables}
use Rattle.archetype_store.proofs.FittingTables.{listed_there}
use Rattle.archetype_store.proofs.table_index.TableIndex.fitting.Goals as goal

pub returns-then-kept-shape : goal.returns-then-kept-shape
returns-then-kept-shape c = λ tables i.
    let found = c.in_ok-kept.ensures.lookup in
    let place = c.in_ok-place.field-0.now in
    let kept = c.in_ok-kept.kept.now in
    c.as_slice.ensures.value
    ∙ listed_there tables c.args.self.now.shapes.items place kept (subst (λ (xs : List KeptShape). place < length xs) c.deref.ensures.value found.3.0)
    (found.1 ∙ ap (λ (xs : List KeptShape). get_or xs place kept) c.deref.ensures.value) i.found.listed
    ∙ ap (λ s. fitting_tables s 0 tables) c.if-kept-shape.true
