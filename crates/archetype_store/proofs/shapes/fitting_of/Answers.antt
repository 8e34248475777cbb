use Rattle.archetype_store.proofs.Common.{sym, ap, ◌∙◌, set_number, fits}
use Rattle.archetype_store.proofs.ListSteps.{fitting_passed, fitting_next, fitting_all}
use Rattle.archetype_store.proofs.shapes.fitting_of.Goals as goal

pub loop-number-preserved-then-not-fits : goal.loop-number-preserved-then-not-fits
loop-number-preserved-then-not-fits c =
    let fit = ap (λ ks. fits c.args.shape (set_number ks)) (sym c.kinds.ensures.kinds) ∙ ap (fits c.args.shape) (sym c.number_of.ensures.sum) ∙ sym c.if-not-fits.ensures in
    fitting_passed c.args.shape c.args.tables.now c.loop-number.number c.index-tables-number.result c.loop-number.fitting.items c.loop-number-test.true c.index-tables-number.is fit c.loop-number.invariant

pub loop-number-preserved : goal.loop-number-preserved
loop-number-preserved c =
    let fit = ap (λ ks. fits c.args.shape (set_number ks)) (sym c.kinds.ensures.kinds) ∙ ap (fits c.args.shape) (sym c.number_of.ensures.sum) ∙ sym c.if-not-fits.ensures in
    fitting_next c.args.shape c.args.tables.now c.loop-number.number c.index-tables-number.result c.loop-number.fitting.items c.push.new.self.items c.loop-number-test.true c.index-tables-number.is fit c.in_ok-push.ensures.items c.loop-number.invariant

pub returns : goal.returns
returns c = fitting_all c.args.shape c.args.tables.now c.loop-number.number c.loop-number.fitting.items c.loop-number-test.false c.loop-number.invariant
