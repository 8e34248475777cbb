-- The alternatives are read in turn.
use Rattle.query.proofs.OrTerms.{four_read, four_without_first, four_without_second, four_without_third, four_without_fourth}
use Rattle.query.proofs.alternative.Alternatives.of_four.Goals as goal

pub returns-in_err-of_words : goal.returns-in_err-of_words
returns-in_err-of_words c = rw c.from_residual.ensures
    (four_without_first c.args.u.now c.args.k.now c.args.v.now c.args.l.now c.args.w.now c.args.m.now c.args.x.now c.args.n.now c.in_err-of_words.ensures)

pub returns-in_err-of_words-2 : goal.returns-in_err-of_words-2
returns-in_err-of_words-2 c = rw c.from_residual-in_err-of_words-2.ensures
    (four_without_second c.args.u.now c.args.k.now c.args.v.now c.args.l.now c.args.w.now c.args.m.now c.args.x.now c.args.n.now c.in_err-of_words-2.ensures)

pub returns-in_err-of_words-3 : goal.returns-in_err-of_words-3
returns-in_err-of_words-3 c = rw c.from_residual-in_err-of_words-3.ensures
    (four_without_third c.args.u.now c.args.k.now c.args.v.now c.args.l.now c.args.w.now c.args.m.now c.args.x.now c.args.n.now c.in_err-of_words-3.ensures)

pub returns-in_err-of_words-4 : goal.returns-in_err-of_words-4
returns-in_err-of_words-4 c = rw c.from_residual-in_err-of_words-4.ensures
    (four_without_fourth c.args.u.now c.args.k.now c.args.v.now c.args.l.now c.args.w.now c.args.m.now c.args.x.now c.args.n.now c.in_err-of_words-4.ensures)

pub returns : goal.returns
returns c = four_read c.args.u.now c.args.k.now c.args.v.now c.args.l.now c.args.w.now c.args.m.now c.args.x.now c.args.n.now
    c.in_ok-of_words.field-0 c.in_ok-of_words-2.field-0 c.in_ok-of_words-3.field-0 c.in_ok-of_words-4.field-0
    c.in_ok-of_words.ensures c.in_ok-of_words-2.ensures c.in_ok-of_words-3.ensures c.in_ok-of_words-4.ensures
