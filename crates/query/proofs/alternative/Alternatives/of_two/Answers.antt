-- The alternatives are read in turn.
use Rattle.query.proofs.OrTerms.{two_read, two_without_first, two_without_second}
use Rattle.query.proofs.alternative.Alternatives.of_two.Goals as goal

pub returns-in_err-of_words : goal.returns-in_err-of_words
returns-in_err-of_words c = rw c.from_residual.ensures (two_without_first c.args.u.now c.args.k.now c.args.v.now c.args.l.now c.in_err-of_words.ensures)

pub returns-in_err-of_words-2 : goal.returns-in_err-of_words-2
returns-in_err-of_words-2 c = rw c.from_residual-in_err-of_words-2.ensures (two_without_second c.args.u.now c.args.k.now c.args.v.now c.args.l.now c.in_err-of_words-2.ensures)

pub returns : goal.returns
returns c = two_read c.args.u.now c.args.k.now c.args.v.now c.args.l.now
    c.in_ok-of_words.field-0 c.in_ok-of_words-2.field-0
    c.in_ok-of_words.ensures c.in_ok-of_words-2.ensures
