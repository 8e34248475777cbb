-- The byte behind the first end of a line tells it.
use Rattle.std.proofs.Common.{sym, ◌∙◌, arith}
use Rattle.std.proofs.lemmas.Bool.{le-ltb}
use Rattle.trace_checker.proofs.Ends.{unlisted_without_end, listed_at, unlisted_past}
use Rattle.trace_checker.proofs.read.lists_in.Goals as goal

pub returns-then-end-text : goal.returns-then-end-text
returns-then-end-text c = sym (listed_at c.args.text.now c.in-Some.end (sym c.in-Some.ensures))

pub returns-else-end-text : goal.returns-else-end-text
returns-else-end-text c = le-ltb _ _ c.if-end-text.false ∙ sym (unlisted_past c.args.text.now c.in-Some.end (sym c.in-Some.ensures) (omega (arith, c.if-end-text.false)))

pub returns-in-None : goal.returns-in-None
returns-in-None c = sym (unlisted_without_end c.args.text.now (sym c.in-None.ensures))
