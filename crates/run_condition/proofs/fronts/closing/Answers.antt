-- The bracket is taken off.
use Rattle.run_condition.proofs.Marks.{closing_at}
use Rattle.run_condition.proofs.fronts.closing.Goals as goal

pub returns-in-Some : goal.returns-in-Some
returns-in-Some c = closing_at c.closed.result c.args.text.now c.in-Some.after.now c.in-Some.ensures c.closed.ensures
