-- The text is cut at its first mark.
use Rattle.run_condition.proofs.Marks.{plain_before, mark_after, mark_boundary}
use Rattle.run_condition.proofs.fronts.cut.Goals as goal

pub split_at-requires : goal.split_at-requires
split_at-requires c = rw c.first_mark.ensures (mark_boundary c.args.text.now)

pub returns-clause-head : goal.returns-clause-head
returns-clause-head c = rw (c.split_at.ensures.front, c.first_mark.ensures) (plain_before c.args.text.now)

pub returns-clause-rest : goal.returns-clause-rest
returns-clause-rest c = rw (c.split_at.ensures.back, c.first_mark.ensures) (mark_after c.args.text.now)
