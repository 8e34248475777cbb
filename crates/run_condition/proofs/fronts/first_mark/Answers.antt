-- No mark is found.
use Rattle.run_condition.proofs.Marks.{no_place}
use Rattle.run_condition.proofs.fronts.first_mark.Goals as goal

pub returns-in-None : goal.returns-in-None
returns-in-None c = no_place c.args.text.now (rw c.as_bytes.ensures.value at c.in-None.ensures)
