use Rattle.model.proofs.progress.Width.{at_most_run, finishes_wait}
use Rattle.model.proofs.wide_lists_keep_width.Goals as goal

pub returns-clause-most : goal.returns-clause-most
returns-clause-most c = at_most_run

pub returns-clause-finishes : goal.returns-clause-finishes
returns-clause-finishes c = finishes_wait
