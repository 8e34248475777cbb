use Rattle.run_condition.specs.Tree.{condition_of}
use Rattle.body.proofs.Readers.{parts}
use Rattle.body.proofs.condition_answer.+evaluate.Given as goal

-- what is within has fewer parts than the whole
abbrev pub decreases-evaluate : goal.decreases-evaluate
decreases-evaluate l = parts (condition_of l.tree.now)
