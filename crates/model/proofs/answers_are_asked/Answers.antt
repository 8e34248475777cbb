use Rattle.model.proofs.faults.Answers.{answer_of-means}
use Rattle.model.proofs.answers_are_asked.Goals as goal

pub returns : goal.returns
returns c = answer_of-means
