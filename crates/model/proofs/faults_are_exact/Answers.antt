use Rattle.model.proofs.faults.ExactFaults.{faults_are_exact as exact}
use Rattle.model.proofs.faults.Judging.{faults_are_computed, lists_are_computed}
use Rattle.model.proofs.faults_are_exact.Goals as goal

pub returns-clause-exact : goal.returns-clause-exact
returns-clause-exact c = exact

pub returns-clause-computed : goal.returns-clause-computed
returns-clause-computed c = faults_are_computed

pub returns-clause-lists : goal.returns-clause-lists
returns-clause-lists c = lists_are_computed
