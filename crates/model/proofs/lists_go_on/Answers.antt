use Rattle.model.proofs.progress.Ends.{lists_end}
use Rattle.model.proofs.progress.Progress.{lists_go_on as goes_on}
use Rattle.model.proofs.progress.Offers.{lists_complete, ready_is_accepted}
use Rattle.model.proofs.lists_go_on.Goals as goal

pub returns-clause-next : goal.returns-clause-next
returns-clause-next c = goes_on

pub returns-clause-bound : goal.returns-clause-bound
returns-clause-bound c = lists_end

pub returns-clause-complete : goal.returns-clause-complete
returns-clause-complete c = lists_complete

pub returns-clause-ready : goal.returns-clause-ready
returns-clause-ready c = ready_is_accepted
