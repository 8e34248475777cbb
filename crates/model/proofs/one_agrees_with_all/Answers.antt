use Rattle.model.proofs.agreement.OneWithAll.{wide_runs_agree, replayed_run_agrees}
use Rattle.model.proofs.one_agrees_with_all.Goals as goal

pub returns-clause-wide : goal.returns-clause-wide
returns-clause-wide c = wide_runs_agree

pub returns-clause-replayed : goal.returns-clause-replayed
returns-clause-replayed c = replayed_run_agrees
