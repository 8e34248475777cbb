use Rattle.model.proofs.progress.Single.{single_is_wide}
use Rattle.model.proofs.progress.WideOfOne.{wide_of_one_is_single as of_one_is_single, wide_runs_of_one_are_single, wide_stops_of_one_are_single}
use Rattle.model.proofs.wide_of_one_is_single.Goals as goal

pub returns-clause-fronts : goal.returns-clause-fronts
returns-clause-fronts c = single_is_wide

pub returns-clause-lists : goal.returns-clause-lists
returns-clause-lists c = of_one_is_single

pub returns-clause-runs : goal.returns-clause-runs
returns-clause-runs c = wide_runs_of_one_are_single

pub returns-clause-stops : goal.returns-clause-stops
returns-clause-stops c = wide_stops_of_one_are_single
