use Rattle.model.proofs.progress.Determinism.{single_run_is_one as run_is_one, single_runs_are_one as runs_are_one, defined_runs_go_through as go_through, stops_are_one}
use Rattle.model.proofs.single_runs_are_one.Goals as goal

pub returns-clause-run : goal.returns-clause-run
returns-clause-run c = run_is_one

pub returns-clause-runs : goal.returns-clause-runs
returns-clause-runs c = runs_are_one

pub returns-clause-defined : goal.returns-clause-defined
returns-clause-defined c = go_through

pub returns-clause-stops : goal.returns-clause-stops
returns-clause-stops c = stops_are_one
