use Rattle.command_line.proofs.Asking.{runs_are}
use Rattle.clap.specs.Words.{found_of, rows_of}
use Rattle.command_line.proofs.reading.runs_of.Goals as goal

pub returns-clause-runs : goal.returns-clause-runs
returns-clause-runs c = runs_are (rows_of (found_of c.args.run.now)) c.in_ok-times.times c.in_ok-workers.workers c.is_given-recorded.result c.in_ok-times.ensures.number c.in_ok-workers.ensures.number c.is_given-recorded.ensures
