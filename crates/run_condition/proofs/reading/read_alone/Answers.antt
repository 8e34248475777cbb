-- A word without brackets is `run_once`, or no condition.
use Rattle.run_condition.proofs.Conditions.{behind_alone, behind_none}
use Rattle.run_condition.proofs.reading.read_alone.Goals as goal

pub returns-in-RunOnce : goal.returns-in-RunOnce
returns-in-RunOnce c depth = rw (c.in-RunOnce.is, c.run_once.ensures) (behind_alone depth c.args.text.now c.requires.starts c.requires.closed)

pub returns-in_default : goal.returns-in_default
returns-in_default c depth = behind_none depth c.args.word c.args.text.now c.in_default.not-RunOnce c.requires.closed
