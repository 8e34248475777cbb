use Rattle.std.proofs.Common.{subst, sym}
use Rattle.engine.specs.Meanings.{HasMemories}
use Rattle.engine.proofs.FirstState.{has_first}
use Rattle.ecsview.proofs.found.begun.Goals as goal

-- it has the memories of the schedule
pub returns-clause-memories : goal.returns-clause-memories
returns-clause-memories c = subst (HasMemories c.args.built.now) (sym c.in_ok-state.ensures.first) (has_first c.args.built.now _)
