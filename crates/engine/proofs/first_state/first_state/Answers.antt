use Rattle.std.proofs.Common.{List, sym, subst}
use Rattle.model.specs.state.State.{Memory}
use Rattle.body.specs.Steps.{AreInTime}
use Rattle.engine.specs.FirstState.{first_systems}
use Rattle.engine.proofs.FirstState.{first_in_time}
use Rattle.engine.proofs.first_state.first_state.Goals as goal

pub new-state-requires-clause-last_runs : goal.new-state-requires-clause-last_runs
new-state-requires-clause-last_runs c =
    let s = c.args.built.now in
    let clock = c.args.world.state.clock in
    subst (λ (xs : List Memory). AreInTime clock xs c.in_ok-conditions.conditions.items) (sym c.in_ok-systems.ensures)
    (subst (λ (xs : List Memory). AreInTime clock (first_systems s) xs) (sym c.in_ok-conditions.ensures) (first_in_time s clock))
