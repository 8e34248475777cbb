use Rattle.std.proofs.Common.{◌≡◌, length, get_or, subst}
use Rattle.model.specs.steps.Built.{IsBuilt}
use Rattle.model.specs.Counts.{count_below}
use Rattle.executor_core.specs.Stands.{Stand}
use Rattle.executor_core.specs.Judges.{HasCounts, holds_up}
use Rattle.executor_core.proofs.Counted.{tells_after}
use Rattle.executor_core.proofs.executor.Core.is_after.Goals as goal

pub returns : goal.returns
unfolding HasCounts
returns c =
    let system = c.args.system in
    let waits = c.self.inside.waits in
    tells_after c.args.self.now system (get_or waits system 0) c.is_none.result (subst (λ (s : Stand). IsBuilt s.schedule) c.self.view_is c.prove_law.ensures)
    (subst (λ (s : Stand). get_or waits system 0 ≡ count_below (holds_up s.schedule.systems s.over system) (length s.schedule.systems)) c.self.view_is (c.self.invariant.1.waits system)) c.is_none.ensures
