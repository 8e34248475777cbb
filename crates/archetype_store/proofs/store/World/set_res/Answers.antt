use Rattle.archetype_store.proofs.Common.{◌≤◌, ap, arith, widths}
use Rattle.archetype_store.proofs.WorldShape.{world-set}
use Rattle.archetype_store.proofs.store.World.set_res.Goals as goal

pub invariant_of-self : goal.invariant_of-self
invariant_of-self c =
    let in_time : c.args.tick ≤ c.self.inside.clock = omega (arith, c.requires, ap (λ w. w.state.clock) c.self.view_is) in
    record { held = c.self.invariant.held; indexed = c.self.invariant.indexed; shape = rw c.set.ensures (world-set widths _ _ _ c.args.tick in_time c.self.invariant.shape) }
