use Rattle.std.proofs.Common.{ℕ, ◌&&◌, Bool, false, List, get_or, sym, ap, ◌∙◌}
use Rattle.std.proofs.lemmas.List.{get_or_past}
use Rattle.std.proofs.lemmas.List.Folds.{list_all_more, list_all_at}
use Rattle.schedule_builder.proofs.schedule_order.are_placed.Goals as goal
use Rattle.schedule_builder.proofs.schedule_order.are_placed.Goals.{then-system-placed-via-then-system-placed, then-system-placed-via-else-system-placed+then-not-placed-system}

pub returns-then-system-placed : goal.returns-then-system-placed
returns-then-system-placed c =
    let placed : List Bool = c.args.placed.now in
    let systems : List ℕ = c.args.systems.now in
    let i : ℕ = c.loop-system.system-index in
    sym (list_all_at (λ m. get_or placed m false) systems i 0 c.loop-system-test.true (elim c.then-system-placed.branch [
      | then-system-placed-via-then-system-placed w ↦ get_or_past placed (get_or systems i 0) false w.if-system-placed.true
      | then-system-placed-via-else-system-placed+then-not-placed-system w ↦ w.if-not-placed-system.true
    ]))

pub loop-system-preserved : goal.loop-system-preserved
loop-system-preserved c =
    let placed : List Bool = c.args.placed.now in
    let systems : List ℕ = c.args.systems.now in
    let i : ℕ = c.loop-system.system-index in
    list_all_more (λ m. get_or placed m false) systems i 0 c.loop-system-test.true
    ∙ (ap (λ (b : Bool). b && get_or placed (get_or systems i 0) false) c.loop-system.invariant ∙ c.if-not-placed-system.false)
