use Rattle.std.proofs.Common.{ℕ, Bool, ◌&&◌, ◌==◌, List, get_or, sym, ap, ◌∙◌}
use Rattle.std.proofs.lemmas.Bool.{eq-eqb, ne_eqb}
use Rattle.cycle_search.specs.declared.order.Order.{Order}
use Rattle.schedule_builder.specs.Levels.{has_commands}
use Rattle.schedule_builder.proofs.LoopSteps.{found_next, passed_next}
use Rattle.schedule_builder.proofs.levels.deferring_before.Goals as goal
use Rattle.schedule_builder.proofs.levels.deferring_before.Goals.{then-order-number+then-has_commands+in_ok-push, else-order-number, else-order-number-via-then-order-number+else-has_commands, else-order-number-via-else-order-number}

pub loop-order-preserved : goal.loop-order-preserved
loop-order-preserved c =
    let orders : List Order = c.args.plain.now in
    let i : ℕ = c.loop-order.order-index in
    let n : ℕ = c.args.number in
    let d : Order = record { first = 0; second = 0 } in
    let o : Order = get_or orders i d in
    let commands : Bool = has_commands c.args.systems.now o.first in
    let first = λ (r : Order). r.first in
    let passes = λ (r : Order). (r.second == n) && has_commands c.args.systems.now r.first in
    elim c.if-order-number.branch [
      | then-order-number+then-has_commands+in_ok-push w ↦
          found_next first passes orders i d c.loop-order.found.items c.if-order-number.found.items c.loop-order-test.true
          (ap (λ (b : Bool). b && commands) (eq-eqb o.second n w.if-order-number.true) ∙ sym w.if-has_commands.ensures) c.loop-order.invariant (ap (λ v. v.items) w.found-is ∙ w.in_ok-push.ensures.items)
      | else-order-number w ↦
          ap (λ v. v.items) w.found-is
          ∙ passed_next first passes orders i d c.loop-order.found.items c.loop-order-test.true
          (elim w.else-order-number.branch [
            | else-order-number-via-then-order-number+else-has_commands v ↦ ap (λ (b : Bool). b && commands) (eq-eqb o.second n v.if-order-number.true) ∙ sym v.if-has_commands.ensures
            | else-order-number-via-else-order-number v ↦ ap (λ (b : Bool). b && commands) (ne_eqb o.second n v.if-order-number.false)
          ])
          c.loop-order.invariant
    ]
