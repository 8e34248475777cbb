use Rattle.std.proofs.Common.{ℕ, ◌-◌, ◌+◌, ◌<◌, ◌≤◌, ◌≡◌, length, get_or, drop, arith, subst}
use Rattle.std.proofs.Math.ListN.{length-set}
use Rattle.ambiguity_report.proofs.Reaching.{order_known}
use Rattle.ambiguity_report.proofs.Backwards.{AreMarkedBehind, behind_step}
use Rattle.ambiguity_report.proofs.before.reaching_to.Goals as goal

pub after-requires : goal.after-requires
after-requires c =
    let low : c.loop-place.place - 1 < length c.order-order.result.now = omega arith in
    order_known c.args.built.now c.prove_law.ensures c.order-order.result.now c.order-order.ensures (c.loop-place.place - 1) low

pub bounds-reaching-number : goal.bounds-reaching-number
bounds-reaching-number c =
    let low : c.loop-place.place - 1 < length c.order-order.result.now = omega arith in
    let known : get_or c.order-order.result.now (c.loop-place.place - 1) 0 < length c.args.built.now.systems
    = order_known c.args.built.now c.prove_law.ensures c.order-order.result.now c.order-order.ensures (c.loop-place.place - 1) low in
    let few : length c.args.built.now.systems ≤ 256 = c.prove_law.ensures.few_systems in
    omega arith

pub loop-place-preserved : goal.loop-place-preserved
loop-place-preserved c =
    let place : ℕ = c.loop-place.place - 1 in
    let low : place < length c.order-order.result.now = omega arith in
    let next_place : c.loop-place.place ≡ place + 1 = omega arith in
    record {
      room = simp length-set c.loop-place.invariant.room;
      marks = behind_step c.args.built.now c.prove_law.ensures c.order-order.result.now c.order-order.ensures c.args.last place c.loop-place.reaching
          c.after.result.now c.any_marked-next.result low c.loop-place.invariant.room c.after.ensures c.any_marked-next.ensures
          (subst (λ (k : ℕ). AreMarkedBehind c.args.built.now c.args.last (drop k c.args.built.now.order) c.loop-place.reaching) next_place c.loop-place.invariant.marks);
    }
