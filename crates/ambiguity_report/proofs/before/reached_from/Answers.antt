use Rattle.std.proofs.Common.{ℕ, ◌<◌, ◌≤◌, ◌≡◌, List, length, get_or, ap, arith}
use Rattle.std.proofs.Math.ListN.{length-set}
use Rattle.ambiguity_report.proofs.Reaching.{order_known, marked_step, marked_all}
use Rattle.ambiguity_report.proofs.before.reached_from.Goals as goal

pub predecessors-requires : goal.predecessors-requires
predecessors-requires c =
    order_known c.args.built.now c.prove_law.ensures c.order-number-items.result.now c.order-number-items.ensures c.loop-number.number-index c.loop-number-test.true

pub bounds-reached-place : goal.bounds-reached-place
bounds-reached-place c =
    let known : get_or c.order-number-items.result.now c.loop-number.number-index 0 < length c.args.built.now.systems
    = order_known c.args.built.now c.prove_law.ensures c.order-number-items.result.now c.order-number-items.ensures c.loop-number.number-index c.loop-number-test.true in
    let few : length c.args.built.now.systems ≤ 256 = c.prove_law.ensures.few_systems in
    omega arith

pub loop-number-preserved : goal.loop-number-preserved
loop-number-preserved c = record {
  room = simp length-set c.loop-number.invariant.room;
  marks = marked_step c.args.built.now c.prove_law.ensures c.order-number-items.result.now c.order-number-items.ensures c.args.first c.loop-number.number-index c.loop-number.reached
      c.predecessors.result.now c.any_marked-next.result c.loop-number-test.true c.loop-number.invariant.room c.predecessors.ensures c.any_marked-next.ensures c.loop-number.invariant.marks;
}

pub returns : goal.returns
returns c =
    let many : length c.order-number-items.result.now ≡ length c.args.built.now.order = ap (λ (xs : List ℕ). length xs) c.order-number-items.ensures in
    let past : length c.args.built.now.order ≤ c.loop-number.number-index = omega (arith, c.loop-number-test.false) in
    marked_all c.args.built.now c.prove_law.ensures c.args.first c.loop-number.number-index c.loop-number.reached past c.loop-number.invariant.marks
