use Rattle.std.proofs.Common.{◌+◌, ◌≡◌, ◌++◌, suc, map, set, take, drop, ap, ◌∙◌, arith}
use Rattle.kinds.specs.declared.res.Event.{Event}
use Rattle.kinds.specs.Res.{event_number}
use Rattle.model.specs.state.Events.{queue_of}
use Rattle.body.proofs.States.{set-ends}
use Rattle.body.proofs.memory.move_to_ends.Goals as goal

pub loop-at-preserved : goal.loop-at-preserved
loop-at-preserved c =
    let at = c.loop-at.at in
    let ends = λ (kind : Event). (queue_of c.args.events.now (event_number kind)).next in
    ap (λ xs. set xs at c.next.result) c.loop-at.invariant
    ∙ set-ends ends c.args.reads.now c.args.cursors.now at c.next.result _ c.loop-at-test.true c.requires c.next.ensures.value
    ∙ ap (λ n. map ends (take n c.args.reads.now) ++ drop n c.args.cursors.now) (let e : suc at ≡ at + 1 = omega arith in e)
