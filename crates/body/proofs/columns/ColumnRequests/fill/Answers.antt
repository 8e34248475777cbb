use Rattle.std.proofs.Common.{◌≡◌, false, List, map, get_or, ap, ◌∙◌}
use Rattle.std.proofs.lemmas.List.{get_or_default, take_all}
use Rattle.kinds.specs.declared.kind.Kind.TheVariants.{Position}
use Rattle.query_plan.specs.declared.picks.Pick.{Pick}
use Rattle.body.proofs.Pickings.{own-pushed, own-passed, read-pushed, read-passed}
use Rattle.std.proofs.lemmas.Result.{IfOk-from_err}
use Rattle.query_plan.specs.Picks.{pick_seen}
use Rattle.body.specs.Picked.{spot_of, picked_own, picked_read}
use Rattle.body.proofs.columns.ColumnRequests.fill.Goals as goal
use Rattle.body.proofs.columns.ColumnRequests.fill.Goals.{then-pick+in_ok-push, else-pick+in_ok-push-2}

pub loop-pick-preserved : goal.loop-pick-preserved
loop-pick-preserved c =
    let picks = c.args.picks.now in
    let i = c.loop-pick.pick-index in
    let d : Pick = record { archetype = 0; kind = Position; is_written = false } in
    let p = get_or picks i d in
    let is : p ≡ get_or picks i p = get_or_default picks i d p c.loop-pick-test.true in
    elim c.if-pick.branch [
      | then-pick+in_ok-push w ↦ record {
        own = rw (w.self-is) (own-pushed picks i p c.loop-pick-test.true is c.loop-pick.self.own.items w.push.new.self.items w.if-pick.true c.loop-pick.invariant.own w.in_ok-push.ensures.items);
        read = rw (w.self-is) (read-passed picks i p c.loop-pick-test.true is c.loop-pick.self.read.items w.if-pick.true c.loop-pick.invariant.read);
      }
      | else-pick+in_ok-push-2 w ↦ record {
        own = rw (w.self-is) (own-passed picks i p c.loop-pick-test.true is c.loop-pick.self.own.items w.if-pick.false c.loop-pick.invariant.own);
        read = rw (w.self-is) (read-pushed picks i p c.loop-pick-test.true is c.loop-pick.self.read.items w.push-else-pick.new.self.items w.if-pick.false c.loop-pick.invariant.read w.in_ok-push-2.ensures.items);
      }
    ]

pub returns-in_err-push-clause-own : goal.returns-in_err-push-clause-own
returns-in_err-push-clause-own c = IfOk-from_err c.from_residual.result _ c.from_residual.ensures.0

pub returns-in_err-push-clause-read : goal.returns-in_err-push-clause-read
returns-in_err-push-clause-read c = IfOk-from_err c.from_residual.result _ c.from_residual.ensures.0

pub returns-in_err-push-2-clause-own : goal.returns-in_err-push-2-clause-own
returns-in_err-push-2-clause-own c = IfOk-from_err c.from_residual-in_err-push-2.result _ c.from_residual-in_err-push-2.ensures.0

pub returns-in_err-push-2-clause-read : goal.returns-in_err-push-2-clause-read
returns-in_err-push-2-clause-read c = IfOk-from_err c.from_residual-in_err-push-2.result _ c.from_residual-in_err-push-2.ensures.0

pub returns-clause-own : goal.returns-clause-own
returns-clause-own c = c.loop-pick.invariant.own ∙ ap (λ (ps : List Pick). map spot_of (picked_own (map pick_seen ps))) (take_all c.loop-pick.pick-index c.args.picks.now c.loop-pick-test.false)

pub returns-clause-read : goal.returns-clause-read
returns-clause-read c = c.loop-pick.invariant.read ∙ ap (λ (ps : List Pick). map spot_of (picked_read (map pick_seen ps))) (take_all c.loop-pick.pick-index c.args.picks.now c.loop-pick-test.false)
