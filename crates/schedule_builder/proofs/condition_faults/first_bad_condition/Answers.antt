use Rattle.std.proofs.Common.{map, ap, ◌∙◌, arith}
use Rattle.schedule_builder.proofs.Askings.{good_conditions_next}
use Rattle.schedule_builder.proofs.FirstFound.{found_bad, all_good}
use Rattle.schedule_builder.proofs.condition_faults.first_bad_condition.Goals as goal

pub loop-number-preserved : goal.loop-number-preserved
loop-number-preserved c =
    good_conditions_next c.args.conditions.now c.loop-number.number c.index-conditions-number.result (map (λ q. q.now) c.as_slice.result.now) (omega arith) c.index-conditions-number.is
    (ap (map (λ q. q.now)) c.as_slice.ensures.value ∙ c.in_ok-queries.ensures) c.loop-number.invariant c.in_default.ensures

pub returns-in-Some : goal.returns-in-Some
returns-in-Some c =
    found_bad c.args.conditions.now c.loop-number.number c.index-conditions-number.result (map (λ q. q.now) c.as_slice.result.now) c.in-Some.query c.in-Some.case c.loop-number-test.true c.index-conditions-number.is
    (ap (map (λ q. q.now)) c.as_slice.ensures.value ∙ c.in_ok-queries.ensures) c.loop-number.invariant c.in-Some.ensures

pub returns : goal.returns
returns c = all_good c.args.conditions.now c.loop-number.number c.loop-number-test.false c.loop-number.invariant
