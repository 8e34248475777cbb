use Rattle.std.proofs.Common.{map, ap, ◌∙◌, arith}
use Rattle.schedule_builder.proofs.Askings.{reading_next, reading_all}
use Rattle.schedule_builder.proofs.FirstFound.{found_writing}
use Rattle.schedule_builder.proofs.condition_faults.first_writing.Goals as goal

pub loop-number-preserved : goal.loop-number-preserved
loop-number-preserved c =
    reading_next c.args.conditions.now c.loop-number.number c.index-conditions-number.result (map (λ q. q.now) c.as_slice.result.now) (omega arith) c.index-conditions-number.is
    (ap (map (λ q. q.now)) c.as_slice.ensures.value ∙ c.in_ok-queries.ensures) c.loop-number.invariant c.if-has_writing.ensures

pub returns : goal.returns
returns c = reading_all c.args.conditions.now c.loop-number.number (omega arith) c.loop-number.invariant

pub returns-then-has_writing : goal.returns-then-has_writing
returns-then-has_writing c =
    found_writing c.args.conditions.now c.loop-number.number c.index-conditions-number.result (map (λ q. q.now) c.as_slice.result.now) c.loop-number-test.true c.index-conditions-number.is
    (ap (map (λ q. q.now)) c.as_slice.ensures.value ∙ c.in_ok-queries.ensures) c.loop-number.invariant c.if-has_writing.ensures
