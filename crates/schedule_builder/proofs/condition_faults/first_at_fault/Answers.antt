use Rattle.std.proofs.Common.{sym, arith}
use Rattle.schedule_builder.proofs.Askings.{good_next}
use Rattle.schedule_builder.proofs.FirstFound.{found_fault, no_fault}
use Rattle.schedule_builder.proofs.condition_faults.first_at_fault.Goals as goal

pub loop-number-preserved : goal.loop-number-preserved
loop-number-preserved c = good_next c.args.queries.now c.loop-number.number c.index-queries-number.result (omega arith) c.index-queries-number.is c.loop-number.invariant (sym c.in_default.ensures)

pub returns-in-Some : goal.returns-in-Some
returns-in-Some c = found_fault c.args.queries.now c.loop-number.number c.index-queries-number.result c.in-Some.case c.loop-number-test.true c.index-queries-number.is c.loop-number.invariant (sym c.in-Some.ensures)

pub returns : goal.returns
returns c = no_fault c.args.queries.now c.loop-number.number c.loop-number-test.false c.loop-number.invariant
