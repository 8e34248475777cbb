use Rattle.std.proofs.Common.{arith}
use Rattle.schedule_builder.proofs.Askings.{unwriting_next}
use Rattle.schedule_builder.proofs.FirstFound.{some_writes, none_writes}
use Rattle.schedule_builder.proofs.condition_faults.has_writing.Goals as goal

pub loop-query-preserved : goal.loop-query-preserved
loop-query-preserved c = unwriting_next c.args.queries.now c.loop-query.query-index c.query-item.result (omega arith) c.query-item.is c.loop-query.invariant c.if-is_writing.ensures

pub returns-then-is_writing : goal.returns-then-is_writing
returns-then-is_writing c = some_writes c.args.queries.now c.loop-query.query-index c.query-item.result c.loop-query-test.true c.query-item.is c.if-is_writing.ensures

pub returns : goal.returns
returns c = none_writes c.args.queries.now c.loop-query.query-index c.loop-query-test.false c.loop-query.invariant
