use Rattle.schedule_builder.proofs.Askings.{tells_any}
use Rattle.schedule_builder.proofs.condition_faults.is_writing.Goals as goal

pub returns : goal.returns
returns c = tells_any c.is_any_written.result c.terms.result.now c.args.query.now c.is_any_written.ensures c.terms.ensures
