use Rattle.schedule_builder.proofs.Exits.{told_memory}
use Rattle.schedule_builder.proofs.builder.check_queries.Goals as goal

pub returns-in_err-owner-in-Some-clause-refused : goal.returns-in_err-owner-in-Some-clause-refused
returns-in_err-owner-in-Some-clause-refused c = told_memory c.from_residual.result c.args.desc.now c.from_residual.ensures.1
