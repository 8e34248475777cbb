use Rattle.schedule_builder.proofs.Exits.{told, told_memory}
use Rattle.schedule_builder.proofs.builder.resolved.Goals as goal

pub returns-in_err-places-clause-refused : goal.returns-in_err-places-clause-refused
returns-in_err-places-clause-refused c = told_memory c.from_residual.result c.args.desc.now c.from_residual.ensures.1

pub returns-in_err-resolved-clause-refused : goal.returns-in_err-resolved-clause-refused
returns-in_err-resolved-clause-refused c = told c.from_residual-in_err-resolved.result c.args.desc.now c.in_err-resolved.field-0.0 c.from_residual-in_err-resolved.ensures.1 c.in_err-resolved.ensures.refused

pub returns-in_err-name_at-in-Some-clause-refused : goal.returns-in_err-name_at-in-Some-clause-refused
returns-in_err-name_at-in-Some-clause-refused c = told_memory c.from_residual-in_err-name_at-in-Some.result c.args.desc.now c.from_residual-in_err-name_at-in-Some.ensures.1
