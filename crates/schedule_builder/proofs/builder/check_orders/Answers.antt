use Rattle.schedule_builder.proofs.Exits.{told}
use Rattle.schedule_builder.proofs.builder.check_orders.Goals as goal

pub returns-in_err-check_loops-clause-refused : goal.returns-in_err-check_loops-clause-refused
returns-in_err-check_loops-clause-refused c = told c.from_residual.result c.args.desc.now c.in_err-check_loops.field-0.0 c.from_residual.ensures.1 c.in_err-check_loops.ensures.refused

pub returns-in_err-check_crossings-clause-refused : goal.returns-in_err-check_crossings-clause-refused
returns-in_err-check_crossings-clause-refused c = told c.from_residual-in_err-check_crossings.result c.args.desc.now c.in_err-check_crossings.field-0.0 c.from_residual-in_err-check_crossings.ensures.1 c.in_err-check_crossings.ensures.refused

pub returns-in_err-check_sharing-clause-refused : goal.returns-in_err-check_sharing-clause-refused
returns-in_err-check_sharing-clause-refused c = told c.from_residual-in_err-check_sharing.result c.args.desc.now c.in_err-check_sharing.field-0.0 c.from_residual-in_err-check_sharing.ensures.1 c.in_err-check_sharing.ensures.refused
