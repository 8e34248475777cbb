use Rattle.schedule_builder.proofs.Exits.{told, told_memory}
use Rattle.schedule_builder.proofs.builder.check_systems.Goals as goal

pub returns-in_err-check_self_conflicts-clause-refused : goal.returns-in_err-check_self_conflicts-clause-refused
returns-in_err-check_self_conflicts-clause-refused c = told c.from_residual.result c.args.desc.now c.in_err-check_self_conflicts.field-0.0 c.from_residual.ensures.1 c.in_err-check_self_conflicts.ensures.refused

pub returns-in_err-check_queries-clause-refused : goal.returns-in_err-check_queries-clause-refused
returns-in_err-check_queries-clause-refused c = told c.from_residual-in_err-check_queries.result c.args.desc.now c.in_err-check_queries.field-0.0 c.from_residual-in_err-check_queries.ensures.1 c.in_err-check_queries.ensures.refused

pub returns-in_err-conditions-clause-refused : goal.returns-in_err-conditions-clause-refused
returns-in_err-conditions-clause-refused c = told_memory c.from_residual-in_err-conditions.result c.args.desc.now c.from_residual-in_err-conditions.ensures.1

pub returns-in_err-check_condition_queries-clause-refused : goal.returns-in_err-check_condition_queries-clause-refused
returns-in_err-check_condition_queries-clause-refused c = told c.from_residual-in_err-check_condition_queries.result c.args.desc.now c.in_err-check_condition_queries.field-0.0 c.from_residual-in_err-check_condition_queries.ensures.1 c.in_err-check_condition_queries.ensures.refused

pub returns-in_err-check_reading-clause-refused : goal.returns-in_err-check_reading-clause-refused
returns-in_err-check_reading-clause-refused c = told c.from_residual-in_err-check_reading.result c.args.desc.now c.in_err-check_reading.field-0.0 c.from_residual-in_err-check_reading.ensures.1 c.in_err-check_reading.ensures.refused
