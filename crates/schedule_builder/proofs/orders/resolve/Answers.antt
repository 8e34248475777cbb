use Rattle.std.proofs.lemmas.Result.{err_from_is_err_and}
use Rattle.schedule_builder.proofs.Lookups.{lacking_answered}
use Rattle.schedule_builder.proofs.Exits.{told_memory}
use Rattle.schedule_builder.proofs.orders.resolve.Goals as goal

pub returns-in_err-check_all_names-clause-refused : goal.returns-in_err-check_all_names-clause-refused
returns-in_err-check_all_names-clause-refused c =
    let p = err_from_is_err_and c.from_residual.result c.from_residual.ensures.1 in
    rw (p.1, p.2) (lacking_answered c.args.desc.now c.in_err-check_all_names.field-0.0 c.in_err-check_all_names.ensures.lacking)

pub returns-in_err-inside_of-clause-refused : goal.returns-in_err-inside_of-clause-refused
returns-in_err-inside_of-clause-refused c = told_memory c.from_residual-in_err-inside_of.result c.args.desc.now c.from_residual-in_err-inside_of.ensures.1

pub returns-in_err-orders_of-clause-refused : goal.returns-in_err-orders_of-clause-refused
returns-in_err-orders_of-clause-refused c = told_memory c.from_residual-in_err-orders_of.result c.args.desc.now c.from_residual-in_err-orders_of.ensures.1

pub returns-in_err-plain_orders_of-clause-refused : goal.returns-in_err-plain_orders_of-clause-refused
returns-in_err-plain_orders_of-clause-refused c = told_memory c.from_residual-in_err-plain_orders_of.result c.args.desc.now c.from_residual-in_err-plain_orders_of.ensures.1

pub returns-in_err-silences_of-clause-refused : goal.returns-in_err-silences_of-clause-refused
returns-in_err-silences_of-clause-refused c = told_memory c.from_residual-in_err-silences_of.result c.args.desc.now c.from_residual-in_err-silences_of.ensures.1
