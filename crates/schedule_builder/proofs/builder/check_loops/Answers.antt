use Rattle.std.proofs.Common.{subst}
use Rattle.model.specs.declarations.Edges.{IsLoop}
use Rattle.schedule_builder.proofs.Orderings.{loop_known}
use Rattle.schedule_builder.proofs.Exits.{told_memory}
use Rattle.schedule_builder.proofs.builder.check_loops.Goals as goal

pub name_at-requires : goal.name_at-requires
name_at-requires c = loop_known c.args.desc.now c.in-Some.item c.requires.whole (subst (λ ps. IsLoop ps c.in-Some.item) c.requires.orders.ordered c.in-Some.ensures)

pub returns-in-None-clause-no_loop : goal.returns-in-None-clause-no_loop
returns-in-None-clause-no_loop c = c.in-None.ensures

pub returns-in_err-name_at-in-Some-clause-refused : goal.returns-in_err-name_at-in-Some-clause-refused
returns-in_err-name_at-in-Some-clause-refused c = told_memory c.from_residual.result c.args.desc.now c.from_residual.ensures.1
