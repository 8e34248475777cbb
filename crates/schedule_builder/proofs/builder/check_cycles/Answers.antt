use Rattle.std.proofs.Common.{ℕ, List, Option, Vec, subst}
use Rattle.std.specs.declared.alloc.Global.{Global}
use Rattle.model.specs.declarations.Declarations.{hierarchy_of, declared_orders}
use Rattle.model.specs.declarations.Edges.{IsReportedCycle}
use Rattle.system_set.specs.Pairs.{pairs_of}
use Rattle.system_set.specs.Nodes.{TellsCycle}
use Rattle.schedule_builder.proofs.Orderings.{items_known, told_of}
use Rattle.schedule_builder.proofs.Exits.{told_memory}
use Rattle.schedule_builder.proofs.builder.check_cycles.Goals as goal

pub names_at-requires : goal.names_at-requires
names_at-requires c =
    let d = c.args.desc.now in
    let items : List ℕ = c.in-Some.items.items in
    let told = subst (λ (o : Option (Vec ℕ Global)). TellsCycle c.args.hierarchy.now (pairs_of c.args.orders.now) o) c.in-Some.is c.in_ok-cycle.ensures in
    let here = told_of (λ h ps. IsReportedCycle h ps items) c.args.hierarchy.now (hierarchy_of d) (pairs_of c.args.orders.now) (declared_orders d) c.requires.declared c.requires.orders.ordered told in
    rw c.as_slice.ensures.value (items_known d items c.requires.whole here.cycle)

pub returns-in_err-cycle-clause-refused : goal.returns-in_err-cycle-clause-refused
returns-in_err-cycle-clause-refused c = told_memory c.from_residual.result c.args.desc.now c.from_residual.ensures.1

pub returns-in_err-names_at-in-Some-clause-refused : goal.returns-in_err-names_at-in-Some-clause-refused
returns-in_err-names_at-in-Some-clause-refused c = told_memory c.from_residual-in_err-names_at-in-Some.result c.args.desc.now c.from_residual-in_err-names_at-in-Some.ensures.1
