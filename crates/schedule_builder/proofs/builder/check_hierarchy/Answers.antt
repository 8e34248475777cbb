use Rattle.std.proofs.Common.{ℕ, List, subst, ap, ◌∙◌}
use Rattle.model.specs.declarations.Hierarchy.{Hierarchy, HasNoSelf, IsFirstSelf, HasNoSetCycle, IsReportedSetCycle}
use Rattle.model.specs.declarations.Refusals.{names_of}
use Rattle.system_set.specs.declared.fault.HierarchyFault.{HierarchyFault}
use Rattle.system_set.specs.Pairs.{IsHierarchyFault}
use Rattle.schedule_builder.proofs.Orderings.{self_known, sets_known}
use Rattle.schedule_builder.proofs.Exits.{told_memory}
use Rattle.schedule_builder.proofs.builder.check_hierarchy.Goals as goal

pub name_at-requires : goal.name_at-requires
name_at-requires c = self_known c.args.desc.now c.in-Err-Loop.set c.requires.whole (subst (λ (h : Hierarchy). IsFirstSelf h c.in-Err-Loop.set) c.requires.declared
    (subst (λ (f : HierarchyFault). IsHierarchyFault c.args.hierarchy.now f) c.in-Err-Loop.field-0-is c.in-Err-Loop.ensures.fault))

pub names_at-requires : goal.names_at-requires
names_at-requires c =
    let told = subst (λ (h : Hierarchy). HasNoSelf h × IsReportedSetCycle h c.in-Err-Cycle.sets.items) c.requires.declared
    (subst (λ (f : HierarchyFault). IsHierarchyFault c.args.hierarchy.now f) c.in-Err-Cycle.field-0-is c.in-Err-Cycle.ensures.fault) in
    rw c.as_slice.ensures.value (sets_known c.args.desc.now c.in-Err-Cycle.sets.items c.requires.whole told.1.cycle)

pub returns-in-Ok-clause-nested : goal.returns-in-Ok-clause-nested
returns-in-Ok-clause-nested c = record {
  named = c.requires.named;
  no_self = subst (λ (h : Hierarchy). HasNoSelf h) c.requires.declared c.in-Ok.ensures.no_self;
  no_cycle = subst (λ (h : Hierarchy). HasNoSetCycle h) c.requires.declared c.in-Ok.ensures.no_cycle;
}

pub returns-in_ok-names_at-in-Err-Cycle-clause-refused : goal.returns-in_ok-names_at-in-Err-Cycle-clause-refused
returns-in_ok-names_at-in-Err-Cycle-clause-refused c =
    let d = c.args.desc.now in
    let items : List ℕ = c.in-Err-Cycle.sets.items in
    let told = subst (λ (h : Hierarchy). HasNoSelf h × IsReportedSetCycle h items) c.requires.declared
    (subst (λ (f : HierarchyFault). IsHierarchyFault c.args.hierarchy.now f) c.in-Err-Cycle.field-0-is c.in-Err-Cycle.ensures.fault) in
    (c.requires.named, told.0, (items, told.1, c.in_ok-names_at-in-Err-Cycle.ensures ∙ ap (names_of d) c.as_slice.ensures.value))

pub returns-in_err-name_at-in-Err-Loop-clause-refused : goal.returns-in_err-name_at-in-Err-Loop-clause-refused
returns-in_err-name_at-in-Err-Loop-clause-refused c = told_memory c.from_residual.result c.args.desc.now c.from_residual.ensures.1

pub returns-in_err-names_at-in-Err-Cycle-clause-refused : goal.returns-in_err-names_at-in-Err-Cycle-clause-refused
returns-in_err-names_at-in-Err-Cycle-clause-refused c = told_memory c.from_residual-in_err-names_at-in-Err-Cycle.result c.args.desc.now c.from_residual-in_err-names_at-in-Err-Cycle.ensures.1
