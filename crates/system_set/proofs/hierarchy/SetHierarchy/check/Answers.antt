use Rattle.std.proofs.Common.{List, length, Some, None, refl, subst}
use Rattle.model.specs.declarations.Hierarchy.{Hierarchy, HasNoSelf, IsFirstSelf}
use Rattle.cycle_search.specs.declared.order.Order.{Order}
use Rattle.system_set.specs.Pairs.{TellsSelf}
use Rattle.system_set.proofs.Circles.{no_self, first_self}
use Rattle.system_set.proofs.hierarchy.SetHierarchy.check.Goals as goal

pub returns-in-Some-clause-fault : goal.returns-in-Some-clause-fault
returns-in-Some-clause-fault c =
    subst (λ (h : Hierarchy). IsFirstSelf h c.in-Some.set) c.self.view_is
    (first_self c.self.inside.sets c.self.inside.items c.self.inside.inside.items c.in-Some.set
    (subst (λ (xs : List Order). TellsSelf xs (length xs) (Some c.in-Some.set)) c.as_slice.ensures.value c.in-Some.ensures))

pub check_circles-requires : goal.check_circles-requires
check_circles-requires c =
    subst (λ (h : Hierarchy). HasNoSelf h) c.self.view_is
    (no_self c.self.inside.sets c.self.inside.items c.self.inside.inside.items None refl
    (subst (λ (xs : List Order). TellsSelf xs (length xs) None) c.as_slice.ensures.value c.in-None.ensures))
