use Rattle.std.proofs.Common.{ℕ, List, Option, Vec, Some, None, sym, subst}
use Rattle.std.specs.declared.alloc.Global.{Global}
use Rattle.model.specs.declarations.Hierarchy.{Hierarchy, IsHeld, HasNoSelf, HasNoSetCycle, IsReportedSetCycle}
use Rattle.cycle_search.specs.declared.order.Order.{Order}
use Rattle.cycle_search.specs.Cycles.{TellsRound, IsRankable}
use Rattle.system_set.proofs.Circles.{no_set_cycle, told_set_cycle, held_rankable}
use Rattle.system_set.proofs.hierarchy.SetHierarchy.check_circles.Goals as goal

pub returns-in-None-clause-no_cycle : goal.returns-in-None-clause-no_cycle
returns-in-None-clause-no_cycle c =
    let orders : List Order = c.self.inside.inside.items in
    let told = subst (λ (o : Option (Vec ℕ Global)). TellsRound c.as_slice.result.now o) c.in-None.is c.in_ok-find_cycle.ensures in
    subst (λ (h : Hierarchy). HasNoSetCycle h) c.self.view_is
    (no_set_cycle c.self.inside.sets c.self.inside.items orders (subst (λ (xs : List Order). TellsRound xs None) c.as_slice.ensures.value told))

pub returns-in-None-clause-ranked : goal.returns-in-None-clause-ranked
returns-in-None-clause-ranked c =
    let orders : List Order = c.self.inside.inside.items in
    let told = subst (λ (o : Option (Vec ℕ Global)). TellsRound c.as_slice.result.now o) c.in-None.is c.in_ok-find_cycle.ensures in
    subst (λ (h : Hierarchy). IsRankable (IsHeld h)) c.self.view_is
    (held_rankable c.self.inside.sets c.self.inside.items orders (subst (λ (xs : List Order). TellsRound xs None) c.as_slice.ensures.value told))

pub returns-in-Some-clause-fault : goal.returns-in-Some-clause-fault
returns-in-Some-clause-fault c =
    let orders : List Order = c.self.inside.inside.items in
    let items = c.in-Some.items in
    let told = subst (λ (o : Option (Vec ℕ Global)). TellsRound c.as_slice.result.now o) c.in-Some.is c.in_ok-find_cycle.ensures in
    let here = subst (λ (xs : List Order). TellsRound xs (Some items)) c.as_slice.ensures.value told in
    let none = subst (λ (h : Hierarchy). HasNoSelf h) (sym c.self.view_is) c.requires in
    (c.requires, subst (λ (h : Hierarchy). IsReportedSetCycle h items.items) c.self.view_is (told_set_cycle c.self.inside.sets c.self.inside.items orders none items.items here.0 here.1))
