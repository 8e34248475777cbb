use Rattle.std.proofs.Common.{List, sym, subst}
use Rattle.model.specs.declarations.Hierarchy.{Hierarchy, IsHeld}
use Rattle.cycle_search.specs.declared.order.Order.{Order}
use Rattle.cycle_search.specs.Cycles.{IsStep, IsRankable}
use Rattle.system_set.proofs.Circles.{step_rankable}
use Rattle.system_set.proofs.hierarchy.SetHierarchy.cycle.Goals as goal

pub cycle_of_items-requires-clause-ranked : goal.cycle_of_items-requires-clause-ranked
cycle_of_items-requires-clause-ranked c =
    subst (λ (xs : List Order). IsRankable (IsStep xs)) (sym c.as_slice.ensures.value)
    (step_rankable c.self.inside.sets c.self.inside.items c.self.inside.inside.items (subst (λ (h : Hierarchy). IsRankable (IsHeld h)) (sym c.self.view_is) c.requires.ranked))
