use Rattle.std.proofs.Common.{subst, sym}
use Rattle.archetype_store.proofs.ArchetypeColumns.{each_set}
use Rattle.body.specs.KeptPlans.{forms_of, AreOver}
use Rattle.body.proofs.plans.Plans.put.Goals as goal

pub invariant_of-self : goal.invariant_of-self
invariant_of-self c =
    let forms = forms_of c.self.inside.world.value.layout in
    each_set (λ plans. AreOver forms plans.items) c.reach.new.systems.items c.args.system c.args.plans (subst (λ fs. AreOver fs c.args.plans.items) (sym c.self.view_is) c.requires) (c.reach.ensures.over forms c.self.invariant)

pub invariant_of-self-else-reach : goal.invariant_of-self-else-reach
invariant_of-self-else-reach c = c.reach.ensures.over (forms_of c.self.inside.world.value.layout) c.self.invariant
