use Rattle.std.proofs.Common.{true, false, refl}
use Rattle.kinds.specs.Kind.{kind_number}
use Rattle.model.specs.access.Query.Term.{Added, Changed}
use Rattle.archetype_store.specs.Layout.{archetype_at}
use Rattle.query_plan.proofs.Stamps.{filter_is}
use Rattle.query_plan.proofs.filter.filter_of.Goals as goal

pub returns-in-Added-clause-some : goal.returns-in-Added-clause-some
returns-in-Added-clause-some c =
    rw (c.in-Added.is) (filter_is c.args.world.now.state.slots (archetype_at c.args.world.now.layout c.args.archetype).entities (kind_number c.in-Added.kind)
    (record { column = c.column.result; is_added = true }) (Added (kind_number c.in-Added.kind)) c.column.ensures.cells (λ last row. refl))

pub returns-in-Changed-clause-some : goal.returns-in-Changed-clause-some
returns-in-Changed-clause-some c =
    rw (c.in-Changed.is) (filter_is c.args.world.now.state.slots (archetype_at c.args.world.now.layout c.args.archetype).entities (kind_number c.in-Changed.kind)
    (record { column = c.column-in-Changed.result; is_added = false }) (Changed (kind_number c.in-Changed.kind)) c.column-in-Changed.ensures.cells (λ last row. refl))
