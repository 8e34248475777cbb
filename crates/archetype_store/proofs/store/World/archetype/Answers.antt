use Rattle.archetype_store.proofs.Common.{sym, ap, ◌∙◌, archetype_at, kinds_at, entities_at, StoreValue}
use Rattle.archetype_store.proofs.ArchetypeColumns.{entities_there, kinds_there}
use Rattle.archetype_store.proofs.store.World.archetype.Goals as goal

pub returns-clause-kinds : goal.returns-clause-kinds
returns-clause-kinds c =
    let T = c.self.inside.rows.tables in
    let at = c.in-Some.ensures T c.self.invariant.indexed in
    c.view_at.ensures.kinds ∙ ap (λ ts. kinds_at ts c.in-Some.table) c.tables.ensures ∙ sym (kinds_there T c.args.archetype c.in-Some.table at)
    ∙ ap (λ (v : StoreValue). (archetype_at v.layout c.args.archetype).kinds) c.self.view_is

pub returns-clause-entities : goal.returns-clause-entities
returns-clause-entities c =
    let T = c.self.inside.rows.tables in
    let at = c.in-Some.ensures T c.self.invariant.indexed in
    c.view_at.ensures.entities ∙ ap (λ ts. entities_at ts c.in-Some.table) c.tables.ensures ∙ sym (entities_there T c.args.archetype c.in-Some.table at)
    ∙ ap (λ (v : StoreValue). (archetype_at v.layout c.args.archetype).entities) c.self.view_is
