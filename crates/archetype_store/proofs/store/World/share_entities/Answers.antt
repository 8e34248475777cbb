use Rattle.archetype_store.proofs.Common.{◌≡◌, IfOk, subst, ◌∙◌, sym, arc_value, IfOk-weaker, archetype_at, StoreValue}
use Rattle.archetype_store.proofs.ArchetypeColumns.{entities_there}
use Rattle.archetype_store.proofs.store.World.share_entities.Goals as goal

pub returns-clause-entities : goal.returns-clause-entities
returns-clause-entities c =
    let T = c.self.inside.rows.tables in
    let at = c.in-Some.ensures T c.self.invariant.indexed in
    subst (λ (v : StoreValue). IfOk c.share_entities.result (λ list. (arc_value list).items ≡ (archetype_at v.layout c.args.archetype).entities)) c.self.view_is
    (IfOk-weaker c.share_entities.result _ _ (λ list h. h ∙ sym (entities_there T c.args.archetype c.in-Some.table at)) c.share_entities.ensures.entities)
