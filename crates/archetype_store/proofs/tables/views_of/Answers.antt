use Rattle.archetype_store.proofs.Common.{sym, subst, ◌∙◌, AllByRecursion, each-append, AreApart, OrdersRows, kinds_seen, entities_seen}
use Rattle.archetype_store.proofs.TableLayouts.{view_passed, view_added}
use Rattle.archetype_store.proofs.tables.views_of.Goals as goal

-- a table without rows is passed over
pub loop-table-preserved-then-is_empty : goal.loop-table-preserved-then-is_empty
loop-table-preserved-then-is_empty c =
    let none = sym c.is_empty.ensures ∙ c.if-is_empty.true in
    let i = c.loop-table.table-index in
    record {
      kinds = view_passed (λ a. a.kinds) kinds_seen c.entities-entities.result.now c.args.tables.now i c.table-item.result c.loop-table.views.items c.loop-table-test.true c.table-item.is
          c.entities-entities.ensures.entities c.loop-table.invariant.kinds none;
      entities = view_passed (λ a. a.entities) entities_seen c.entities-entities.result.now c.args.tables.now i c.table-item.result c.loop-table.views.items c.loop-table-test.true c.table-item.is
          c.entities-entities.ensures.entities c.loop-table.invariant.entities none;
      apart = c.loop-table.invariant.apart;
      order = c.loop-table.invariant.order;
    }

-- one with rows is seen
pub loop-table-preserved : goal.loop-table-preserved
loop-table-preserved c =
    let some = sym c.is_empty.ensures ∙ c.if-is_empty.false in
    let i = c.loop-table.table-index in
    record {
      kinds = view_added (λ a. a.kinds) kinds_seen c.entities-entities.result.now c.args.tables.now i c.table-item.result c.loop-table.views.items c.loop-table-test.true c.table-item.is
          c.entities-entities.ensures.entities c.loop-table.invariant.kinds _ c.push.new.self.items some c.kinds.ensures.kinds c.in_ok-push.ensures.items;
      entities = view_added (λ a. a.entities) entities_seen c.entities-entities.result.now c.args.tables.now i c.table-item.result c.loop-table.views.items c.loop-table-test.true c.table-item.is
          c.entities-entities.ensures.entities c.loop-table.invariant.entities _ c.push.new.self.items some c.entities-entities.ensures.entities c.in_ok-push.ensures.items;
      apart = subst (AllByRecursion (λ view. AreApart (entities_seen view))) (sym c.in_ok-push.ensures.items)
          (each-append (λ view. AreApart (entities_seen view)) c.loop-table.views.items _ c.loop-table.invariant.apart (c.entities-entities.ensures.apart, tt));
      order = subst (AllByRecursion (λ view. OrdersRows (entities_seen view) view.order)) (sym c.in_ok-push.ensures.items)
          (each-append (λ view. OrdersRows (entities_seen view) view.order) c.loop-table.views.items _ c.loop-table.invariant.order
          (subst (λ es. OrdersRows es c.order.result) (sym c.entities-entities.ensures.entities) c.order.ensures, tt));
    }
