use Rattle.archetype_store.proofs.Common.{◌≡◌, map, take, AllByRecursion, AreApart, OrdersRows, layout_of, kinds_seen, entities_seen}
use Rattle.archetype_store.proofs.tables.views_of.Given as goal

-- the tables so far are seen
abbrev pub invariant-loop-table : goal.invariant-loop-table
invariant-loop-table l = record {
  kinds : map kinds_seen l.views.items ≡ map (λ a. a.kinds) (layout_of (take l.table-index l.tables));
  entities : map entities_seen l.views.items ≡ map (λ a. a.entities) (layout_of (take l.table-index l.tables));
  apart : AllByRecursion (λ view. AreApart (entities_seen view)) l.views.items;
  order : AllByRecursion (λ view. OrdersRows (entities_seen view) view.order) l.views.items;
}
