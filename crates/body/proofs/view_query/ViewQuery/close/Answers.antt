use Rattle.std.proofs.Common.{◌≡◌, map, subst}
use Rattle.model.specs.shown.Outcome.{words_in_query}
use Rattle.body.specs.Columns.{column_after}
use Rattle.body.specs.Sheet.{Sheet, WritesReach}
use Rattle.body.specs.HeldColumns.{held_seen, slots_seen}
use Rattle.body.proofs.SheetCloses.{columns-closed, reach}
use Rattle.body.proofs.view_query.ViewQuery.close.Goals as goal

pub returns-clause-columns : goal.returns-clause-columns
returns-clause-columns c =
    let p = c.self.inside.source in
    subst (λ (s : Sheet). map held_seen c.self.inside.columns.items ≡ map (column_after s.tick (words_in_query s.terms s.rows s.cells)) s.taken) c.self.view_is
    (columns-closed p.tick p.query.value (map slots_seen p.slots.items) p.rows (map held_seen c.self.inside.taken.value.items) (map held_seen c.self.inside.columns.items) c.self.invariant)

pub returns-clause-reach : goal.returns-clause-reach
returns-clause-reach c =
    let p = c.self.inside.source in
    subst (λ (s : Sheet). WritesReach (words_in_query s.terms s.rows s.cells) s.taken) c.self.view_is
    (reach p.tick p.query.value (map slots_seen p.slots.items) p.rows (map held_seen c.self.inside.taken.value.items) (map held_seen c.self.inside.columns.items) c.self.invariant)
