use Rattle.archetype_store.proofs.Common.{◌≡◌, ◌≤◌, nat_lt, map, length, ap, ap₂, sym, ◌∙◌, arith, sum_by, AllByRecursion, list_any, most_indices, living_count, numbers_with, first_numbers, lives_empty, entity_count, StoreValue, slots_seen, rows_seen, row_of, kinds_seen, entities_seen}
use Rattle.entity_table.proofs.Counting.{count-alike, count-length}
use Rattle.entity_table.proofs.WithRows.{lives_at-with_rows}
use Rattle.archetype_store.proofs.EmptyEntityCount.{AreOthers, entities_of, entities_seen_are, laid_living, more_live, others_seen}
use Rattle.archetype_store.proofs.LivingSets.{living_sets}
use Rattle.archetype_store.proofs.store.World.kind_sets.Goals as goal
use Rattle.archetype_store.proofs.store.World.kind_sets.Goals.{After-deref}

-- the views are of the archetypes
seen : (c : After-deref) → map entities_seen c.in_ok-views.views.items ≡ map (λ a. a.entities) c.args.self.now.layout
seen c = c.in_ok-views.ensures.entities

-- no two entities of one are one
others : (c : After-deref) → AllByRecursion (λ a. AreOthers a.entities) c.args.self.now.layout
others c = others_seen c.in_ok-views.views.items c.args.self.now.layout (seen c) c.in_ok-views.ensures.apart

-- how many entities they have
counted : (c : After-deref) → sum_by entity_count c.deref.result.now ≡ entities_of c.args.self.now.layout
counted c = ap (sum_by entity_count) c.deref.ensures.value ∙ entities_seen_are c.in_ok-views.views.items c.args.self.now.layout (seen c)

pub entities_in-requires : goal.entities_in-requires
entities_in-requires c =
    let a = (goal.at.entities_in-requires c).After-deref in
    let slots = c.args.self.now.state.slots in
    let few : length slots ≤ most_indices = rw (ap (λ (w : StoreValue). length w.state.slots) (sym c.self.view_is)) c.self.invariant.shape.few in
    omega (arith, few, count-length slots, laid_living slots c.args.self.now.layout c.prove_laid.ensures (others a), counted a)

pub returns : goal.returns
returns c =
    let a = (goal.at.returns c).After-deref in
    let book = c.self.inside.ids in
    let v = c.self.inside.rows in
    let slots = c.args.self.now.state.slots in
    let without : nat_lt c.entities_in.result c.living-living.result ≡ list_any lives_empty slots =
    ap₂ nat_lt (c.entities_in.ensures ∙ counted a) (c.living-living.ensures ∙ sym (count-alike (slots_seen book v) book (lives_at-with_rows (row_of (rows_seen v).rows) book)) ∙ ap (λ (w : StoreValue). living_count w.state.slots) c.self.view_is)
    ∙ more_live slots c.args.self.now.layout c.prove_laid.ensures (others a) in
    c.in_ok-sets.ensures
    ∙ ap₂ numbers_with
    (ap (map kinds_seen) c.deref-2.ensures.value ∙ c.in_ok-views.ensures.kinds)
    (ap first_numbers without)
    ∙ living_sets slots c.args.self.now.layout c.prove_laid.ensures
