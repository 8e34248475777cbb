use Rattle.archetype_store.proofs.Common.{◌≡◌, [], sym, ap, subst, ◌∙◌, IsWorld, World, widths, HasRows, store_seen, rows_seen, archetypes_of, StoreValue}
use Rattle.archetype_store.proofs.ColumnStandings.{alike_value}
use Rattle.archetype_store.proofs.TableIndex.{alike_indexed}
use Rattle.archetype_store.proofs.StoreKept.{seen_as}
use Rattle.archetype_store.proofs.store.World.copy.Goals as goal
use Rattle.archetype_store.proofs.store.World.copy.Goals.{After-copy-4}

-- the rows of the copy are the same, and so is what is seen of it
same : (c : After-copy-4) → rows_seen c.in_ok-rows.rows ≡ rows_seen c.self.inside.rows
same c = ap (archetypes_of c.in_ok-rows.rows.tables) c.in_ok-rows.ensures.places ∙ alike_value c.self.inside.rows.tables c.in_ok-rows.rows.tables c.self.inside.rows.places c.in_ok-rows.ensures.alike

whole : (c : After-copy-4) → store_seen c.in_ok-ids.ids c.in_ok-rows.rows c.copy-4.result c.self.inside.clock ≡ store_seen c.self.inside.ids c.self.inside.rows c.self.inside.resources c.self.inside.clock
whole c =
    let other : World = record { slots = []; resources = c.copy-4.result; clock = c.self.inside.clock } in
    ap (λ b. store_seen b c.in_ok-rows.rows c.copy-4.result c.self.inside.clock) c.in_ok-ids.ensures ∙ ap (seen_as c.self.inside.ids other) (same c)
    ∙ ap (λ r. store_seen c.self.inside.ids c.self.inside.rows r c.self.inside.clock) c.copy-4.ensures

pub invariant_of-result : goal.invariant_of-result
invariant_of-result c =
    let a = (goal.at.invariant_of-result c).After-copy-4 in
    let u = c.in_ok-rows.rows in
    record {
      held = subst (λ b. HasRows b (rows_seen u)) (sym c.in_ok-ids.ensures) (subst (HasRows c.self.inside.ids) (sym (same a)) c.self.invariant.held);
      indexed = c.in_ok-index.ensures u.tables (alike_indexed c.self.inside.rows.tables u.tables c.self.inside.index c.in_ok-rows.ensures.alike c.self.invariant.indexed);
      shape = subst (λ (x : StoreValue). IsWorld widths x.state) (sym (whole a)) c.self.invariant.shape;
    }

pub returns : goal.returns
returns c = whole (goal.at.returns c).After-copy-4 ∙ c.self.view_is
