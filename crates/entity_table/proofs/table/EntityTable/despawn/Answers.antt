use Rattle.std.proofs.Common.{◌≡◌, suc, true, ap, ◌∙◌, arith}
use Rattle.std.proofs.lemmas.Bool.{and_parts}
use Rattle.model.specs.Lists.{update_at}
use Rattle.model.specs.state.Commands.{freed}
use Rattle.model.specs.state.State.{is_living}
use Rattle.std.specs.Prelude.{◌==◌}
use Rattle.entity_table.specs.Ids.{slot_at, lives_at, living_count}
use Rattle.entity_table.proofs.Counting.{count-less}
use Rattle.entity_table.proofs.Releases.{lives-freed}
use Rattle.entity_table.proofs.table.EntityTable.despawn.Goals as goal
use Rattle.entity_table.proofs.table.EntityTable.despawn.Goals.{After-free_in}

-- one less lives
less : (c : After-free_in) → living_count c.self.inside.places.items ≡ suc (living_count (update_at c.args.e.index freed c.self.inside.places.items))
less c =
    let xs = c.self.inside.places.items in
    let place = slot_at c.args.self.now c.args.e.index in
    let lives : lives_at xs c.args.e.index ≡ true =
    ap (λ ys. lives_at ys c.args.e.index) c.self.view_is ∙ (and_parts (is_living place.status) (place.generation == c.args.e.generation) c.requires).0 in
    count-less freed c.args.e.index xs lives (lives-freed (slot_at xs c.args.e.index))

pub overflow_sub-self : goal.overflow_sub-self
overflow_sub-self c = let e = less (goal.at.overflow_sub-self c).After-free_in in omega (arith, e, c.self.invariant.count)

pub invariant_of-self : goal.invariant_of-self
invariant_of-self c =
    let e = less (goal.at.invariant_of-self c).After-free_in in
    let kept = ap living_count c.free_in.ensures.freed in
    record {
      kept = c.free_in.ensures.kept;
      count = omega (arith, e, kept, c.self.invariant.count);
    }
