use Rattle.std.proofs.Common.{ap, sym, ◌∙◌}
use Rattle.model.specs.state.State.{is_granted}
use Rattle.entity_table.specs.Ids.{slot_at, living_count}
use Rattle.entity_table.proofs.Counting.{count-released}
use Rattle.entity_table.proofs.table.EntityTable.release_one.Goals as goal

pub invariant_of-self : goal.invariant_of-self
invariant_of-self c =
    let xs = c.self.inside.places.items in
    record {
      kept = c.free_in.ensures.kept;
      count = c.self.invariant.count
          ∙ sym (count-released c.args.index xs (ap (λ ys. is_granted (slot_at ys c.args.index).status) c.self.view_is ∙ c.requires))
          ∙ ap living_count (sym c.free_in.ensures.freed);
    }
