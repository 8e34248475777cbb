use Rattle.std.proofs.Common.{ap, sym, get_or, ◌∙◌, ◌==◌, cond, Some}
use Rattle.command_queue.proofs.Turns.{place_taken}
use Rattle.command_queue.proofs.pending.places_of.Goals as goal

pub loop-place-preserved : goal.loop-place-preserved
loop-place-preserved c = record {
  told = λ q.
      let n = c.loop-place.place in
      c.in_ok-insert.ensures q
      ∙ ap (cond ((get_or c.args.changes.now n c.index-changes-place.result).entity.index == q) (Some n)) (c.loop-place.invariant.told q)
      ∙ sym (place_taken q c.args.changes.now n c.index-changes-place.result c.requires c.loop-place-test.true);
}
