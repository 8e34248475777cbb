use Rattle.column_store.proofs.Common.{◌+◌, ◌-◌, ap, ◌∙◌, arith, length-set, changed_stamp}
use Rattle.column_store.proofs.Fields.{stamps-more}
use Rattle.column_store.proofs.Lists.{set-changed}
use Rattle.column_store.proofs.stamped.mark_changed.Goals as goal

pub loop-i-preserved : goal.loop-i-preserved
loop-i-preserved c = record {
  size = length-set c.loop-i.stamps.items (c.args.from + c.loop-i.i) _ ∙ c.loop-i.invariant.size;
  room = c.loop-i.invariant.room;
  rest =
      stamps-more c.args.tick c.args.from c.loop-i.i c.args.count c.loop-i.stamps.items _ _ c.loop-i-test.true
      (set-changed (changed_stamp c.args.tick) c.loop-i.stamps.items (c.args.from + c.loop-i.i) c.index_mut.result.now _ (omega arith) (ap (changed_stamp c.args.tick) c.index_mut.ensures.value)) c.loop-i.invariant.rest;
}
