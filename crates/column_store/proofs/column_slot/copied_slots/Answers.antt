use Rattle.column_store.proofs.Common.{◌≡◌, ◌+◌, ◌≤◌, List, length, map, sym, ap, subst, ◌∙◌, ColumnSlotValue, Owned, standing_at, seen_slot}
use Rattle.column_store.proofs.Turns.{matched-more-twice, all_seen}
use Rattle.column_store.proofs.column_slot.copied_slots.Goals as goal

pub loop-column-preserved : goal.loop-column-preserved
loop-column-preserved c = record {
  same =
      matched-more-twice seen_slot (standing_at Owned) seen_slot c.args.columns.now c.loop-column.copies.items c.push_reserved.new.self.items c.loop-column.column-index
      c.column-item.result c.in_ok-copy.field-0
      c.loop-column-test.true c.column-item.is c.in_ok-copy.ensures c.loop-column.invariant.same c.push_reserved.ensures.items;
  many = c.push_reserved.ensures.len ∙ ap (λ n. n + 1) c.loop-column.invariant.many;
  room = subst (λ n. length c.args.columns.now ≤ n) (sym c.push_reserved.ensures.capacity) c.loop-column.invariant.room;
}

pub returns : goal.returns
returns c =
    all_seen (λ (ps : List ColumnSlotValue). map seen_slot c.loop-column.copies.items ≡ map (standing_at Owned) (map seen_slot ps)) c.args.columns.now c.loop-column.column-index
    c.loop-column-test.false c.loop-column.invariant.same
