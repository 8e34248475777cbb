use Rattle.column_store.proofs.Common.{vec_len, sym, ◌∙◌}
use Rattle.column_store.proofs.Gaps.{moved_back, moved_other, not_yet_behind}
use Rattle.column_store.proofs.gap_list.move_gap.Goals as goal

pub loop-back-preserved : goal.loop-back-preserved
loop-back-preserved c =
    let inv = c.loop-back.invariant in
    record {
      items = sym (moved_back c.push_reserved.new.self.items c.pop.new.self.items c.loop-back.front.items c.loop-back.back.items c.in-Some.number c.push_reserved.ensures.items
          c.in-Some.ensures.items) ∙ inv.items;
      low = not_yet_behind c.args.place c.len.result (vec_len c.loop-back.front) (vec_len c.push_reserved.new.self) c.loop-back-test.true c.len.ensures c.push_reserved.ensures.len;
      many = moved_other (vec_len c.loop-back.front) (vec_len c.loop-back.back) (vec_len c.push_reserved.new.self) (vec_len c.pop.new.self) _ c.in-Some.ensures.len
          c.push_reserved.ensures.len inv.many;
      front_room = c.push_reserved.ensures.capacity ∙ inv.front_room;
      back_room = c.in-Some.ensures.capacity ∙ inv.back_room;
    }
