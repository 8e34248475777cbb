use Rattle.column_store.proofs.Common.{vec_len, ◌∙◌, arith}
use Rattle.column_store.proofs.Gaps.{moved_back, moved_many, not_yet_before}
use Rattle.column_store.proofs.gap_list.move_back.Goals as goal

pub loop-front-preserved : goal.loop-front-preserved
loop-front-preserved c =
    let inv = c.loop-front.invariant in
    record {
      items = moved_back c.loop-front.front.items c.loop-front.back.items c.pop.new.self.items c.push_reserved.new.self.items c.in-Some.number c.in-Some.ensures.items
          c.push_reserved.ensures.items ∙ inv.items;
      low = λ l. not_yet_before c.args.place c.len.result (vec_len c.loop-front.front) (vec_len c.pop.new.self) c.loop-front-test.true c.len.ensures c.in-Some.ensures.len;
      before = λ l. absurd (omega (arith, c.len.ensures, inv.before l, c.loop-front-test.true));
      many = moved_many (vec_len c.loop-front.front) (vec_len c.loop-front.back) (vec_len c.pop.new.self) (vec_len c.push_reserved.new.self) _ c.in-Some.ensures.len
          c.push_reserved.ensures.len inv.many;
      front_room = c.in-Some.ensures.capacity ∙ inv.front_room;
      back_room = c.push_reserved.ensures.capacity ∙ inv.back_room;
    }
