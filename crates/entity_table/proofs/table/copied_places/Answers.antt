use Rattle.std.proofs.Common.{◌+◌, ◌≤◌, length, sym, ap, subst, ◌∙◌}
use Rattle.std.proofs.lemmas.List.{take_all}
use Rattle.entity_table.proofs.Turns.{copied_more}
use Rattle.entity_table.proofs.table.copied_places.Goals as goal

pub loop-place-preserved : goal.loop-place-preserved
loop-place-preserved c = record {
  same =
      copied_more c.args.places.now c.loop-place.copies.items c.push_reserved.new.self.items c.loop-place.place-index c.place-item.result c.copy.result
      c.loop-place-test.true c.place-item.is c.copy.ensures c.loop-place.invariant.same c.push_reserved.ensures.items;
  many = c.push_reserved.ensures.len ∙ ap (λ n. n + 1) c.loop-place.invariant.many;
  room = subst (λ n. length c.args.places.now ≤ n) (sym c.push_reserved.ensures.capacity) c.loop-place.invariant.room;
}

pub returns : goal.returns
returns c = c.loop-place.invariant.same ∙ take_all c.loop-place.place-index c.args.places.now c.loop-place-test.false
