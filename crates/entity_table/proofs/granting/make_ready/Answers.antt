use Rattle.std.proofs.Common.{◌<◌, length, sym, subst, refl, ◌∙◌, arith}
use Rattle.std.proofs.lemmas.List.{length-set}
use Rattle.entity_table.proofs.Turns.{emptied_more, roomy_more}
use Rattle.entity_table.proofs.granting.make_ready.Goals as goal

pub loop-place-preserved : goal.loop-place-preserved
loop-place-preserved c =
    let lists = c.loop-place.lists.items in
    let place = c.loop-place.place in
    let list = c.make_empty.new.list in
    let known = c.loop-place.invariant in
    let within : place < length lists = subst (λ n. place < n) (sym known.many) c.loop-place-test.true in
    record {
      many = length-set lists place list ∙ known.many;
      empty = emptied_more lists place list within c.make_empty.ensures.empty known.empty;
      room = roomy_more c.args.counts.now lists place _ list within refl c.in_ok-make_empty.ensures.room known.room;
    }

pub returns : goal.returns
returns c = record {
  many = c.loop-place.invariant.many;
  empty = λ k d from within. c.loop-place.invariant.empty k d (omega (arith, within, c.loop-place-test.false));
  room = λ k d from within. c.loop-place.invariant.room k d (omega (arith, within, c.loop-place-test.false));
}
