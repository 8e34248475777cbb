use Rattle.column_store.proofs.Common.{◌+◌, pos, map, ◌∙◌, arith, to_z-of_z, length-set}
use Rattle.column_store.proofs.Fields.{write-more, all-written}
use Rattle.column_store.proofs.packs.write_in.Goals as goal

pub loop-i-preserved : goal.loop-i-preserved
loop-i-preserved g c = record {
  size = length-set c.loop-i.items.items (c.args.from + c.loop-i.i) c.with_word.result ∙ c.loop-i.invariant.size;
  room = c.loop-i.invariant.room;
  rest =
      write-more g.P.Packed.words g.P.Packed.WIDTH c.args.field c.args.from c.loop-i.i c.args.values.now (pos 0) _ c.loop-i.items.items c.index.result.now c.with_word.result _
      c.loop-i-test.true (omega arith) (search to_z-of_z) c.index.ensures c.with_word.ensures c.loop-i.invariant.rest;
}

pub returns-clause-words : goal.returns-clause-words
returns-clause-words g c = all-written g.P.Packed.WIDTH c.args.field (c.args.from + c.loop-i.i) c.loop-i.i c.args.values.now (map g.P.Packed.words c.loop-i.items.items) _ c.loop-i-test.false c.loop-i.invariant.rest
