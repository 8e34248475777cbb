use Rattle.column_store.proofs.Common.{◌∙◌, arith, to_z-of_z, length-set}
use Rattle.column_store.proofs.Fields.{read-more}
use Rattle.column_store.proofs.packs.read_in.Goals as goal

pub loop-i-preserved : goal.loop-i-preserved
loop-i-preserved g c = record {
  size = length-set c.loop-i.values c.loop-i.i _ ∙ c.loop-i.invariant.size;
  done =
      read-more g.P.Packed.words c.args.items.now c.args.from c.loop-i.i c.args.field c.index-items-from.result _ c.loop-i.values (omega arith) (omega arith) c.index-items-from.is
      ((search to_z-of_z) ∙ c.word.ensures) c.loop-i.invariant.done;
}
