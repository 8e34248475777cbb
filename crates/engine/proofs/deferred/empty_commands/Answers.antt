use Rattle.std.proofs.Common.{refl, arith, ◌∙◌}
use Rattle.std.proofs.lemmas.List.{length-set}
use Rattle.engine.proofs.EmptyLists.{emptied_more, emptied_all}
use Rattle.engine.proofs.deferred.empty_commands.Goals as goal

pub loop-buffer-init : goal.loop-buffer-init
loop-buffer-init c = record { count = refl; empty = λ n below. absurd (omega arith) }

pub loop-buffer-preserved : goal.loop-buffer-preserved
loop-buffer-preserved c = record {
  count = length-set c.loop-buffer.buffer-items c.loop-buffer.buffer-index c.clear.new.self ∙ c.loop-buffer.invariant.count;
  empty = emptied_more c.loop-buffer.buffer-items c.loop-buffer.buffer-index c.clear.new.self c.clear.ensures (omega (arith, c.loop-buffer.invariant.count)) c.loop-buffer.invariant.empty;
}

pub returns : goal.returns
returns c = emptied_all c.loop-buffer.buffer-items c.loop-buffer.buffer-index (omega (arith, c.loop-buffer.invariant.count)) c.loop-buffer.invariant.empty
