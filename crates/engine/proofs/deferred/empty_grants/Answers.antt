use Rattle.std.proofs.Common.{refl, arith, ◌∙◌}
use Rattle.std.proofs.lemmas.List.{length-set}
use Rattle.engine.proofs.EmptyLists.{emptied_more, emptied_all}
use Rattle.engine.proofs.deferred.empty_grants.Goals as goal

pub loop-granted-init : goal.loop-granted-init
loop-granted-init c = record { count = refl; empty = λ n below. absurd (omega arith) }

pub loop-granted-preserved : goal.loop-granted-preserved
loop-granted-preserved c = record {
  count = length-set c.loop-granted.granted-items c.loop-granted.granted-index _ ∙ c.loop-granted.invariant.count;
  empty = emptied_more c.loop-granted.granted-items c.loop-granted.granted-index _ c.clear.ensures.items (omega (arith, c.loop-granted.invariant.count)) c.loop-granted.invariant.empty;
}

pub returns : goal.returns
returns c = emptied_all c.loop-granted.granted-items c.loop-granted.granted-index (omega (arith, c.loop-granted.invariant.count)) c.loop-granted.invariant.empty
