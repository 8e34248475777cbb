use Rattle.std.proofs.Common.{◌∙◌, ◌++◌, ◌∷◌, [], refl}
use Rattle.job_board.specs.Ends.{lead_view}
use Rattle.job_board.proofs.Contents.{none_next, reads_then}
use Rattle.job_board.proofs.Leads.{collected_after}
use Rattle.job_board.proofs.lead.Lead.try_collect.Goals as goal

pub loop-slot-preserved : goal.loop-slot-preserved
loop-slot-preserved g c = let old = c.loop-slot.invariant in let new = c.in_default.ensures.collected in (
  (
    old.0.0 ++ (c.loop-slot.slot, new.0) ∷ [],
    reads_then _ (lead_view c.loop-slot.self) (lead_view c.collect_slot.new.self) old.0.0 ((c.loop-slot.slot, new.0) ∷ []) old.0.1 new.2,
    none_next c.loop-slot.slot new.0 old.0.0 old.0.2 new.1,
  ),
  c.in_default.ensures.slots ∙ old.1,
)

pub returns-in-Some-clause-collected : goal.returns-in-Some-clause-collected
returns-in-Some-clause-collected g c = let old = c.loop-slot.invariant in let t = c.in-Some.ensures.collected in
    let it = collected_after g.T.Task.answers (lead_view c.args.self.now) (lead_view c.loop-slot.self) (lead_view c.collect_slot.new.self) old.0.0 _ c.in-Some.collected.0 c.loop-slot.slot c.in-Some.collected.1 old.0.1 t in
    (_, c.loop-slot.slot, it.0, it.1, it.2, (old.0.0, old.0.2, refl))
