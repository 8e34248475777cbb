use Rattle.std.proofs.Common.{sym, subst}
use Rattle.query_plan.specs.Marks.{AreMarksAmong}
use Rattle.query_plan.proofs.Candidates.{candidates_known}
use Rattle.query_plan.proofs.IndexWalks.{marks_known}
use Rattle.query_plan.proofs.index_walk.walked_by.Goals as goal

pub mark-requires : goal.mark-requires
mark-requires c = candidates_known c.args.query.now c.args.world.now.layout c.args.archetypes.now c.requires.among

pub walk-requires-clause-marks : goal.walk-requires-clause-marks
walk-requires-clause-marks c =
    let query = c.args.query.now in
    let layout = c.args.world.now.layout in
    let archetypes = c.args.archetypes.now in
    marks_known query layout archetypes c.deref.result.now c.requires.among (subst (AreMarksAmong query layout archetypes) (sym c.deref.ensures.value) c.in_ok-matched.ensures)
