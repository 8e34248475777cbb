use Rattle.std.proofs.Common.{◌∙◌}
use Rattle.query_plan.proofs.Candidates.{candidates_known, candidates_picked}
use Rattle.query_plan.proofs.plan.plan_among.Goals as goal

pub picks_in-requires : goal.picks_in-requires
picks_in-requires c = candidates_known c.args.query.now c.args.world.now.layout c.args.archetypes.now c.requires.among

pub returns-clause-picks : goal.returns-clause-picks
returns-clause-picks c = c.in_ok-picks.ensures ∙ candidates_picked c.args.query.now c.args.world.now.layout c.args.archetypes.now c.requires.among
