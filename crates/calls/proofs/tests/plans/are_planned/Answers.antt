use Rattle.calls.proofs.tests.plans.are_planned.Goals as goal

pub plan-requires : goal.plan-requires
plan-requires c = c.prove_picks_home.ensures c.args.world.now.state.slots c.args.world.now.layout c.args.query.now c.prove_laid.ensures c.requires.home

pub plan_by-requires-clause-home : goal.plan_by-requires-clause-home
plan_by-requires-clause-home c = c.prove_picks_home.ensures c.args.world.now.state.slots c.args.world.now.layout c.args.query.now c.prove_laid.ensures c.requires.home
