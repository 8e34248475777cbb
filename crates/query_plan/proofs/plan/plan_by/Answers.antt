use Rattle.std.proofs.Common.{◌∙◌, rules}
use Rattle.query_plan.proofs.QueryShapes.{fitting_candidates}
use Rattle.query_plan.proofs.plan.plan_by.Goals as goal

pub plan_among-planned-requires-clause-among : goal.plan_among-planned-requires-clause-among
plan_among-planned-requires-clause-among c =
    fitting_candidates c.terms-terms.result.now c.args.query.now c.args.shape c.args.world.now.layout c.deref.result.now c.terms-terms.ensures c.requires.shape (c.deref.ensures.value ∙ c.in_ok-is_kept.ensures (search rules))
