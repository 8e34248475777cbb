use Rattle.std.proofs.Common.{arith}
use Rattle.lints.specs.Lints.{IsOfQueries, IsOfQuery}
use Rattle.lints.proofs.Growing.{adds_at, adds_next, adds_no_number, adds_upto}
use Rattle.lints.proofs.queries.add_of_queries.Goals as goal

pub loop-query-init : goal.loop-query-init
loop-query-init c = adds_no_number _ _

pub loop-query-preserved : goal.loop-query-preserved
unfolding IsOfQueries
loop-query-preserved c = adds_next _ _ _ _ _ c.loop-query.invariant
    (adds_at (λ query. IsOfQuery c.args.blocks.now c.args.present.now c.args.system c.loop-query.query query) c.args.queries.now c.loop-query.query c.index-queries-query.result _ _ (omega arith) c.index-queries-query.is c.in_ok-add_of_query.ensures)

pub returns : goal.returns
returns c = adds_upto _ _ _ _ _ (omega arith) c.loop-query.invariant
