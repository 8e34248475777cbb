use Rattle.std.proofs.Common.{Bool, List, sym, subst, ◌+◌}
use Rattle.system_set.specs.Pairs.{hierarchy_of}
use Rattle.system_set.specs.Edges.{AreRows}
use Rattle.system_set.proofs.EdgeLists.{rows_more}
use Rattle.system_set.proofs.edges.rows_of.Goals as goal

pub loop-set-preserved : goal.loop-set-preserved
loop-set-preserved c =
    let h = hierarchy_of c.args.sets c.args.items c.args.pairs.now in
    subst (λ (rows : List (List Bool)). AreRows h (c.loop-set.set + 1) rows) (sym c.in_ok-push.ensures.items)
    (rows_more h c.loop-set.set c.loop-set.rows.items c.in_ok-row_of.field-0 c.loop-set.invariant c.in_ok-row_of.ensures)
