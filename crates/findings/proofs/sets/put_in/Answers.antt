use Rattle.findings.proofs.SetsFound.{name_put}
use Rattle.findings.proofs.sets.put_in.Goals as goal

-- one name more
pub loop-name-preserved : goal.loop-name-preserved
loop-name-preserved c =
    name_put c.args.sets.now c.args.item c.args.names.now c.loop-name.name-index _ c.args.hierarchy.now c.loop-name.hierarchy c.put_in_one.new.hierarchy c.loop-name-test.true c.loop-name.invariant c.in_ok-put_in_one.ensures
