use Rattle.access_set.proofs.Least.{known_resources}
use Rattle.access_set.proofs.datum.are_known_resources.Goals as goal

pub returns : goal.returns
returns c = known_resources c.args.a.now c.res.result.now c.res_mut.result.now c.res.ensures c.res_mut.ensures
