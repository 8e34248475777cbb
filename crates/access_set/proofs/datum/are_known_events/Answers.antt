use Rattle.access_set.proofs.Least.{known_events}
use Rattle.access_set.proofs.datum.are_known_events.Goals as goal

pub returns : goal.returns
returns c = known_events c.args.a.now c.reads.result.now c.writes.result.now c.reads.ensures c.writes.ensures
