use Rattle.access_set.proofs.Footprints.{writer_tells}
use Rattle.access_set.proofs.self_conflict.two_meet.Goals as goal

pub returns : goal.returns
returns c = writer_tells c.has_meeting_writer.result c.args.params.now.queries c.footprints.result.now c.footprints.ensures c.has_meeting_writer.ensures
