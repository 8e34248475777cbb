use Rattle.std.proofs.Common.{map}
use Rattle.kinds.specs.Res.{event_number}
use Rattle.model.specs.runs.RunState.{memory_after_run}
use Rattle.entity_table.proofs.Edits.{set-update_at}
use Rattle.body.proofs.open_state.ran_at.Goals as goal

pub returns : goal.returns
returns c = rw c.ran.ensures (set-update_at (memory_after_run c.args.tick (map event_number c.args.reads.now) c.args.events.now) c.args.memories.now c.args.at _ c.requires.known)
