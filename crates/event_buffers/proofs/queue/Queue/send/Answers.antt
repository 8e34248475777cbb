use mir.Syntax.{w64}
use Rattle.std.proofs.Common.{ap, ◌∙◌}
use Rattle.std.proofs.lemmas.Int.{to_z-of_z}
use Rattle.model.specs.state.Events.{send}
use Rattle.event_buffers.specs.Queue.{queue_of_parts}
use Rattle.event_buffers.proofs.Numbered.{send-parts}
use Rattle.event_buffers.proofs.queue.Queue.send.Goals as goal
use Rattle.event_buffers.proofs.queue.Queue.send.Goals.{in-Ok, in-Err}

pub returns-clause-ok : goal.returns-clause-ok
returns-clause-ok c = elim c.match-push.branch [
  | in-Ok w ↦
      let items = simp (to_z-of_z w64 c.args.value c.ranges.value) at rw w.in-Ok.is at c.push.ensures.items in
      rw w.result-is (ap (queue_of_parts c.self.inside.first c.self.inside.older.items) items
      ∙ send-parts c.self.inside.first c.self.inside.older.items c.self.inside.newer.items c.args.value ∙ ap (send c.args.value) c.self.view_is)
  | in-Err w ↦ rw w.result-is tt
]
