use Rattle.std.proofs.Common.{◌∙◌}
use Rattle.model.specs.shown.Outcome.{events_sent}
use Rattle.event_buffers.proofs.ListsOfEvents.{numbers-each}
use Rattle.event_buffers.proofs.lists.EventLists.can_send.Goals as goal

pub returns : goal.returns
returns c = c.can_send_each.ensures ∙ numbers-each (events_sent c.args.self.now.kinds c.args.self.now.values) c.args.events.now c.prove_law.ensures
