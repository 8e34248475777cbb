use Rattle.std.proofs.Common.{◌∙◌}
use Rattle.std.proofs.lemmas.Result.{on_ok_weaker}
use Rattle.model.specs.shown.Outcome.{events_sent}
use Rattle.event_buffers.proofs.ListsOfEvents.{numbers-in-turn, sent-each}
use Rattle.event_buffers.proofs.lists.EventLists.send_every.Goals as goal

pub send_each-requires : goal.send_each-requires
send_each-requires c =
    numbers-in-turn (events_sent c.args.self.now.kinds c.args.self.now.values) c.args.events.now c.prove_law.ensures ∙ c.requires

pub returns : goal.returns
returns c =
    let events = events_sent c.args.self.now.kinds c.args.self.now.values in
    on_ok_weaker c.send_each.result (λ e. e ∙ sent-each events c.args.events.now c.prove_law.ensures) c.send_each.ensures
