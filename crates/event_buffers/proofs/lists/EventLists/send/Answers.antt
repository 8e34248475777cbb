use Rattle.std.proofs.Common.{◌≡◌, true, length, sym, subst, arith, ◌∙◌}
use Rattle.std.proofs.lemmas.Bool.{false≢true}
use Rattle.model.specs.shown.Outcome.{events_sent}
use Rattle.model.specs.shown.Overlay.{queues_after, has_event_numbers}
use Rattle.event_buffers.specs.Lists.{ListsValue}
use Rattle.event_buffers.proofs.ListsOfEvents.{none-sent, none-numbered}
use Rattle.event_buffers.proofs.lists.EventLists.send.Goals as goal

pub returns-then-is_empty-clause-ok : goal.returns-then-is_empty-clause-ok
returns-then-is_empty-clause-ok c =
    let lists = c.self.inside.lists in
    let none : length lists.items ≡ 0 = let e = c.is_empty.ensures in let t = c.if-is_empty.true in let n = lists.ok.0 in grind arith in
    subst (λ (x : ListsValue). c.args.events.now ≡ queues_after (events_sent x.kinds x.values) c.args.events.now) c.self.view_is
    (none-sent lists.items c.args.events.now none)

pub returns-then-is_empty-clause-spent : goal.returns-then-is_empty-clause-spent
returns-then-is_empty-clause-spent c =
    let lists = c.self.inside.lists in
    let none : length lists.items ≡ 0 = let e = c.is_empty.ensures in let t = c.if-is_empty.true in let n = lists.ok.0 in grind arith in
    let can = subst (λ (x : ListsValue). has_event_numbers (events_sent x.kinds x.values) c.args.events.now ≡ true) c.self.view_is
    (none-numbered lists.items c.args.events.now none) in
    ((λ e. absurd (let clash = e in cc)), (λ spent. absurd (false≢true (sym spent ∙ can))))
