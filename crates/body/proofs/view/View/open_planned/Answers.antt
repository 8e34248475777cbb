use Rattle.std.proofs.Common.{◌≡◌, List, map, ap, ap₂, ◌∙◌, subst}
use Rattle.event_buffers.specs.Lists.{ListsValue}
use Rattle.model.specs.access.Conflict.Datum.{OfKind}
use Rattle.model.specs.access.Query.{Term}
use Rattle.model.specs.access.SelfConflict.{TwoConflictAt}
use Rattle.model.specs.shown.Input.{rows_of, shown, unread_of}
use Rattle.body.specs.Issued.{IssuedSeen}
use Rattle.body.specs.Sheet.{Sheet}
use Rattle.body.specs.Values.{ValuesSeen}
use Rattle.body.proofs.Views.{seen_over-shown}
use Rattle.body.proofs.view.View.open_planned.Goals as goal

pub open_queries-requires-clause-apart : goal.open_queries-requires-clause-apart
open_queries-requires-clause-apart c = λ kind two. c.requires.apart (OfKind kind, subst (λ qs. TwoConflictAt qs kind) c.queries.ensures.queries two)

pub returns-clause-shown : goal.returns-clause-shown
returns-clause-shown c = λ state w es.
    let params = c.args.params.now in
    let memory = c.args.memory.now in
    let world = c.args.world.now.state in
    let unread = ap (λ (x : ListsValue). x.values) c.in_ok-open_unread.ensures ∙ ap₂ (λ ks cs. unread_of c.args.events.now ks cs) c.reads.ensures c.cursors.ensures in
    seen_over-shown params memory c.args.events.now world c.args.tick c.open_queries.new.opened.items c.open-2.new.self c.open_unread.new.self c.open_empty.new.self c.«open».new.self
    (subst (λ (qs : List (List Term)). map (λ (s : Sheet). s.rows) c.open_queries.new.opened.items ≡ map (λ query. rows_of query memory.last_run world.slots) qs) c.queries.ensures.queries (rw c.last_run.ensures at c.in_ok-open_queries.ensures.rows))
    c.open-2.ensures unread state w es
    ∙ ap (λ (x : IssuedSeen). shown params memory state x.granted) c.in_ok-open.ensures

pub returns-clause-params : goal.returns-clause-params
returns-clause-params c = λ i. record {
  queries = (c.in_ok-open_queries.ensures.terms ∙ c.queries.ensures.queries) i;
  res = ap (λ (x : ValuesSeen). x.res) c.open-2.ensures i;
  res_mut = ap (λ (x : ValuesSeen). x.res_mut) c.open-2.ensures i;
  reads = (ap (λ (x : ListsValue). x.kinds) c.in_ok-open_unread.ensures ∙ c.reads.ensures) i;
  writes = (ap (λ (x : ListsValue). x.kinds) c.in_ok-open_empty.ensures ∙ c.writes.ensures) i;
  spawns = ap (λ (x : IssuedSeen). x.spawns) c.in_ok-open.ensures i;
}
