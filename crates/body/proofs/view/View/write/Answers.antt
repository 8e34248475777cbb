use Rattle.std.proofs.Common.{ap, refl, ◌∙◌}
use Rattle.model.specs.Lists.{update_at}
use Rattle.kinds.specs.Value.{value_number, value_words}
use Rattle.body.specs.Seen.{with_words}
use Rattle.body.specs.Sheet.{Sheet}
use Rattle.body.proofs.Views.{seen_over-written, query-within, together-still}
use Rattle.body.proofs.view.View.write.Goals as goal

pub invariant_of-self : goal.invariant_of-self
invariant_of-self c =
    let inside = c.self.inside in
    let query = c.index_mut-query.result.now in
    let words = (value_words c.args.value) in
    let after = c.write.ensures ∙ ap (λ (s : Sheet). let x : Sheet = record { terms = s.terms; rows = s.rows; cells = update_at c.args.row (with_words s.terms (value_number c.args.value) words) s.cells; taken = s.taken; tick = s.tick; places = s.places } in x) c.index_mut-query.ensures.value in
    together-still inside.tick inside.queries.items c.args.query query c.write.new.self (query-within inside.tick inside.queries.items inside.values inside.unread inside.sent inside.issued c.args.self.now c.args.query c.self.view_is c.requires.query)
    (record { terms = ap (λ (s : Sheet). s.terms) after; rows = ap (λ (s : Sheet). s.rows) after; taken = ap (λ (s : Sheet). s.taken) after; tick = ap (λ (s : Sheet). s.tick) after }) c.self.invariant

pub returns : goal.returns
returns c =
    let inside = c.self.inside in
    let queries = inside.queries.items in
    let query = c.index_mut-query.result.now in
    let words = (value_words c.args.value) in
    rw (← c.self.view_is)
    (seen_over-written inside.tick queries _ inside.values inside.unread inside.sent inside.issued c.args.query c.args.row (value_number c.args.value) words query c.write.new.self
    (query-within inside.tick queries inside.values inside.unread inside.sent inside.issued c.args.self.now c.args.query c.self.view_is c.requires.query) refl
    (c.write.ensures ∙ ap (λ (s : Sheet). let x : Sheet = record { terms = s.terms; rows = s.rows; cells = update_at c.args.row (with_words s.terms (value_number c.args.value) words) s.cells; taken = s.taken; tick = s.tick; places = s.places } in x) c.index_mut-query.ensures.value))
