use Rattle.std.proofs.Common.{[], length, sym, ap, refl, ◌∙◌, subst}
use Rattle.std.proofs.lemmas.List.{get_or-map}
use Rattle.kinds.specs.Kind.{kind_number}
use Rattle.body.specs.Fields.{with_listed_rows, sheet_with_listed_fields}
use Rattle.body.specs.Seen.{Seen, places_at}
use Rattle.body.specs.Sheet.{Sheet}
use Rattle.body.specs.Turns.{AreInTurnAt}
use Rattle.body.proofs.Views.{seen_over-cells, query-within, together-still}
use Rattle.body.proofs.view.View.write_rows.Goals as goal

pub write_rows-requires-clause-turn : goal.write_rows-requires-clause-turn
write_rows-requires-clause-turn c =
    let inside = c.self.inside in
    let ns = c.args.rows.now in
    let within = query-within inside.tick inside.queries.items inside.values inside.unread inside.sent inside.issued c.args.self.now c.args.query c.self.view_is c.requires.query in
    subst (λ rows. AreInTurnAt rows ns (length ns))
    (sym (ap (λ (s : Seen). places_at s.opening c.args.query) c.self.view_is)
    ∙ get_or-map (λ (s : Sheet). s.places) inside.queries.items c.args.query c.index_mut-query.result.now [] within
    ∙ ap (λ (s : Sheet). s.places) (sym c.index_mut-query.ensures.value)) c.requires.turn

pub invariant_of-self : goal.invariant_of-self
invariant_of-self c =
    let inside = c.self.inside in
    let query = c.index_mut-query.result.now in
    let after = c.write_rows.ensures ∙ ap (λ (s : Sheet). sheet_with_listed_fields s (kind_number c.args.kind) c.args.place c.args.rows.now c.args.values.now) c.index_mut-query.ensures.value in
    together-still inside.tick inside.queries.items c.args.query query c.write_rows.new.self (query-within inside.tick inside.queries.items inside.values inside.unread inside.sent inside.issued c.args.self.now c.args.query c.self.view_is c.requires.query)
    (record { terms = ap (λ (s : Sheet). s.terms) after; rows = ap (λ (s : Sheet). s.rows) after; taken = ap (λ (s : Sheet). s.taken) after; tick = ap (λ (s : Sheet). s.tick) after }) c.self.invariant

pub returns : goal.returns
returns c =
    let inside = c.self.inside in
    let queries = inside.queries.items in
    let query = c.index_mut-query.result.now in
    let k = (kind_number c.args.kind) in
    rw (← c.self.view_is)
    (seen_over-cells inside.tick queries _ inside.values inside.unread inside.sent inside.issued c.args.query (λ terms rows. with_listed_rows terms rows k c.args.place c.args.rows.now c.args.values.now) query c.write_rows.new.self
    (query-within inside.tick queries inside.values inside.unread inside.sent inside.issued c.args.self.now c.args.query c.self.view_is c.requires.query) refl
    (c.write_rows.ensures ∙ ap (λ (s : Sheet). sheet_with_listed_fields s k c.args.place c.args.rows.now c.args.values.now) c.index_mut-query.ensures.value))
