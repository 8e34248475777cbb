use Rattle.archetype_store.proofs.Common.{true, false, not, is_some, refl, sym, ap, ◌∙◌, rows_seen, StoreValue}
use Rattle.archetype_store.proofs.EmptyEntities.{empty_is}
use Rattle.archetype_store.proofs.RowsHeld.{there_if_placed}
use Rattle.archetype_store.proofs.store.World.bare_at.Goals as goal

pub returns-then-not-lives : goal.returns-then-not-lives
returns-then-not-lives c =
    empty_is c.self.inside.ids (rows_seen c.self.inside.rows) c.self.invariant.held c.args.index c.args.self.now.state.slots (ap (λ (x : StoreValue). x.state.slots) c.self.view_is)
    c.generation.result false _ c.generation.ensures (sym c.if-not-lives.ensures.value) refl

pub returns-then-is_some : goal.returns-then-is_some
returns-then-is_some c =
    let placed = there_if_placed c.self.inside.rows c.prove_rows.ensures c.args.index in
    empty_is c.self.inside.ids (rows_seen c.self.inside.rows) c.self.invariant.held c.args.index c.args.self.now.state.slots (ap (λ (x : StoreValue). x.state.slots) c.self.view_is)
    c.generation.result true false c.generation.ensures (sym c.if-not-lives.ensures.value) (ap not (placed ∙ ap is_some (sym c.place.ensures) ∙ sym c.if-is_some.ensures))

pub returns : goal.returns
returns c =
    let placed = there_if_placed c.self.inside.rows c.prove_rows.ensures c.args.index in
    empty_is c.self.inside.ids (rows_seen c.self.inside.rows) c.self.invariant.held c.args.index c.args.self.now.state.slots (ap (λ (x : StoreValue). x.state.slots) c.self.view_is)
    c.generation.result true true c.generation.ensures (sym c.if-not-lives.ensures.value) (ap not (placed ∙ ap is_some (sym c.place.ensures) ∙ sym c.if-is_some.ensures))
