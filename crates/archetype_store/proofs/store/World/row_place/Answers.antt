use Rattle.archetype_store.proofs.Common.{◌≡◌, Some, is_some, refl, sym, ap, ◌∙◌, slice_get, is_there, row_at, Entity, archetype_at, layout_of, rows_seen, StoreValue, number_of}
use Rattle.archetype_store.proofs.RowsHeld.{there_if_placed}
use Rattle.archetype_store.proofs.RowsOfArchetypes.{number_known, stands_there}
use Rattle.archetype_store.proofs.SlotRows.{row_at_slots}
use Rattle.archetype_store.proofs.store.World.row_place.Goals as goal

pub returns-in-None-clause-there : goal.returns-in-None-clause-there
returns-in-None-clause-there c =
    let v = c.self.inside.rows in
    ap is_some (sym c.in-None.is ∙ c.place.ensures) ∙ sym (there_if_placed v c.prove_rows.ensures c.args.index) ∙ ap is_there (sym (row_at_slots c.self.inside.ids (rows_seen v) c.self.invariant.held c.args.index))
    ∙ ap (λ (x : StoreValue). is_there (row_at x.state.slots c.args.index)) c.self.view_is

pub unreachable-requires : goal.unreachable-requires
unreachable-requires c =
    let T = c.self.inside.rows.tables in
    let p = c.in-Some.location in
    let e : Entity = record { index = c.args.index; generation = p.generation } in
    let here = c.number-place.ensures p (sym c.place.ensures ∙ c.in-Some.is) in
    c.in_default.not-Some (number_of T p.table) (c.archetype_of.ensures T c.self.invariant.indexed ∙ number_known T p.table c.number-place.result e here)

pub returns-in-Some-archetype_of-clause-there : goal.returns-in-Some-archetype_of-clause-there
returns-in-Some-archetype_of-clause-there c =
    let v = c.self.inside.rows in
    ap is_some (sym c.in-Some.is ∙ c.place.ensures) ∙ sym (there_if_placed v c.prove_rows.ensures c.args.index) ∙ ap is_there (sym (row_at_slots c.self.inside.ids (rows_seen v) c.self.invariant.held c.args.index))
    ∙ ap (λ (x : StoreValue). is_there (row_at x.state.slots c.args.index)) c.self.view_is

pub returns-in-Some-archetype_of-clause-place : goal.returns-in-Some-archetype_of-clause-place
returns-in-Some-archetype_of-clause-place c =
    let T = c.self.inside.rows.tables in
    let p = c.in-Some.location in
    let n = c.in-Some-archetype_of.archetype in
    let e : Entity = record { index = c.args.index; generation = p.generation } in
    let here = c.number-place.ensures p (sym c.place.ensures ∙ c.in-Some.is) in
    let number = c.archetype_of.ensures T c.self.invariant.indexed ∙ number_known T p.table c.number-place.result e here in
    let n_is : n ≡ number_of T p.table = (let told : Some n ≡ Some (number_of T p.table) = sym c.in-Some-archetype_of.is ∙ number in cc) in
    record {
      whose = refl;
      there = ap (λ (x : StoreValue). slice_get (archetype_at x.layout n).entities c.number-place.result) (sym c.self.view_is)
          ∙ ap (λ m. slice_get (archetype_at (layout_of T) m).entities c.number-place.result) n_is ∙ stands_there T p.table c.number-place.result e here;
    }
