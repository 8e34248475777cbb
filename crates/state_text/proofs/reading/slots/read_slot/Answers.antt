use Rattle.std.proofs.Common.{◌≡◌, ◌≢◌, ℕ, [], true, length, map, refl, ap, sym, subst, ◌∙◌, eq-eqb, arith}
use Rattle.std.proofs.lemmas.Bool.{false≢true}
use Rattle.std.proofs.lemmas.List.{length-map}
use Rattle.std.proofs.lemmas.Result.{MatchResult-weaker}
use Rattle.model.specs.state.State.{World, is_living}
use Rattle.model.specs.state.Commands.{is_alive}
use Rattle.entity_table.specs.Status.{empty_slot}
use Rattle.archetype_store.specs.Row.{component_of}
use Rattle.state_text.specs.LineWords.{IsRow}
use Rattle.state_text.proofs.WordsSpelled.{word_is, behind_is}
use Rattle.state_text.proofs.SlotsRead.{filled_lives, filled_is, last_lives}
use Rattle.state_text.proofs.reading.slots.read_slot.Goals as goal

pub returns-clause-all : goal.returns-clause-all
returns-clause-all c slot is room e =
    let w = c.args.world.now.state in
    let most = is.0.most in
    let status = c.in_ok-status.ensures slot.status (word_is c.args.words.now 0 _ _ e) in
    let id = c.in_ok-id.ensures (length w.slots) slot.generation (omega (arith, room)) (omega (arith, most)) (word_is c.args.words.now 1 _ _ e) in
    let pushed = c.in_ok-add_slot.ensures.state in
    let clock : c.now.result ≡ w.clock = c.now.ensures.value ∙ ap (λ (v : World). v.clock) pushed in
    let row = c.in_ok-row.ensures.all slot.row (subst (λ (k : ℕ). IsRow k slot.row) (sym clock) (record { rising = is.0.rising; components = is.0.components })) is.1 (behind_is 2 c.args.words.now _ e) in
    let long = sym (length-map c.in_ok-row.row.items component_of) ∙ ap length row in
    let some : slot.row ≢ [] = λ none. false≢true (sym c.if-is_empty.false ∙ c.is_empty.ensures ∙ eq-eqb (length c.in_ok-row.row.items) 0 (long ∙ ap length none)) in
    let living = filled_lives w.clock slot is.0 some in
    let alive : is_alive c.add_slot.new.world.state.slots c.in_ok-id.id ≡ true = subst (λ (v : World). is_alive v.slots c.in_ok-id.id ≡ true) (sym pushed)
    (last_lives w.slots (empty_slot c.in_ok-id.id.generation c.in_ok-status.status) c.in_ok-id.id (ap (λ x. x.index) id) refl (ap is_living status ∙ living)) in
    MatchResult-weaker c.fill_slot.result (c.fill_slot.ensures.all alive)
    (λ done filled. filled_is w c.add_slot.new.world.state c.fill_slot.new.world.state c.in_ok-id.id.generation c.in_ok-id.id.index c.in_ok-status.status (map component_of c.in_ok-row.row.items) slot
    (ap (λ x. x.generation) id) status living row (ap (λ x. x.index) id) pushed filled) (λ fault memory. memory)
