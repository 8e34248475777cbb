use Rattle.std.proofs.Common.{sym, ap, subst, ◌∙◌, arith}
use Rattle.kinds.specs.Value.{value_number, value_words}
use Rattle.model.specs.state.Rows.{insert_component}
use Rattle.model.specs.state.Commands.{CommandTarget, with_row, if_alive}
use Rattle.command_queue.specs.Pending.{IsKept, IsOpen, target_of}
use Rattle.command_queue.proofs.Puts.{at_place}
use Rattle.command_queue.proofs.Turns.{placed_same}
use Rattle.command_queue.proofs.Targets.{kept_lives, places_again, if_lives}
use Rattle.command_queue.proofs.Inserted.{its_entity, changes_inserted, slots_edited}
use Rattle.command_queue.proofs.pending.Pending.insert.Goals as goal

pub index_mut-requires : goal.index_mut-requires
index_mut-requires c =
    let w = c.args.world.now.state in
    let cs = c.open.new.self.changes.items in
    let valid = c.in_ok-open.ensures.pending.changes in
    let p = c.in-Some.place in
    let kept : IsKept cs c.args.e p = subst (IsOpen w.slots cs c.args.e) c.in-Some.is c.in_ok-open.ensures.open in
    omega (arith, (at_place c.args.e.index cs p kept.place_is).within, c.open.new.self.changes.ok.0)

pub returns-in_ok-insert_kept-in-Some-clause-pending : goal.returns-in_ok-insert_kept-in-Some-clause-pending
returns-in_ok-insert_kept-in-Some-clause-pending c =
    let w = c.args.world.now.state in
    let cs = c.open.new.self.changes.items in
    let valid = c.in_ok-open.ensures.pending.changes in
    let p = c.in-Some.place in
    let kept : IsKept cs c.args.e p = subst (IsOpen w.slots cs c.args.e) c.in-Some.is c.in_ok-open.ensures.open in
    let x = c.index_mut.result.now in
    let its = its_entity w cs valid c.args.e p kept x c.insert_kept.new.change c.index_mut.ensures.value c.in_ok-insert_kept-in-Some.ensures.entity in
    record {
      changes = changes_inserted w cs valid c.args.e p kept x c.insert_kept.new.change c.index_mut.ensures.value c.in_ok-insert_kept-in-Some.ensures.entity c.args.tick c.args.value c.requires.past c.in_ok-insert_kept-in-Some.ensures.row;
      places = placed_same _ cs _ (places_again w cs valid c.args.e p kept c.insert_kept.new.change its) c.in_ok-open.ensures.pending.places;
    }

pub returns-in_ok-insert_kept-in-Some-clause-done : goal.returns-in_ok-insert_kept-in-Some-clause-done
returns-in_ok-insert_kept-in-Some-clause-done c =
    let w = c.args.world.now.state in
    let cs = c.open.new.self.changes.items in
    let valid = c.in_ok-open.ensures.pending.changes in
    let p = c.in-Some.place in
    let kept : IsKept cs c.args.e p = subst (IsOpen w.slots cs c.args.e) c.in-Some.is c.in_ok-open.ensures.open in
    let x = c.index_mut.result.now in
    let edit = insert_component c.args.tick (value_number c.args.value) (value_words c.args.value) in
    let f = with_row edit in
    ap (λ slots. let t : CommandTarget = record { slots = slots; passed_over = c.open.new.self.passed_over } in t)
    (slots_edited w cs valid c.args.e p kept x c.insert_kept.new.change c.index_mut.ensures.value c.in_ok-insert_kept-in-Some.ensures.entity edit c.in_ok-insert_kept-in-Some.ensures.lasts c.in_ok-insert_kept-in-Some.ensures.row)
    ∙ sym (if_lives c.args.e f (target_of w c.open.new.self) (kept_lives w cs valid c.args.e p kept))
    ∙ ap (if_alive c.args.e f) c.in_ok-open.ensures.same
