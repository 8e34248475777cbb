use Rattle.std.proofs.Common.{sym, ap, subst, ◌∙◌, arith}
use Rattle.kinds.specs.Kind.{kind_number}
use Rattle.model.specs.state.Rows.{remove_component}
use Rattle.model.specs.state.Commands.{CommandTarget, with_row, if_alive}
use Rattle.command_queue.specs.Pending.{IsKept, IsOpen, target_of}
use Rattle.command_queue.proofs.Puts.{at_place}
use Rattle.command_queue.proofs.Turns.{placed_same}
use Rattle.command_queue.proofs.Targets.{kept_lives, places_again, if_lives}
use Rattle.command_queue.proofs.Inserted.{its_entity, changes_removed, slots_edited}
use Rattle.command_queue.proofs.pending.Pending.remove.Goals as goal

pub index_mut-requires : goal.index_mut-requires
index_mut-requires c =
    let w = c.args.world.now.state in
    let cs = c.open.new.self.changes.items in
    let valid = c.in_ok-open.ensures.pending.changes in
    let p = c.in-Some.place in
    let kept : IsKept cs c.args.e p = subst (IsOpen w.slots cs c.args.e) c.in-Some.is c.in_ok-open.ensures.open in
    omega (arith, (at_place c.args.e.index cs p kept.place_is).within, c.open.new.self.changes.ok.0)

pub returns-in-Some-clause-pending : goal.returns-in-Some-clause-pending
returns-in-Some-clause-pending c =
    let w = c.args.world.now.state in
    let cs = c.open.new.self.changes.items in
    let valid = c.in_ok-open.ensures.pending.changes in
    let p = c.in-Some.place in
    let kept : IsKept cs c.args.e p = subst (IsOpen w.slots cs c.args.e) c.in-Some.is c.in_ok-open.ensures.open in
    let x = c.index_mut.result.now in
    let its = its_entity w cs valid c.args.e p kept x c.remove_kept.new.change c.index_mut.ensures.value c.remove_kept.ensures.entity in
    record {
      changes = changes_removed w cs valid c.args.e p kept x c.remove_kept.new.change c.index_mut.ensures.value c.remove_kept.ensures.entity (kind_number c.args.kind) (rw c.number.ensures at c.remove_kept.ensures.row);
      places = placed_same _ cs _ (places_again w cs valid c.args.e p kept c.remove_kept.new.change its) c.in_ok-open.ensures.pending.places;
    }

pub returns-in-Some-clause-done : goal.returns-in-Some-clause-done
returns-in-Some-clause-done c = λ tick.
    let w = c.args.world.now.state in
    let cs = c.open.new.self.changes.items in
    let valid = c.in_ok-open.ensures.pending.changes in
    let p = c.in-Some.place in
    let kept : IsKept cs c.args.e p = subst (IsOpen w.slots cs c.args.e) c.in-Some.is c.in_ok-open.ensures.open in
    let x = c.index_mut.result.now in
    let edit = remove_component (kind_number c.args.kind) in
    let f = with_row edit in
    ap (λ slots. let t : CommandTarget = record { slots = slots; passed_over = c.open.new.self.passed_over } in t)
    (slots_edited w cs valid c.args.e p kept x c.remove_kept.new.change c.index_mut.ensures.value c.remove_kept.ensures.entity edit c.remove_kept.ensures.lasts (rw c.number.ensures at c.remove_kept.ensures.row))
    ∙ sym (if_lives c.args.e f (target_of w c.open.new.self) (kept_lives w cs valid c.args.e p kept))
    ∙ ap (if_alive c.args.e f) c.in_ok-open.ensures.same
