use Rattle.std.proofs.Common.{sym, ap, ap₂, subst, ◌∙◌, arith}
use Rattle.model.specs.state.Commands.{CommandTarget, freed}
use Rattle.archetype_store.specs.declared.change.Fate.TheVariants as the
use Rattle.archetype_store.specs.declared.change.EntityChange.{EntityChange}
use Rattle.archetype_store.specs.Changes.{changed}
use Rattle.command_queue.specs.Pending.{AreChanges, target_of}
use Rattle.command_queue.proofs.Puts.{at_place}
use Rattle.command_queue.proofs.Turns.{placed_same}
use Rattle.command_queue.proofs.Targets.{alive_unchanged, kept_lives, changes_again, slots_again, places_again, killed_changes, killed_slots, freed_again, if_lives}
use Rattle.command_queue.proofs.pending.Pending.despawn.Goals as goal

pub index_mut-requires : goal.index_mut-requires
index_mut-requires c =
    let at = at_place c.args.e.index c.args.self.now.changes.items c.in-Changed.place c.in-Changed.ensures.place_is in
    omega (arith, at.within, c.args.self.now.changes.ok.0)

pub returns-in-Changed-clause-pending : goal.returns-in-Changed-clause-pending
returns-in-Changed-clause-pending c =
    let cs = c.args.self.now.changes.items in
    let x = c.index_mut.result.now in
    let p = c.in-Changed.place in
    let kept = c.in-Changed.ensures in
    let change : EntityChange = record { entity = x.entity; fate = the.Dies } in
    let its = ap (λ (y : EntityChange). y.entity) c.index_mut.ensures.value ∙ kept.entity x in
    record {
      changes = changes_again c.args.world.now.state cs c.requires.pending.changes c.args.e p kept change its tt tt;
      places = placed_same _ cs _ (places_again c.args.world.now.state cs c.requires.pending.changes c.args.e p kept change its) c.requires.pending.places;
    }

pub returns-in-Changed-clause-done : goal.returns-in-Changed-clause-done
returns-in-Changed-clause-done c = λ tick.
    let w = c.args.world.now.state in
    let cs = c.args.self.now.changes.items in
    let x = c.index_mut.result.now in
    let p = c.in-Changed.place in
    let kept = c.in-Changed.ensures in
    let change : EntityChange = record { entity = x.entity; fate = the.Dies } in
    let its = ap (λ (y : EntityChange). y.entity) c.index_mut.ensures.value ∙ kept.entity x in
    ap (λ slots. let t : CommandTarget = record { slots = slots; passed_over = c.args.self.now.passed_over } in t)
    (slots_again w cs c.requires.pending.changes c.args.e p kept change its freed (λ slot. freed_again _ slot (kept.lasts change)))
    ∙ sym (if_lives c.args.e freed (target_of w c.args.self.now) (kept_lives w cs c.requires.pending.changes c.args.e p kept))

pub returns-in_ok-add-in-Unchanged-clause-pending : goal.returns-in_ok-add-in-Unchanged-clause-pending
returns-in_ok-add-in-Unchanged-clause-pending c =
    let w = c.args.world.now.state in
    let cs = c.args.self.now.changes.items in
    let h = c.in-Unchanged.ensures in
    let a = c.in_ok-add-in-Unchanged.ensures in
    record {
      changes = subst (AreChanges w) (sym a.changes) (killed_changes w cs c.requires.pending.changes c.args.e h.0 h.1);
      places = a.placed;
    }

pub returns-in_ok-add-in-Unchanged-clause-done : goal.returns-in_ok-add-in-Unchanged-clause-done
returns-in_ok-add-in-Unchanged-clause-done c = λ tick.
    let w = c.args.world.now.state in
    let cs = c.args.self.now.changes.items in
    let h = c.in-Unchanged.ensures in
    let a = c.in_ok-add-in-Unchanged.ensures in
    ap₂ (λ slots passed. let t : CommandTarget = record { slots = slots; passed_over = passed } in t)
    (ap (λ ds. changed ds w.slots) a.changes ∙ killed_slots w cs c.requires.pending.changes c.args.e h.0 h.1) a.passed
    ∙ sym (if_lives c.args.e freed (target_of w c.args.self.now) (alive_unchanged w cs c.requires.pending.changes c.args.e h.1 ∙ h.0))
