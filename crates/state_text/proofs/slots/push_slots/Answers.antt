use Rattle.std.proofs.Common.{map, ap, string_bytes, arith, rules}
use Rattle.archetype_store.specs.Row.{component_of}
use Rattle.state_text.proofs.Lines.{slots-more}
use Rattle.state_text.proofs.slots.push_slots.Goals as goal

pub loop-index-preserved : goal.loop-index-preserved
loop-index-preserved c =
    slots-more c.args.form c.args.world.now.state.slots c.loop-index.index c.slot_at-slot.result.generation c.slot_at-slot.result.status (map component_of c.deref.result.now)
    (string_bytes c.args.text.now) (string_bytes c.loop-index.text) (string_bytes c.push_slot.new.text) (omega arith)
    (ap (λ s. s.generation) c.slot_at-slot.ensures) (ap (λ s. s.status) c.slot_at-slot.ensures) (search rules) c.loop-index.invariant c.in_ok-push_slot.ensures
