use Rattle.std.proofs.Common.{ap, ◌∙◌}
use Rattle.archetype_store.specs.declared.change.Fate.TheVariants.{Lives}
use Rattle.archetype_store.specs.Store.{with_slots}
use Rattle.archetype_store.proofs.OneChange.{one_changed}
use Rattle.state_text.proofs.reading.slots.fill_slot.Goals as goal

pub returns-clause-all : goal.returns-clause-all
returns-clause-all c alive =
    let w = c.args.world.now.state in
    c.in_ok-change.ensures.ok ∙ ap (λ slots. with_slots (λ _. slots) w) (one_changed (record { entity = c.args.id; fate = Lives c.args.row }) w.slots)
