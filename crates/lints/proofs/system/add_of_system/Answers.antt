use Rattle.lints.specs.Lints.{IsOfSystem}
use Rattle.lints.proofs.Growing.{adds_both}
use Rattle.lints.proofs.system.add_of_system.Goals as goal

pub returns : goal.returns
unfolding IsOfSystem
returns c = simp (← c.as_slice-blocks.ensures.value, ← c.as_slice.ensures.value)
    (adds_both _ _ _ _ _ c.in_ok-add_of_queries.ensures (adds_both _ _ _ _ _ c.in_ok-add_of_resources.ensures (adds_both _ _ _ _ _ c.in_ok-add_of_events.ensures (adds_both _ _ _ _ _ c.in_ok-add_of_commands.ensures
    (adds_both _ _ _ _ _ c.in_ok-add_of_blocks.ensures (adds_both _ _ _ _ _ c.in_ok-add_of_registers.ensures c.in_ok-add_of_item.ensures))))))
