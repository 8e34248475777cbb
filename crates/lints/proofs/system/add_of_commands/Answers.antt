use Rattle.std.proofs.Common.{ap}
use Rattle.lints.specs.declared.lint.Lint.TheVariants as lint
use Rattle.lints.proofs.Growing.{adds_both, adds_known, adds_tested}
use Rattle.lints.proofs.system.add_of_commands.Goals as goal

pub returns : goal.returns
returns c = adds_both _ _ _ _ _ (adds_tested _ _ _ _ _ c.is_without_command-is_without.ensures c.in_ok-add_where.ensures)
    (adds_known _ _ _ _ _ _ c.is_unused_slot-is_unused.ensures (ap (λ slot. lint.UnusedSlot c.args.system slot) c.last_slot-slot.ensures) c.in_ok-add_where-2.ensures)
