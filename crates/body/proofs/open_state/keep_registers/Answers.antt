use Rattle.model.specs.runs.RunState.{with_registers}
use Rattle.entity_table.proofs.Edits.{set-update_at}
use Rattle.body.proofs.open_state.keep_registers.Goals as goal

pub returns-clause-memories : goal.returns-clause-memories
returns-clause-memories c = rw c.set_registers.ensures (set-update_at (with_registers c.args.registers) c.args.memories.now c.args.system _ c.requires)
