-- What is no slot is not spawned.
use Rattle.std.proofs.Common.{ℕ, List, [], ◌∷◌, codes}
use Rattle.parsing.specs.Reads.{SpellsNone}
use Rattle.script.specs.declared.instruction.Instruction.TheVariants.{Change, Compare, Has, Emit, Spawn, Insert, Remove, Despawn}
use Rattle.script.specs.Operands.{IsSlot}
use Rattle.script.specs.Instruction.{AreInstruction}
use Rattle.script.proofs.instruction.Instruction.spawn.Goals as goal

no_spawn : (word : List ℕ) → SpellsNone IsSlot word → SpellsNone AreInstruction (codes "spawn" ∷ word ∷ [])
no_spawn word no_slot (Change operation target source) spelled = spelled
no_spawn word no_slot (Compare relation left right passed) spelled = spelled
no_spawn word no_slot (Has kind passed) spelled = spelled
no_spawn word no_slot (Emit event source) spelled = spelled
no_spawn word no_slot (Spawn slot) spelled = no_slot slot spelled.1
no_spawn word no_slot (Insert subject kind values) spelled = spelled
no_spawn word no_slot (Remove subject kind) spelled = spelled
no_spawn word no_slot (Despawn subject) spelled = (let clash = spelled.0 in cc)

pub returns-in_err-read_slot : goal.returns-in_err-read_slot
returns-in_err-read_slot c = rw c.from_residual.ensures (no_spawn c.args.slot.now c.in_err-read_slot.ensures)
