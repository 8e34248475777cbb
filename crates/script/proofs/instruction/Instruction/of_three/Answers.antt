-- The first word tells which instruction three are.
use Rattle.std.proofs.Common.{sym, subst, [], ◌∷◌}
use Rattle.parsing.specs.Reads.{Reads}
use Rattle.script.specs.Instruction.{AreInstruction}
use Rattle.script.proofs.instruction.Instruction.of_three.Goals as goal

pub change-requires : goal.change-requires
change-requires c = record { has = c.in_default.not-has; emit = c.in_default.not-emit; insert = c.requires; remove = c.in_default.not-remove }

pub returns-in-has : goal.returns-in-has
returns-in-has c = subst (λ word. Reads AreInstruction (word ∷ c.args.second.now ∷ c.args.third.now ∷ []) c.has.result) (sym c.in-has.is) c.has.ensures

pub returns-in-emit : goal.returns-in-emit
returns-in-emit c = subst (λ word. Reads AreInstruction (word ∷ c.args.second.now ∷ c.args.third.now ∷ []) c.emit.result) (sym c.in-emit.is) c.emit.ensures

pub returns-in-remove : goal.returns-in-remove
returns-in-remove c = subst (λ word. Reads AreInstruction (word ∷ c.args.second.now ∷ c.args.third.now ∷ []) c.remove.result) (sym c.in-remove.is) c.remove.ensures
