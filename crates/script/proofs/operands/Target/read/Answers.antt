-- What is none of the three is no target.
use Rattle.std.proofs.Common.{ℕ, List}
use Rattle.parsing.specs.Reads.{SpellsNone}
use Rattle.kinds.specs.Res.{IsRes}
use Rattle.script.specs.declared.operands.Target.TheVariants.{Register, Field, Resource}
use Rattle.script.specs.Operands.{IsRegister, IsField, IsTarget}
use Rattle.script.proofs.Fields.{only_register, only_resource, only_one_field}
use Rattle.script.proofs.operands.Target.read.Goals as goal

no_target : (word : List ℕ) → SpellsNone IsRegister word → SpellsNone IsRes word → SpellsNone IsField word → SpellsNone IsTarget word
no_target word no_register no_resource no_field (Register n) spelled = no_register n spelled
no_target word no_register no_resource no_field (Field field) spelled = no_field field spelled
no_target word no_register no_resource no_field (Resource resource) spelled = no_resource resource spelled

pub returns-in_err-read-in-None : goal.returns-in_err-read-in-None
returns-in_err-read-in-None c = rw c.from_residual.ensures (no_target c.args.word.now c.in_default.ensures c.in-None.ensures c.in_err-read-in-None.ensures)

pub returns-in-Some : goal.returns-in-Some
returns-in-Some c = (c.in-Some.ensures.0, only_register c.args.word.now c.in-Some.number c.in-Some.ensures)

pub returns-in-Some-named : goal.returns-in-Some-named
returns-in-Some-named c = (c.in-Some-named.ensures.0, only_resource c.args.word.now c.in-Some-named.resource c.in-Some-named.ensures)

pub returns-in_ok-read-in-None : goal.returns-in_ok-read-in-None
returns-in_ok-read-in-None c = (c.in_ok-read-in-None.ensures.0, only_one_field c.args.word.now c.in_ok-read-in-None.field-0 c.in_ok-read-in-None.ensures)
