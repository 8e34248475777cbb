use Rattle.std.proofs.Common.{List, map, rules}
use Rattle.script.specs.Instruction.{IsInstruction}
use Rattle.script.specs.declared.instruction.Instruction.{Instruction}
use Rattle.program_file.specs.PlaceFault.{place_fault_of}
use Rattle.program_file.specs.Readings.{AreSpelled}
use Rattle.program_file.proofs.Refusals.{NoneIs-exit, spelled-refused}
use Rattle.program_file.proofs.Spelled.{AreSpelled-take}
use Rattle.program_file.proofs.readings.instructions_of.Goals as goal

-- the next text is read
pub loop-text-preserved : goal.loop-text-preserved
loop-text-preserved c =
    AreSpelled-take IsInstruction c.args.texts.now c.loop-text.text-index _ c.loop-text.code.items _ c.in_ok-read.field-0 (search rules)
    c.loop-text-test.true c.loop-text.invariant c.in_ok-read.ensures

-- a text spells none
pub returns-in_err-read-clause-refused : goal.returns-in_err-read-clause-refused
returns-in_err-read-clause-refused c =
    let texts = c.args.texts.now in
    NoneIs-exit (λ (all : List Instruction). AreSpelled IsInstruction all (map (λ text. text.now) texts)) c.from_residual.result (place_fault_of c.in_err-read.field-0.0) c.from_residual.ensures.1
    (spelled-refused IsInstruction texts c.loop-text.text-index _ c.in_err-read.field-0.0 c.loop-text-test.true c.in_err-read.ensures)
