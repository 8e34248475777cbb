use Rattle.std.proofs.Common.{◌≡◌, [], map, take, drop}
use Rattle.query.specs.Term.{term_of}
use Rattle.script.specs.Faults.{code_fault}
use Rattle.script.specs.Block.{block_of}
use Rattle.script.proofs.check.check_code.Given as goal

abbrev pub invariant-loop-instruction : goal.invariant-loop-instruction
invariant-loop-instruction l =
    code_fault l.params (map term_of l.terms) l.rounds (map block_of l.before) [] l.code
    ≡ code_fault l.params (map term_of l.terms) l.rounds (map block_of l.before) (take l.instruction l.code) (drop l.instruction l.code)
