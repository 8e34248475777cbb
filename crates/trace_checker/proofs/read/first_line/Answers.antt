-- A line ends at the first end of a line.
use Rattle.std.proofs.Common.{sym}
use Rattle.trace_checker.specs.Grammar.{IsLine}
use Rattle.trace_checker.proofs.Ends.{none_without_end, none_before, only_before, rest_behind, outside_refuses, first_byte_of, memory_told}
use Rattle.trace_checker.proofs.read.first_line.Goals as goal

pub returns-in_default-clause-outside : goal.returns-in_default-clause-outside
returns-in_default-clause-outside c told = none_without_end _ (sym c.in_default.ensures)

pub returns-in-Ok-clause-found : goal.returns-in-Ok-clause-found
returns-in-Ok-clause-found c = only_before c.args.text.now c.in-Some.end (sym c.in-Some.ensures) _ _ (rest_behind c.args.text.now c.in-Some.end) c.in-Ok.ensures.reads

pub returns-in-Err-clause-outside : goal.returns-in-Err-clause-outside
returns-in-Err-clause-outside c told = none_before _ _ (sym c.in-Some.ensures) (outside_refuses IsLine _ c.in-Err.error told c.in-Err.ensures.reads)

pub returns-in-Err-clause-memory : goal.returns-in-Err-clause-memory
returns-in-Err-clause-memory c told = first_byte_of c.args.text.now c.in-Some.end (c.in-Err.ensures.memory (memory_told c.in-Err.error told))
