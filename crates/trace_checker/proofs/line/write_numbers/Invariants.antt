use Rattle.std.proofs.Common.{take}
use Rattle.std.specs.Fmt.{HasWritten, IsPlainFormatter}
use Rattle.trace_checker.specs.Grammar.{sets_text}
use Rattle.trace_checker.proofs.line.write_numbers.Given as goal

-- the numbers so far are written
abbrev pub invariant-loop-number : goal.invariant-loop-number
invariant-loop-number g l = IsPlainFormatter l.initial.f → HasWritten g.W.Write.write_str_gives l.initial.f (sets_text (take l.number-index l.numbers)) l.f
