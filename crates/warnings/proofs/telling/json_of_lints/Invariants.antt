use Rattle.std.proofs.Common.{take, string_bytes}
use Rattle.warnings.specs.Lines.{AreLines}
use Rattle.warnings.proofs.telling.json_of_lints.Given as goal

-- the lines of those so far
abbrev pub invariant-loop-lint : goal.invariant-loop-lint
invariant-loop-lint l = AreLines (take l.lint-index l.lints) (string_bytes l.text)
