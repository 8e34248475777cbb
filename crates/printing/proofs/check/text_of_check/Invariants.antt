use Rattle.std.proofs.Common.{◌≡◌, take, string_bytes}
use Rattle.printing.specs.CheckText.{check_text}
use Rattle.printing.proofs.check.text_of_check.Given as goal

-- the runs so far are written
abbrev pub invariant-loop-verdict : goal.invariant-loop-verdict
invariant-loop-verdict l = record {
  count : l.number ≡ l.verdict-index;
  written : string_bytes l.text ≡ check_text (take l.verdict-index l.verdicts);
}
