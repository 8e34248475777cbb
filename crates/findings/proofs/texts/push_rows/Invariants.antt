use Rattle.std.proofs.Common.{◌≤◌, ◌+◌, ◌-◌, length, map, string_bytes}
use Rattle.findings.proofs.Rows.{HasRows}
use Rattle.findings.proofs.texts.push_rows.Given as goal

-- the rows of the lines that are left, told behind those so far, make the rows of all
abbrev pub invariant-loop-at : goal.invariant-loop-at
invariant-loop-at l = record {
  at : l.at ≤ length l.lines;
  beside_at : l.beside_at ≤ length l.beside;
  rest : HasRows (map (λ line. line.now) l.lines) (map (λ line. line.now) l.beside) l.at l.beside_at (string_bytes l.fn.text) (string_bytes l.text);
}

abbrev pub decreases-loop-at : goal.decreases-loop-at
decreases-loop-at l = (length l.lines - l.at) + (length l.beside - l.beside_at)
