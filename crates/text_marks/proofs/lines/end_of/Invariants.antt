use Rattle.std.proofs.Common.{◌≡◌, ◌≤◌, ◌<◌, ℕ, get_or}
use Rattle.text_marks.proofs.lines.end_of.Given as goal

-- no line has ended so far
abbrev pub invariant-loop-at : goal.invariant-loop-at
invariant-loop-at l = (k : ℕ) → l.place ≤ k → k < l.at → get_or l.text k 0 ≡ 10 → ⊥
