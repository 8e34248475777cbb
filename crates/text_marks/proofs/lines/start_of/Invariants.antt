use Rattle.std.proofs.Common.{◌≡◌, ◌≤◌, ◌<◌, ℕ, get_or}
use Rattle.text_marks.specs.Lines.{BeginsLine, breaks_before}
use Rattle.text_marks.proofs.lines.start_of.Given as goal

-- the last line so far begins there, and so many ended before it
abbrev pub invariant-loop-at : goal.invariant-loop-at
invariant-loop-at l = record {
  begins : BeginsLine l.text l.start;
  within : l.start ≤ l.at;
  unbroken : (k : ℕ) → l.start ≤ k → k < l.at → get_or l.text k 0 ≡ 10 → ⊥;
  breaks : l.breaks ≡ breaks_before l.text l.start;
  counted : l.breaks ≡ breaks_before l.text l.at;
  few : l.breaks ≤ l.at;
}
