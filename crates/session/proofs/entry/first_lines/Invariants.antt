use Rattle.std.proofs.Common.{◌≡◌, ◌++◌, List, ℕ}
use Rattle.session.specs.Body.{AreLines}
use Rattle.session.proofs.entry.first_lines.Given as goal

-- these lines stand in front of the rest
abbrev pub invariant-loop : goal.invariant-loop
invariant-loop l = (front : List ℕ) × AreLines l.counter front × (l.text ≡ front ++ l.rest)
