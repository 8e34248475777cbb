use Rattle.std.proofs.Common.{◌≡◌, ◌<◌, ℕ, length, map, true}
use Rattle.program.specs.Said.{script_said}
use Rattle.program.specs.Setup.{fits_at}
use Rattle.program.proofs.schedule.bodies_of.Given as goal

-- the scripts so far are those of their codes, and fit their systems
abbrev pub invariant-loop-code : goal.invariant-loop-code
invariant-loop-code l = record {
  count : length l.bodies.items ≡ length l.yielded;
  fit : (n : ℕ) → n < length l.bodies.items → fits_at l.built l.bodies.items n ≡ true;
  said : l.bodies.items ≡ map (λ code. script_said code.blocks) l.yielded;
}
