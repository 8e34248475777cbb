use Rattle.std.proofs.Common.{◌≡◌, ℤ, List, length, map, take, FitsSigned, w64}
use Rattle.std.specs.List.{AllByRecursion}
use Rattle.std.specs.Fmt.{signed_decimal}
use Rattle.state_text.proofs.reading.memories.registers_of.Given as goal

-- the registers so far are read
abbrev pub invariant-loop-at : goal.invariant-loop-at
invariant-loop-at l = record {
  number : length l.registers ≡ 8;
  read : (zs : List ℤ) → AllByRecursion (FitsSigned w64) zs → map (λ word. word.now) l.words ≡ map signed_decimal zs → take l.at l.registers ≡ take l.at zs;
}
