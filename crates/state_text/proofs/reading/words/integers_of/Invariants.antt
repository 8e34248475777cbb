use Rattle.std.proofs.Common.{◌≡◌, ◌≤◌, ℤ, FitsSigned, w64, List, length, map, take}
use Rattle.std.specs.List.{AllByRecursion}
use Rattle.std.specs.Vec.{vec_len, vec_capacity}
use Rattle.std.specs.Fmt.{signed_decimal}
use Rattle.state_text.proofs.reading.words.integers_of.Given as goal

-- the integers so far are read, and there is room for all
abbrev pub invariant-loop-word : goal.invariant-loop-word
invariant-loop-word l = record {
  read : (zs : List ℤ) → AllByRecursion (FitsSigned w64) zs → map (λ word. word.now) l.words ≡ map signed_decimal zs → l.integers.items ≡ take l.word-index zs;
  count : vec_len l.integers ≡ l.word-index;
  room : length l.words ≤ vec_capacity l.integers;
}
