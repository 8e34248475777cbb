use Rattle.std.proofs.Common.{◌≡◌, ◌<◌, ◌≤◌, ◌^◌, ℕ, List, length, map, take}
use Rattle.std.specs.List.{AllByRecursion}
use Rattle.std.specs.Vec.{vec_len, vec_capacity}
use Rattle.std.specs.Fmt.{decimal}
use Rattle.state_text.proofs.reading.words.numbers_of.Given as goal

-- the numbers so far are read, and there is room for all
abbrev pub invariant-loop-word : goal.invariant-loop-word
invariant-loop-word l = record {
  read : (ns : List ℕ) → AllByRecursion (λ n. n < 2 ^ 64) ns → map (λ word. word.now) l.words ≡ map decimal ns → l.numbers.items ≡ take l.word-index ns;
  count : vec_len l.numbers ≡ l.word-index;
  room : length l.words ≤ vec_capacity l.numbers;
}
