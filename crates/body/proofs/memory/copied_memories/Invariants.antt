use Rattle.std.proofs.Common.{◌≡◌, ◌≤◌, length, take, vec_len}
use Rattle.std.specs.Prelude.{vec_capacity}
use Rattle.body.proofs.memory.copied_memories.Given as goal

-- the memories so far are copied, and there is room for all
abbrev pub invariant-loop-memory : goal.invariant-loop-memory
invariant-loop-memory l = record {
  same : l.copies.items ≡ take l.memory-index l.memories;
  many : vec_len l.copies ≡ l.memory-index;
  room : length l.memories ≤ vec_capacity l.copies;
}
