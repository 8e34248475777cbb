use Rattle.std.proofs.Common.{◌≡◌, ℕ, List, length, take, drop}
use Rattle.std.specs.List.{AllByRecursion}
use Rattle.model.specs.state.State.{Memory}
use Rattle.body.specs.Steps.{IsMemoryAt}
use Rattle.state_text.specs.Laws.{FitsMemory}
use Rattle.state_text.specs.LineWords.{AreLines, memories_before}
use Rattle.state_text.proofs.reading.memories.read_memories.Given as goal

-- the memories so far are read
abbrev pub invariant-loop-at : goal.invariant-loop-at
invariant-loop-at l = record {
  sound : AllByRecursion (IsMemoryAt l.clock) l.memories.items;
  read : (ms : List Memory) (more : List (List (List ℕ))) → length ms ≡ l.count → AllByRecursion (IsMemoryAt l.clock) ms → AllByRecursion FitsMemory ms
      → AreLines (memories_before l.name ms more) l.fn.lines.rest.now
      → (l.memories.items ≡ take l._at ms) × AreLines (memories_before l.name (drop l._at ms) more) l.lines.rest.now;
}
