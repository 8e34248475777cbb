use Rattle.std.proofs.Common.{◌≡◌, ◌≤◌, ◌+◌, ◌++◌, ℕ, List, length, take, drop}
use Rattle.std.specs.List.{AllByRecursion}
use Rattle.model.specs.state.State.{Slot, most_indices}
use Rattle.archetype_store.specs.Layout.{AreAllHome}
use Rattle.archetype_store.specs.Store.{with_slots}
use Rattle.state_text.specs.LineWords.{AreLines, IsSlotAt, slots_before}
use Rattle.state_text.proofs.reading.slots.read_slots.Given as goal

-- the slots so far are added
abbrev pub invariant-loop-at : goal.invariant-loop-at
invariant-loop-at l = record {
  home : AreAllHome l.world.layout;
  clock : l.world.state.clock ≡ l.fn.world.state.clock;
  read : (slots : List Slot) (more : List (List (List ℕ))) → length slots ≡ l.count → length l.fn.world.state.slots + length slots ≤ most_indices
      → AllByRecursion (IsSlotAt l.fn.world.state.clock) slots → AreLines (slots_before (length l.fn.world.state.slots) slots more) l.fn.lines.rest.now
      → (l.world.state ≡ with_slots (λ front. front ++ take l._at slots) l.fn.world.state)
      × AreLines (slots_before (length l.fn.world.state.slots + l._at) (drop l._at slots) more) l.lines.rest.now;
}
