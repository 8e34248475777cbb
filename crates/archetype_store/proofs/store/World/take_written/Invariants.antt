use Rattle.archetype_store.proofs.Common.{◌≡◌, ◌≤◌, take, length, vec_len, vec_capacity, AreTaken, all_away}
use Rattle.archetype_store.proofs.store.World.take_written.Given as goal

-- the columns so far are taken, and there is room for all
abbrev pub invariant-loop-at : goal.invariant-loop-at
invariant-loop-at l = record {
  away : l.self ≡ record { state = l.initial.self.state; layout = all_away (take l.at-index l.columns) l.initial.self.layout };
  taken : AreTaken l.initial.self.state.slots l.initial.self.layout (take l.at-index l.columns) l.taken.items;
  many : vec_len l.taken ≡ l.at-index;
  room : length l.columns ≤ vec_capacity l.taken;
}
