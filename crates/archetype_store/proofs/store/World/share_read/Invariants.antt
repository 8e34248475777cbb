use Rattle.archetype_store.proofs.Common.{◌≡◌, ◌≤◌, take, length, vec_len, vec_capacity, AreShared}
use Rattle.archetype_store.proofs.store.World.share_read.Given as goal

-- the columns so far are shared, and there is room for all
abbrev pub invariant-loop-at : goal.invariant-loop-at
invariant-loop-at l = record {
  same : l.self ≡ l.initial.self;
  shared : AreShared l.initial.self.state.slots l.initial.self.layout (take l.at-index l.columns) l.shared.items;
  many : vec_len l.shared ≡ l.at-index;
  room : length l.columns ≤ vec_capacity l.shared;
}
