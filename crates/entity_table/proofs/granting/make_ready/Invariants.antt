use Rattle.std.proofs.Common.{◌≡◌, ◌≤◌, ◌<◌, ℕ, [], Vec, Global, length, get_or}
use Rattle.std.specs.Prelude.{vec_capacity}
use Rattle.model.specs.declared.entities.Entity.{Entity}
use Rattle.entity_table.proofs.granting.make_ready.Given as goal

-- there is a list for each count, and those so far are empty and have room
abbrev pub invariant-loop-place : goal.invariant-loop-place
invariant-loop-place l = record {
  many : length l.lists.items ≡ length l.counts;
  empty : (k : ℕ) (d : Vec Entity Global) → k < l.place → (get_or l.lists.items k d).items ≡ [];
  room : (k : ℕ) (d : Vec Entity Global) → k < l.place → get_or l.counts k 0 ≤ vec_capacity (get_or l.lists.items k d);
}
