use Rattle.std.proofs.Common.{◌≡◌, ◌+◌, take, map, vec_len}
use Rattle.std.specs.Prelude.{vec_capacity}
use Rattle.body.specs.HeldColumns.{held_seen}
use Rattle.body.specs.Picked.{AreReadOf}
use Rattle.body.proofs.columns.hold_read.Given as goal

-- the columns so far are held, and there is room for all
abbrev pub invariant-loop-at : goal.invariant-loop-at
invariant-loop-at l = record {
  same : l.world ≡ l.initial.world;
  read : AreReadOf l.initial.world (take l.at-index l.spots) (map held_seen l.initial.held.items) (map held_seen l.held.items);
  many : vec_len l.held ≡ vec_len l.initial.held + l.at-index;
  capacity : vec_capacity l.held ≡ vec_capacity l.initial.held;
}
