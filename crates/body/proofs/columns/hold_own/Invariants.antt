use Rattle.std.proofs.Common.{◌≡◌, take, map, vec_len}
use Rattle.std.specs.Prelude.{vec_capacity}
use Rattle.archetype_store.specs.Lending.{all_away}
use Rattle.body.specs.HeldColumns.{held_seen}
use Rattle.body.specs.Picked.{AreOwnOf}
use Rattle.body.proofs.columns.hold_own.Given as goal

-- the columns so far are held, and there is room for all
abbrev pub invariant-loop-at : goal.invariant-loop-at
invariant-loop-at l = record {
  away : l.world ≡ record { state = l.initial.world.state; layout = all_away (take l.at-index l.spots) l.initial.world.layout };
  own : AreOwnOf l.initial.world (take l.at-index l.spots) (map held_seen l.held.items);
  many : vec_len l.held ≡ l.at-index;
  capacity : vec_capacity l.held ≡ vec_capacity l.initial.held;
}
