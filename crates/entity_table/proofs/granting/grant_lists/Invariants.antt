use Rattle.std.proofs.Common.{◌≡◌, ◌+◌, ◌-◌, ◌≤◌, ◌++◌, length, map, take, drop, sum, vec_len}
use Rattle.std.specs.Prelude.{vec_capacity}
use Rattle.model.specs.state.State.{most_indices}
use Rattle.model.specs.state.Ids.{vacant_indices, ids_of_each, grant_each}
use Rattle.entity_table.specs.Granting.{AreRoomy}
use Rattle.entity_table.proofs.granting.grant_lists.Given as goal

-- what is left to be granted comes to what was asked for
abbrev pub invariant-loop-place : goal.invariant-loop-place
invariant-loop-place l = record {
  kept : l.vacant.rising ≡ vacant_indices l.places.items;
  grants : grant_each (drop l.place l.counts) l.places.items ≡ grant_each l.counts l.initial.places.items;
  ids : map (λ list. list.items) (take l.place l.lists.items) ++ ids_of_each (drop l.place l.counts) l.places.items ≡ ids_of_each l.counts l.initial.places.items;
  few : length l.places.items + (sum (drop l.place l.counts) - length l.vacant.rising) ≤ most_indices;
  room : vec_len l.places + (sum (drop l.place l.counts) - length l.vacant.rising) ≤ vec_capacity l.places;
  lists : AreRoomy l.place l.counts l.lists.items;
  vacant_room : l.initial.vacant.room ≤ l.vacant.room;
}
