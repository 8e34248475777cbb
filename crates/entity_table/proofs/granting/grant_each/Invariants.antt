use Rattle.std.proofs.Common.{◌≡◌, ◌+◌, ◌-◌, ◌≤◌, ◌++◌, length, vec_len, vec_capacity}
use Rattle.model.specs.state.State.{most_indices}
use Rattle.model.specs.state.Ids.{vacant_indices, granted_ids, grant}
use Rattle.entity_table.proofs.granting.grant_each.Given as goal

abbrev pub invariant-loop : goal.invariant-loop
invariant-loop l = record {
  kept : l.vacant.rising ≡ vacant_indices l.places.items;
  grants : grant (l.count - l.counter) l.places.items ≡ grant l.count l.initial.places.items;
  ids : l.granted.items ++ granted_ids (l.count - l.counter) l.places.items ≡ l.initial.granted.items ++ granted_ids l.count l.initial.places.items;
  few : length l.places.items + ((l.count - l.counter) - length l.vacant.rising) ≤ most_indices;
  room : vec_len l.places + ((l.count - l.counter) - length l.vacant.rising) ≤ vec_capacity l.places;
  granted_room : vec_len l.granted + (l.count - l.counter) ≤ vec_capacity l.granted;
  capacity : vec_capacity l.initial.places ≤ vec_capacity l.places;
  vacant_room : l.initial.vacant.room ≤ l.vacant.room;
}
