use Rattle.std.proofs.Common.{◌≡◌, ◌≤◌, take, length, vec_len}
use Rattle.std.specs.Prelude.{vec_capacity}
use Rattle.entity_table.proofs.table.copied_places.Given as goal

-- the places so far are copied, and there is room for all
abbrev pub invariant-loop-place : goal.invariant-loop-place
invariant-loop-place l = record {
  same : l.copies.items ≡ take l.place-index l.places;
  many : vec_len l.copies ≡ l.place-index;
  room : length l.places ≤ vec_capacity l.copies;
}
