use Rattle.archetype_store.proofs.Common.{◌≡◌, ◌≤◌, length, map, take, vec_len, vec_capacity, owned}
use Rattle.archetype_store.proofs.owning.copied_tables.Given as goal

-- the tables so far are copied, and there is room for all
abbrev pub invariant-loop-table : goal.invariant-loop-table
invariant-loop-table l = record {
  same : l.copies.items ≡ map owned (take l.table-index l.tables);
  many : vec_len l.copies ≡ l.table-index;
  room : length l.tables ≤ vec_capacity l.copies;
}
