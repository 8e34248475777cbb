use Rattle.std.proofs.Common.{◌≡◌, ◌≤◌, vec_len}
use Rattle.entity_table.proofs.granting.make_so_many.Given as goal

-- the lists so far, and no more than are wanted
abbrev pub invariant-loop : goal.invariant-loop
invariant-loop l = (vec_len l.lists ≡ l.counter) × (l.counter ≤ l.count)
