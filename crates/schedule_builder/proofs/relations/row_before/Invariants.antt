use Rattle.std.proofs.Common.{ℕ, ◌+◌, ◌/◌, ◌≡◌, length, take}
use Rattle.number_set.specs.Members.{contains}
use Rattle.model.specs.Lists.{has}
use Rattle.schedule_builder.proofs.relations.row_before.Given as goal

abbrev pub invariant-loop-system : goal.invariant-loop-system
invariant-loop-system l = record {
  room : length l.row ≡ l.count / 64 + 1;
  members : (m : ℕ) → contains l.row m ≡ has m (take l.system-index l.predecessors);
}
