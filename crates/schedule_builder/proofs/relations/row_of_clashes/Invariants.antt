use Rattle.std.proofs.Common.{ℕ, ◌+◌, ◌/◌, ◌<◌, ◌≡◌, ◌↔◌, true, length}
use Rattle.number_set.specs.Members.{contains}
use Rattle.model.specs.access.Conflict.{Conflict}
use Rattle.schedule_builder.specs.Rows.{system_in}
use Rattle.schedule_builder.proofs.relations.row_of_clashes.Given as goal

abbrev pub invariant-loop-other : goal.invariant-loop-other
invariant-loop-other l = record {
  room : length l.row ≡ length l.systems / 64 + 1;
  members : (m : ℕ) → (contains l.row m ≡ true) ↔ ((m < l.other) × Conflict (system_in l.systems m).params l.access);
}
