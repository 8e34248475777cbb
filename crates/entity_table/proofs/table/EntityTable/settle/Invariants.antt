use Rattle.std.proofs.Common.{◌≡◌, ◌≤◌, ◌<◌, ℕ, length, take, get_or}
use Rattle.model.specs.declared.entities.Entity.{Entity}
use Rattle.entity_table.specs.Ids.{IsGranted, spawned_all}
use Rattle.entity_table.proofs.table.EntityTable.settle.Given as goal

abbrev pub invariant-loop-e : goal.invariant-loop-e
invariant-loop-e l = record {
  spawns : l.self ≡ spawned_all (take l.e-index l.used) l.initial.self;
  granted : (k : ℕ) (d : Entity) → l.e-index ≤ k → k < length l.used → IsGranted l.self (get_or l.used k d);
}
