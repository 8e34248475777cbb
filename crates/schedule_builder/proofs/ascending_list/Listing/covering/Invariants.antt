use Rattle.std.proofs.Common.{ℕ, ◌<◌, ◌≡◌, ◌↔◌, true}
use Rattle.model.specs.Lists.{has}
use Rattle.model.specs.declarations.Hierarchy.{IsRising}
use Rattle.schedule_builder.specs.Conditions.{IsCovering}
use Rattle.schedule_builder.proofs.ascending_list.Listing.covering.Given as goal

abbrev pub invariant-loop-number : goal.invariant-loop-number
invariant-loop-number l = record {
  names : (m : ℕ) → (has m l.numbers.items ≡ true) ↔ ((m < l.number) × IsCovering l.conditions l.system m);
  rising : IsRising l.numbers.items;
}
