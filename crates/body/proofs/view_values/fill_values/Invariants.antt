use Rattle.std.proofs.Common.{◌≡◌, ℕ, ◌<◌, length}
use Rattle.model.specs.shown.Input.{value_of}
use Rattle.body.specs.Values.{value_at}
use Rattle.body.proofs.view_values.fill_values.Given as goal

abbrev pub invariant-loop-number : goal.invariant-loop-number
invariant-loop-number l = record {
  size : length l.values ≡ 8;
  done : (n : ℕ) → n < l.number → value_at l.values n ≡ value_of l.world.state.resources n;
}
