use Rattle.std.proofs.Common.{◌≤◌}
use Rattle.archetype_store.specs.Layout.{AreAllHome}
use Rattle.calls.proofs.tests.random.shuffle.Given as goal

-- the clock isn't before tick 1, and all columns are at home
abbrev pub invariant-loop : goal.invariant-loop
invariant-loop l = record {
  clock : 1 ≤ l.world.state.clock;
  home : AreAllHome l.world.layout;
}
