use Rattle.std.proofs.Common.{◌≡◌, ℕ, [], length, get_or}
use Rattle.engine.proofs.deferred.Deferred.new.Given as goal

abbrev pub invariant-loop-system : goal.invariant-loop-system
invariant-loop-system l = record {
  command_count : length l.commands.items ≡ l._system;
  grant_count : length l.grants.items ≡ l._system;
  no_commands : (n : ℕ) → get_or l.commands.items n [] ≡ [];
  no_grants : (n : ℕ) → get_or l.grants.items n [] ≡ [];
}
