use Rattle.std.proofs.Common.{◌≡◌, drop, length, map}
use Rattle.engine.specs.Deferred.{noted_each}
use Rattle.engine.proofs.granting.note_grants.Given as goal

-- what is still to be noted makes of the ids so far what all of it makes of those of before
abbrev pub invariant-loop-place : goal.invariant-loop-place
invariant-loop-place l = record {
  noted : noted_each (drop l.place l.systems) (map (λ ids. ids.items) (drop l.place l.given)) l.grants ≡ noted_each l.systems (map (λ ids. ids.items) l.initial.given) l.initial.grants;
  count : length l.grants ≡ length l.initial.grants;
}
