use Rattle.std.proofs.Common.{◌≡◌, length, drop}
use Rattle.ambiguity_report.proofs.Backwards.{AreMarkedBehind}
use Rattle.ambiguity_report.proofs.before.reaching_to.Given as goal

abbrev pub invariant-loop-place : goal.invariant-loop-place
invariant-loop-place l = record {
  room : length l.reaching ≡ 256;
  marks : AreMarkedBehind l.built l.last (drop l.place l.built.order) l.reaching;
}
