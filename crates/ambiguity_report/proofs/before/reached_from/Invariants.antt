use Rattle.std.proofs.Common.{◌≡◌, length, take}
use Rattle.ambiguity_report.proofs.Reaching.{AreMarked}
use Rattle.ambiguity_report.proofs.before.reached_from.Given as goal

abbrev pub invariant-loop-number : goal.invariant-loop-number
invariant-loop-number l = record {
  room : length l.reached ≡ 256;
  marks : AreMarked l.built l.first (take l.number-index l.built.order) l.reached;
}
