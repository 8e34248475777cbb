use Rattle.ambiguity_report.specs.Paths.{AreAllPaths}
use Rattle.ambiguity_report.proofs.before.all_paths.Given as goal

abbrev pub invariant-loop-system : goal.invariant-loop-system
invariant-loop-system l = AreAllPaths l.built l.system l.all.items
