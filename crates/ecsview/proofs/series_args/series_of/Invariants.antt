use Rattle.ecsview.specs.SeriesAsked.{AreNamed}
use Rattle.ecsview.proofs.series_args.series_of.Given as goal

-- the names so far are those of the series so far
abbrev pub invariant-loop-word : goal.invariant-loop-word
invariant-loop-word l = AreNamed l.series.items l.names.items
