use Rattle.ecsview.proofs.series_args.SeriesArgs.read.Goals as goal
use Rattle.std.proofs.Common.{arith}

-- the series are those of the names
pub returns : goal.returns
returns c = record {
  named = c.in_ok-names.ensures;
  some = omega (arith, c.max-every.ensures);
}
