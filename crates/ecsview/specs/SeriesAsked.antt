-- What `series` is asked for.
use Rattle.std.specs.Prelude.{ℕ, ◌≤◌, List}
use Rattle.std.specs.Borrow.{Bor}
use Rattle.std.specs.List.{AllZip}
use Rattle.series.specs.Names.{IsSeries}
use Rattle.series.specs.declared.series.Series.{Series}
use Rattle.ecsview.specs.declared.series_args.SeriesArgs.{SeriesArgs}

-- these are the names of these series, each its own
abbrev pub AreNamed : List Series → List (Bor (List ℕ)) → Type 0
AreNamed series names = AllZip (λ one name. IsSeries one name.now) series names

-- the names are those of the series, and a row comes after a run at least
pub record IsFitting (args : SeriesArgs) : Type 0 where
  pub named : AreNamed args.series.items args.names.items
  pub some : 1 ≤ args.every
