use Rattle.std.proofs.Common.{List, [], ◌∷◌, ◌++◌}
use Rattle.std.specs.Borrow.{Bor}
use Rattle.std.specs.Prelude.{ℕ}
use Rattle.series.specs.Names.{IsSeries}
use Rattle.series.specs.declared.series.Series.{Series}
use Rattle.ecsview.specs.SeriesAsked.{AreNamed}
use Rattle.ecsview.proofs.series_args.series_of.Goals as goal

-- one more of both
named_more : (series : List Series) (names : List (Bor (List ℕ))) (one : Series) (name : Bor (List ℕ)) → AreNamed series names → IsSeries one name.now → AreNamed (series ++ one ∷ []) (names ++ name ∷ [])
named_more [] [] one name are is = (is, tt)
named_more [] (n ∷ names) one name are is = absurd are
named_more (s ∷ series) [] one name are is = absurd are
named_more (s ∷ series) (n ∷ names) one name are is = (are.0, named_more series names one name are.1 is)

pub loop-word-preserved : goal.loop-word-preserved
loop-word-preserved c = rw (c.in_ok-push-in-Ok.ensures, c.in_ok-push.ensures) (named_more c.loop-word.series.items c.loop-word.names.items c.in-Ok.one _ c.loop-word.invariant c.in-Ok.ensures.ok)
