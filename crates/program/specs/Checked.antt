-- What a schedule says of a trace that is read.
use Rattle.std.specs.Prelude.{ℕ, ◌≡◌, cond, List, Option, IfSome}
use Rattle.std.specs.List.{list_all}
use Rattle.model.specs.steps.Schedule.{Schedule, Recorded}
use Rattle.trace_checker.specs.declared.check.Verdict.{Verdict}
use Rattle.trace_checker.specs.Grammar.{AreFitting, trace_text}
use Rattle.trace_checker.specs.Verdicts.{AreVerdicts, is_complete}
use Rattle.printing.specs.CheckText.{check_text}
use Rattle.program.specs.Said.{IsShortTrace}

-- the text of what a schedule says of the runs whose text is the trace, which is no longer than one may be, with the status 0 where all of them are complete, and else 1
pub record IsCheckOf (s : Schedule) (trace : Option (List ℕ)) (status : ℕ) (text : List ℕ) : Type 0 where
  pub within : IfSome trace IsShortTrace
  pub runs : List Recorded
  pub fitting : AreFitting runs
  pub read : IfSome trace (λ bytes. bytes ≡ trace_text runs)
  pub verdicts : List Verdict
  pub said : AreVerdicts s runs verdicts
  pub same : text ≡ check_text verdicts
  pub ends : status ≡ cond (list_all is_complete verdicts) 0 1
