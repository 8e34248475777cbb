-- What a command leaves with the output and the standard error, each by what it held before and what it holds then.
use Rattle.std.specs.Prelude.{ℕ, List, Option}
use Rattle.program.specs.Served.{Tells}
use Rattle.ecsview.specs.Answer.{IsAnsweredOn}
use Rattle.ecsview.specs.Ended.{IsEnded}
use Rattle.ecsview.specs.Refusals.{IsRefusalOn}
use Rattle.ecsview.specs.declared.args.Work.{Work}

-- the text that the work answers was printed, whole or up to where the output failed, or the work is refused
abbrev pub IsViewed : List ℕ → List ℕ → Work → Option (List ℕ) → Option (List ℕ) → Option (List ℕ) → ℕ → (Option (List ℕ) × Option (List ℕ)) → (Option (List ℕ) × Option (List ℕ)) → Type 0
IsViewed opener rules work file trace other status out faults =
    IsEnded (IsAnsweredOn opener rules work file trace other) (IsRefusalOn work file trace other) Tells status out faults
