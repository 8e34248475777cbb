-- What a text that is printed leaves with the output and the standard error, each by what it held before and what it holds then.
use Rattle.std.specs.Prelude.{ℕ, ◌≡◌, ◌⊎◌, List, Option}
use Rattle.program.specs.declared.fault.Fault.TheVariants.{Write}
use Rattle.program.specs.Served.{HasGained, HasGainedFront, IsKept, Tells}

-- it was printed whole, and nothing is told
pub record IsWholePrinted (text : List ℕ) (status : ℕ) (out faults : Option (List ℕ) × Option (List ℕ)) : Type 0 where
  pub ends : status ≡ 0
  pub written : HasGained out text
  pub untold : IsKept faults

-- the output failed, which is told, and gained a beginning of the text
pub record IsFrontPrinted (text : List ℕ) (status : ℕ) (out faults : Option (List ℕ) × Option (List ℕ)) : Type 0 where
  pub written : HasGainedFront out text
  pub told : Tells Write status faults

-- one of these
abbrev pub IsTextPrinted : List ℕ → ℕ → (Option (List ℕ) × Option (List ℕ)) → (Option (List ℕ) × Option (List ℕ)) → Type 0
IsTextPrinted text status out faults = IsWholePrinted text status out faults ⊎ IsFrontPrinted text status out faults
