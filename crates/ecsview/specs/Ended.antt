-- How a command ends, by what it may answer and what it may be refused for. Each stream is given by what it held before and what it holds then.
use Rattle.std.specs.Prelude.{ℕ, ◌≡◌, ◌⊎◌, List, Option, string_bytes}
use Rattle.program.specs.Served.{HasGained, HasGainedFront, IsKept, Tells}
use Rattle.program.specs.declared.fault.Fault.TheVariants.{Write}
use Rattle.ecsview.specs.declared.viewing.Shown.{Shown}

-- the text of an answer was printed whole, the status is its status, and nothing is told
pub record IsPrinted (is_answer : Shown → Type 0) (status : ℕ) (out faults : Option (List ℕ) × Option (List ℕ)) : Type 0 where
  pub shown : Shown
  pub is : is_answer shown
  pub ends : status ≡ shown.status
  pub written : HasGained out (string_bytes shown.text)
  pub untold : IsKept faults

-- the output failed, which is told, and gained a beginning of the text of an answer
pub record IsCutOff (is_answer : Shown → Type 0) (status : ℕ) (out faults : Option (List ℕ) × Option (List ℕ)) : Type 0 where
  pub shown : Shown
  pub is : is_answer shown
  pub written : HasGainedFront out (string_bytes shown.text)
  pub told : Tells Write status faults

-- the work is refused with a fault, for its reason, which is told, and nothing is printed
pub record IsRefused {F : Type 0} (is_reason : F → Type 0) (tells : F → ℕ → (Option (List ℕ) × Option (List ℕ)) → Type 0) (status : ℕ) (out faults : Option (List ℕ) × Option (List ℕ)) : Type 0 where
  pub fault : F
  pub reason : is_reason fault
  pub told : tells fault status faults
  pub kept : IsKept out

-- one of these
abbrev pub IsEnded : {F : Type 0} → (Shown → Type 0) → (F → Type 0) → (F → ℕ → (Option (List ℕ) × Option (List ℕ)) → Type 0) → ℕ → (Option (List ℕ) × Option (List ℕ)) → (Option (List ℕ) × Option (List ℕ)) → Type 0
IsEnded is_answer is_reason tells status out faults =
    IsPrinted is_answer status out faults ⊎ IsCutOff is_answer status out faults ⊎ IsRefused is_reason tells status out faults
