-- What is told of a record that is not taken again.
use Rattle.std.specs.Prelude.{ℕ, ◌≡◌, ◌⊎◌, List, Option}
use Rattle.program.specs.Served.{Tells}
use Rattle.program.specs.declared.fault.Fault.TheVariants as reported
use Rattle.session_records.specs.declared.told.Told.{Told}
use Rattle.session_records.specs.declared.told.Told.TheVariants as told

-- a record that is refused ends with status 1, and a fault with its own; where memory fails for the line, that is told
abbrev pub IsReported : Told → ℕ → (Option (List ℕ) × Option (List ℕ)) → Type 0
IsReported (told.Fault fault) status faults = Tells fault status faults
IsReported told.TooLong status faults = (status ≡ 1) ⊎ Tells reported.Memory status faults
IsReported (told.Refused why) status faults = (status ≡ 1) ⊎ Tells reported.Memory status faults
