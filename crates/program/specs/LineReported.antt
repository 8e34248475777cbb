-- What a command line that asks for no work leaves with the output and the standard error, each by what it held before and what it holds then.
use Rattle.std.specs.Prelude.{ℕ, ◌≡◌, ◌⊎◌, List, Option, string_bytes}
use Rattle.command_line.specs.Args.{line_status_of, line_text_of}
use Rattle.command_line.specs.declared.args.LineFault.{LineFault}
use Rattle.command_line.specs.declared.args.LineFault.TheVariants.{Help, Usage, Memory}
use Rattle.program.specs.declared.fault.Fault.TheVariants.{Write}
use Rattle.program.specs.Served.{HasGained, HasGainedFront, IsKept, Tells}

-- a text that is asked for, such as help, was printed, and nothing is told; or the output failed, which is told, and gained a beginning of the text
abbrev pub IsAskedText : List ℕ → ℕ → (Option (List ℕ) × Option (List ℕ)) → (Option (List ℕ) × Option (List ℕ)) → Type 0
IsAskedText text status out faults = ((status ≡ 0) × HasGained out text × IsKept faults) ⊎ (HasGainedFront out text × Tells Write status faults)

-- what is at fault was told, or a beginning of that, and nothing is printed
abbrev pub IsReportedOf : LineFault → ℕ → (Option (List ℕ) × Option (List ℕ)) → (Option (List ℕ) × Option (List ℕ)) → Type 0
IsReportedOf fault status out faults = (status ≡ line_status_of fault) × IsKept out × HasGainedFront faults (line_text_of fault)

-- help goes to the output, and all else to the standard error
abbrev pub IsLineReported : LineFault → ℕ → (Option (List ℕ) × Option (List ℕ)) → (Option (List ℕ) × Option (List ℕ)) → Type 0
IsLineReported (Help text) status out faults = IsAskedText (string_bytes text) status out faults
IsLineReported (Usage text) status out faults = IsReportedOf (Usage text) status out faults
IsLineReported Memory status out faults = IsReportedOf Memory status out faults
