-- What a command line that asks for no work leaves with the output and the standard error, each by what it held before and what it holds then.
use Rattle.std.specs.Prelude.{ℕ, ◌≡◌, ◌⊎◌, Bool, true, false, List, [], ◌∷◌, Option, codes, string_bytes}
use Rattle.std.specs.Str.{bytes_eq}
use Rattle.std.specs.declared.alloc.Global.{Global}
use Rattle.std.specs.declared.string.String.{String}
use Rattle.command_line.specs.Grammar.{IsNoWork}
use Rattle.command_line.specs.declared.args.LineFault.{LineFault}
use Rattle.program.specs.LineReported.{IsAskedText, IsLineReported}
use Rattle.ecsview.specs.Asked.{asked_by, ecsview_program}

-- whether the version is asked for, by one word behind the program's own name
abbrev pub asks_version : List (String Global) → Bool
asks_version [] = false
asks_version (name ∷ []) = false
asks_version (name ∷ word ∷ []) = bytes_eq (string_bytes word) (codes "--version")
asks_version (name ∷ word ∷ other ∷ words) = false

-- the version, of which this is the line, was asked for and printed; or a line that is no work was reported, by what it is
abbrev pub IsUnasked : List ℕ → List (String Global) → ℕ → (Option (List ℕ) × Option (List ℕ)) → (Option (List ℕ) × Option (List ℕ)) → Type 0
IsUnasked version words status out faults =
    ((asks_version words ≡ true) × IsAskedText version status out faults)
    ⊎ ((fault : LineFault) × IsNoWork asked_by ecsview_program words fault × IsLineReported fault status out faults)
