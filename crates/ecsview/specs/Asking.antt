-- What a command line asks of an explanation.
use Rattle.std.specs.Prelude.{Bool, true, false, List, Option, Some, None, codes, is_some, option_map, option_and_then, if◌then◌else◌}
use Rattle.std.specs.Option.{option_map_or}
use Rattle.std.specs.Str.{bytes_eq}
use Rattle.clap.specs.Words.{Row, Text, first_of}
use Rattle.ecsview.specs.declared.asking.Asking.{Asking}
use Rattle.ecsview.specs.declared.asking.Format.{Format}
use Rattle.ecsview.specs.declared.asking.Format.TheVariants as format

-- whether warnings are denied, which is so where that is asked for
abbrev pub denies_of : Text → Option Bool
denies_of text = if bytes_eq text (codes "warnings") then Some true else None

abbrev pub denies_asked : Option Text → Option Bool
denies_asked deny = option_map_or denies_of deny (Some false)

-- how findings are told: as texts where nothing is asked for
abbrev pub format_of : Text → Option Format
format_of text = if bytes_eq text (codes "text") then Some format.Text else (if bytes_eq text (codes "json") then Some format.Json else None)

abbrev pub format_asked : Option Text → Option Format
format_asked form = option_map_or format_of form (Some format.Text)

-- both, and whether a trace is named
abbrev pub asking_in : List Row → Option Asking
asking_in rows =
    option_and_then (λ denies. option_map (λ form. record { denies = denies; format = form; traced = is_some (first_of (codes "trace") rows) }) (format_asked (first_of (codes "format") rows))) (denies_asked (first_of (codes "deny") rows))
