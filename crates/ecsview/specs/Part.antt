-- Which runs of a record a command line asks to be drawn.
use Rattle.std.specs.Prelude.{ℕ, ◌==◌, Option, Some, None, length, option_and_then, option_map, if◌then◌else◌}
use Rattle.std.specs.List.{after_first, before_first}
use Rattle.std.specs.Option.{option_map_or}
use Rattle.clap.specs.Words.{Text}
use Rattle.command_line.specs.Values.{number_between}
use Rattle.ecsview.specs.declared.part.Part.{Part}

-- what comes before the first dot of a text, and behind it
abbrev pub before_dot : Text → Text
before_dot text = before_first (λ b. b == 46) text

abbrev pub behind_dot : Text → Text
behind_dot text = after_first (λ b. b == 46) text

-- two numbers that texts spell, counted from 1, of which the second is not less
abbrev pub part_between : Text → Text → Option Part
part_between first last =
    option_and_then (λ from. option_map (λ to. record { first = from; last = to }) (number_between from 4294967295 last)) (number_between 1 4294967295 first)

-- two numbers with two dots between
abbrev pub part_spelled : Text → Option Part
part_spelled text = if length (before_dot (behind_dot text)) == 0 then part_between (before_dot text) (behind_dot (behind_dot text)) else None

-- the first 50 where none are named
abbrev pub part_asked : Option Text → Option Part
part_asked runs = option_map_or part_spelled runs (Some (record { first = 1; last = 50 }))
