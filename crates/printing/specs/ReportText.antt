-- The text of an ambiguity report.
use Rattle.std.specs.Prelude.{ℕ, Bool, cond, List, [], ◌∷◌, ◌++◌, get_or, flat_map, codes, decimal}
use Rattle.access_set.specs.Datum.{datum_name}
use Rattle.ambiguity_report.specs.declared.report.Pair.{Pair}
use Rattle.ambiguity_report.specs.declared.races.Racer.{Racer}
use Rattle.ambiguity_report.specs.declared.races.Racer.TheVariants.{System, Condition}

-- what races: the name of a system, or the number of a condition
abbrev pub racer_text : List (List ℕ) → Racer → List ℕ
racer_text names (System system) = get_or names system []
racer_text names (Condition condition) = codes "#" ++ decimal condition

-- the line of a pair: what races, the system that it races with, the datum on which they conflict, and whether it is declared that they may
abbrev pub pair_line : List (List ℕ) → Pair → List ℕ
pair_line names pair = racer_text names pair.first ++ (32 ∷ get_or names pair.second []) ++ (32 ∷ datum_name pair.datum) ++ cond pair.silenced (codes " silenced") [] ++ 10 ∷ []

-- the last line: whether the schedule is settled
abbrev pub settled_line : Bool → List ℕ
settled_line settled = codes "settled " ++ cond settled (codes "yes") (codes "no") ++ 10 ∷ []

-- the text of a report, of systems with these names
abbrev pub report_text : List (List ℕ) → List Pair → Bool → List ℕ
report_text names pairs settled = flat_map (pair_line names) pairs ++ settled_line settled
