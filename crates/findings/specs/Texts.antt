-- The texts of what is found: pairs that race with their witnesses, and where two traces part.
use Rattle.std.specs.Prelude.{ℕ, ◌+◌, ◌≡◌, ◌≢◌, ◌<◌, ◌^◌, ◌==◌, ◌↔◌, ◌⊎◌, Bool, false, cond, List, [], ◌∷◌, ◌++◌, codes, decimal, flat_map, get_or, length, reverse, Option, Some, None, string_bytes}
use Rattle.std.specs.List.{before_first, position_or_len, slice_get}
use Rattle.std.specs.Option.{option_to_list}
use Rattle.std.specs.Str.{bytes_eq}
use Rattle.std.specs.Str.Lines.{lines}
use Rattle.std.specs.Str.Parse.{IsNumeral, digits_value, without_leading_plus}
use Rattle.ambiguity_report.specs.declared.report.Pair.{Pair}
use Rattle.model.specs.declared.steps.Step.{Step}
use Rattle.model.specs.declared.steps.Step.TheVariants.{Cond, Start, Skip, Finish, Sync}
use Rattle.printing.specs.ReportText.{pair_line, racer_text}
use Rattle.trace_checker.specs.Grammar.{lines_text, run_lines, step_text}
use Rattle.findings.specs.Apart.{IsFirstApart}
use Rattle.findings.specs.declared.diverging.Parting.{Parting}
use Rattle.findings.specs.declared.diverging.Parting.TheVariants as parting
use Rattle.findings.specs.declared.diverging.Place.{Place}
use Rattle.findings.specs.declared.witness.RunOutcome.{RunOutcome}
use Rattle.findings.specs.declared.witness.Witness.{Witness}

-- ---- the first line in which two texts differ

-- the line at a place, an empty one where there is none
abbrev pub line_at : List (List ℕ) → ℕ → List ℕ
line_at list place = get_or list place [] ++ 10 ∷ []

-- the lines at a place of two texts, behind its number, counted from 1
abbrev pub apart_text : List (List ℕ) → List (List ℕ) → ℕ → List ℕ
apart_text ones others place = codes "-- line " ++ decimal (place + 1) ++ codes " differs" ++ (10 ∷ []) ++ line_at ones place ++ line_at others place

-- what is said of two texts: that they are equal, or the first line in which they differ
abbrev pub IsDifference : List ℕ → List ℕ → List ℕ → Type 0
IsDifference one other text =
    ((one ≡ other) × (text ≡ codes "-- equal" ++ 10 ∷ []))
    ⊎ ((one ≢ other) × ((place : ℕ) × IsFirstApart (lines one) (lines other) place × (text ≡ apart_text (lines one) (lines other) place)))

-- ---- the lines in which two texts differ

-- a row: a line of each of two texts, or a line of one of them
abbrev pub Row : Type 0
Row = Option (List ℕ) × Option (List ℕ)

-- a line behind a mark, where there is one
abbrev pub marked_line : List ℕ → Option (List ℕ) → List ℕ
marked_line mark None = []
marked_line mark (Some line) = mark ++ line ++ 10 ∷ []

-- whether both lines of a row are there, and the same
abbrev pub is_same : Option (List ℕ) → Option (List ℕ) → Bool
is_same None other = false
is_same (Some line) None = false
is_same (Some line) (Some other) = bytes_eq line other

-- what a row tells: nothing where its lines are the same
abbrev pub row_text : Row → List ℕ
row_text row = cond (is_same row.0 row.1) [] (marked_line (codes "- ") row.0 ++ marked_line (codes "+ ") row.1)

-- the lines of the first text, and those of the second, that stand in rows
abbrev pub ones_of : List Row → List (List ℕ)
ones_of rows = flat_map (λ (row : Row). option_to_list row.0) rows

abbrev pub others_of : List Row → List (List ℕ)
others_of rows = flat_map (λ (row : Row). option_to_list row.1) rows

-- the number that stands before the first `v` of a line
abbrev pub number_before : List ℕ → List ℕ
number_before line = without_leading_plus (before_first (λ b. b == 118) line)

-- a line of a world is of the entity of this index
abbrev pub IsOfEntity : ℕ → List ℕ → Type 0
IsOfEntity index line =
    (position_or_len (λ b. b == 118) line < length line) × IsNumeral 10 (number_before line) × (digits_value 10 (number_before line) < 2 ^ 32) × (index ≡ digits_value 10 (number_before line))

-- two lines are of one entity, or neither is of any
abbrev pub AreOfOne : List ℕ → List ℕ → Type 0
AreOfOne one other = (index : ℕ) → IsOfEntity index one ↔ IsOfEntity index other

-- a line stands alone before the line that is next in the other text: there is none, or it is of no entity or of a later one than this line
abbrev pub IsAlone : List ℕ → Option (List ℕ) → Type 0
IsAlone line None = Unit {0}
IsAlone line (Some next) = (index : ℕ) × IsOfEntity index line × ((later : ℕ) → IsOfEntity later next → index < later)

-- the lines of a row, by the lines that are next in both texts where it does not take them: two are of one entity, or of none, and one stands alone
abbrev pub IsInPlace : Option (List ℕ) → Option (List ℕ) → Option (List ℕ) → Option (List ℕ) → Type 0
IsInPlace None None next beside = Unit {0}
IsInPlace (Some line) None next beside = IsAlone line beside
IsInPlace None (Some other) next beside = IsAlone other next
IsInPlace (Some line) (Some other) next beside = AreOfOne line other

-- so it is with each row, by the lines of those behind it
abbrev pub AreInPlace : List Row → Type 0
AreInPlace [] = Unit {0}
AreInPlace (row ∷ rows) = IsInPlace row.0 row.1 (slice_get (ones_of rows) 0) (slice_get (others_of rows) 0) × AreInPlace rows

-- the rows have the lines of both texts, each once and in order, and what they tell is the text. Next lines of one entity stand together, and of two entities
-- the earlier one's line comes first
pub record AreRows (ones others : List (List ℕ)) (text : List ℕ) : Type 0 where
  pub rows : List Row
  pub left : ones_of rows ≡ ones
  pub right : others_of rows ≡ others
  pub placed : AreInPlace rows
  pub told : text ≡ flat_map row_text rows

-- the text tells the lines in which two texts differ: `-` before those of the first, `+` before those of the second, and what it leaves out is the same in both
abbrev pub IsApart : List ℕ → List ℕ → List ℕ → Type 0
IsApart one other text = AreRows (lines one) (lines other) text

-- of a row that is next there stands this line on one side, or none
abbrev pub IsSideOf : {A : Type 0} → Option A → Option A → Type 0
IsSideOf line side = (side ≡ None) ⊎ (side ≡ line)

-- ---- a pair and its witness

-- the line of a pair: its names, and on what the two conflict; and behind it that of the run, by its number, that is looked at
abbrev pub pair_text : List (List ℕ) → ℕ → Pair → List ℕ
pair_text names number pair = (codes "== " ++ pair_line names pair) ++ (codes "-- run " ++ (decimal number ++ (codes " alone" ++ 10 ∷ [])))

-- the line of what comes first in a list
abbrev pub order_line : List ℕ → List ℕ
order_line name = codes "-- " ++ name ++ codes " first" ++ 10 ∷ []

-- a step by the name of its system: a start, a skip, a condition with its answer, a sync point
abbrev pub named_step : List (List ℕ) → Step → List ℕ
named_step names (Start n) = 32 ∷ get_or names n []
named_step names (Skip n) = 32 ∷ get_or names n [] ++ codes "=skipped"
named_step names (Cond c answer) = codes " #" ++ (decimal c ++ cond answer (codes "=yes") (codes "=no"))
named_step names (Finish n) = []
named_step names (Sync k) = codes " |"

-- the line of steps by names
abbrev pub named_line : List (List ℕ) → List Step → List ℕ
named_line names steps = codes "-- order" ++ (flat_map (named_step names) steps ++ 10 ∷ [])

-- a list of the run of this number, its steps by names, and the world that it leaves
abbrev pub left_text : List (List ℕ) → ℕ → RunOutcome → List ℕ
left_text names number t =
    lines_text (run_lines number t.list) ++ (named_line names (reverse t.list.steps) ++ (codes "-- leaves" ++ (10 ∷ string_bytes t.world)))

-- both lists of a witness, each behind the line of what comes first in it
abbrev pub orders_text : List (List ℕ) → ℕ → Pair → Witness → List ℕ
orders_text names number pair w = order_line (racer_text names pair.first) ++ left_text names number w.before ++ order_line (get_or names pair.second []) ++ left_text names number w.behind

-- the text of a witness: both lists with the worlds that they leave, and the first line in which these differ
abbrev pub IsWitnessText : List (List ℕ) → ℕ → Pair → Witness → List ℕ → Type 0
IsWitnessText names number pair w text =
    (rest : List ℕ) × IsDifference (string_bytes w.before.world) (string_bytes w.behind.world) rest × (text ≡ orders_text names number pair w ++ rest)

-- ---- where two traces part, which have so many runs

-- whether their worlds agree
abbrev pub agreement_line : Parting → ℕ → ℕ → List ℕ
agreement_line (parting.None count) one other = codes "worlds agree after each of " ++ (decimal count ++ (codes " runs" ++ 10 ∷ []))
agreement_line (parting.Longer count) one other =
    codes "worlds agree after each of " ++ (decimal count ++ (codes " runs, of " ++ (decimal one ++ (codes " and " ++ (decimal other ++ 10 ∷ [])))))
agreement_line (parting.After run world beside) one other = codes "worlds differ after run " ++ (decimal run ++ 10 ∷ [])

-- a step as a trace spells it, or that there is none
abbrev pub step_or_none : Option Step → List ℕ
step_or_none None = codes "none"
step_or_none (Some step) = step_text step

-- the first step in which their lists differ
abbrev pub place_line : Option Place → List ℕ
place_line None = codes "lists are the same" ++ 10 ∷ []
place_line (Some p) =
    codes "lists differ in run " ++ (decimal p.run ++ (codes " step " ++ (decimal p.step ++ (codes ": " ++ (step_or_none p.one ++ (codes " | " ++ (step_or_none p.other ++ 10 ∷ [])))))))

-- the lines in which the worlds differ, none where they do not
abbrev pub IsApartBy : Parting → List ℕ → Type 0
IsApartBy (parting.None count) more = more ≡ []
IsApartBy (parting.Longer count) more = more ≡ []
IsApartBy (parting.After run world beside) more = IsApart (string_bytes world) (string_bytes beside) more

-- the whole text
abbrev pub IsPartingText : Parting → Option Place → ℕ → ℕ → List ℕ → Type 0
IsPartingText p place one other text = (more : List ℕ) × IsApartBy p more × (text ≡ agreement_line p one other ++ place_line place ++ more)
