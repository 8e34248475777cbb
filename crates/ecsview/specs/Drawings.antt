-- The texts of drawings: of a schedule, and of the runs of a trace.
use Rattle.std.specs.Prelude.{ℕ, ◌≡◌, ◌≢◌, ◌↔◌, ◌+◌, ◌-◌, ◌*◌, ◌==◌, Bool, cond, min, max, List, [], ◌∷◌, ◌++◌, drop, length, map, reverse, slice_get, take, Option, Some, option_and_then, IfSome, IsTrue}
use Rattle.std.specs.List.{AllByRecursion}
use Rattle.ambiguity_report.specs.declared.report.Pair.{Pair}
use Rattle.ambiguity_report.specs.Report.{IsReport}
use Rattle.drawing.specs.Lanes.{bottom_of, run_shapes}
use Rattle.drawing.specs.ShapeText.{Texts, capped, drawing_text}
use Rattle.drawing.specs.declared.shape.Label.TheVariants as label
use Rattle.drawing.specs.declared.shape.Shape.{Shape}
use Rattle.drawing.specs.declared.shape.Shape.TheVariants.{Text}
use Rattle.drawing.specs.declared.shape.Style.TheVariants as style
use Rattle.ecsview.specs.Found.{first_of}
use Rattle.ecsview.specs.declared.part.Part.{Part}
use Rattle.findings.specs.declared.loading.Loaded.{Loaded}
use Rattle.model.specs.declared.steps.Step.{Step}
use Rattle.model.specs.state.KindSets.{kind_sets_of}
use Rattle.model.specs.steps.Lawful.{IsLawful}
use Rattle.model.specs.steps.Schedule.{Schedule, Recorded, recording}
use Rattle.schedule_drawing.specs.Drawn.{drawn_height, drawn_width, schedule_shapes}
use Rattle.trace_checker.specs.Grammar.{trace_text}

-- the names of the systems of a file, and these texts
abbrev pub texts_by : Loaded → List (List ℕ) → List (List ℕ) → List (List ℕ) → Texts
texts_by l sets conditions touched = record { names = map (λ name. name.now) l.file.names.items; sets = sets; conditions = conditions; touched = touched }

-- ---- a schedule

-- the members of the sets of a file
abbrev pub members_of : Loaded → List (List ℕ)
members_of l = map (λ members. members.items) l.sets.members.items

-- it is that of the shapes of the schedule that a file declares, in which just the pairs race that do, by the names of its systems and sets, and some texts of
-- its conditions and of what its systems touch
pub record IsScheduleText (opener rules : List ℕ) (l : Loaded) (text : List ℕ) : Type 0 where
  pub pairs : List Pair
  pub report : IsReport l.file.built pairs
  pub conditions : List (List ℕ)
  pub touched : List (List ℕ)
  pub same : text ≡ drawing_text opener rules (texts_by l (map (λ name. name.now) l.sets.names.items) conditions touched)
      (drawn_width l.file.built) (drawn_height (schedule_shapes l.file.built (members_of l) pairs)) (schedule_shapes l.file.built (members_of l) pairs)

-- ---- the runs of a trace

-- the number behind one; there are never so many runs that it stays
abbrev pub next_run : ℕ → ℕ
next_run run = min (run + 1) 4294967295

-- where a run ends whose upper edge is there
abbrev pub end_of : ℕ → List Step → ℕ
end_of top steps = capped (bottom_of top steps + 40)

-- the shapes of runs behind so many, one below the other, of which the first has its upper edge there
abbrev pub lanes_from : ℕ → ℕ → List Recorded → List Shape
lanes_from run top [] = []
lanes_from run top (r ∷ runs) = run_shapes (next_run run) top (reverse r.steps) ++ lanes_from (next_run run) (end_of top (reverse r.steps)) runs

-- where the last of them ends
abbrev pub height_from : ℕ → List Recorded → ℕ
height_from top [] = top
height_from top (r ∷ runs) = height_from (end_of top (reverse r.steps)) runs

-- how many steps a run has at most
abbrev pub longest_from : ℕ → List Recorded → ℕ
longest_from longest [] = longest
longest_from longest (r ∷ runs) = longest_from (max longest (length r.steps)) runs

-- how wide the drawing of runs is of which one has so many steps
abbrev pub lanes_width : ℕ → ℕ
lanes_width longest = max (capped (capped (56 * longest) + 100)) 360

-- a run is lawful, by the kind sets that it records
abbrev pub IsLawfulRun : Schedule → Recorded → Type 0
IsLawfulRun s r = IsLawful (recording s r.sets) r.steps

-- the runs of a part, of all; what is not there is not drawn
abbrev pub from_of : Part → ℕ → ℕ
from_of part count = min (part.first - 1) count

abbrev pub to_of : Part → ℕ → ℕ
to_of part count = max (from_of part count) (min part.last count)

abbrev pub part_of : {A : Type 0} → Part → List A → List A
part_of part runs = take (to_of part (length runs) - from_of part (length runs)) (drop (from_of part (length runs)) runs)

-- what is written above them, where they are not all
abbrev pub heading_shapes : Part → ℕ → ℕ → List Shape
heading_shapes part drawn count = cond (drawn == count) [] (Text 8 18 (label.Runs part.first part.last count) style.Axis ∷ [])

abbrev pub top_of : ℕ → ℕ → ℕ
top_of drawn count = cond (drawn == count) 10 30

-- the kind sets with which the first of some runs opens, where it records any
abbrev pub opening_sets : List Recorded → Option (List ℕ)
opening_sets runs = option_and_then (λ (r : Recorded). option_and_then (λ lists. slice_get lists 0) r.sets) (slice_get runs 0)

-- the first run opens with other kind sets than the world of the file has: the trace was recorded of another file, or this one was changed
abbrev pub IsForeign : Loaded → List Recorded → Type 0
IsForeign l runs = (numbers : List ℕ) × (opening_sets runs ≡ Some numbers) × (numbers ≢ kind_sets_of (first_of l.file).world.slots)

-- what is written of that below a place, and where the runs begin then
abbrev pub foreign_shapes : Bool → ℕ → List Shape
foreign_shapes foreign above = cond foreign (Text 8 (above + 8) label.Foreign style.Axis ∷ []) []

abbrev pub top_below : Bool → ℕ → ℕ
top_below foreign above = cond foreign (above + 20) above

-- where the first of some of so many runs begins
abbrev pub runs_top : Bool → ℕ → ℕ → ℕ
runs_top foreign drawn count = top_below foreign (top_of drawn count)

-- the shapes of some of so many runs, of a trace of another file or not
abbrev pub drawn_shapes : Bool → Part → ℕ → List Recorded → List Shape
drawn_shapes foreign part count runs =
    (heading_shapes part (length runs) count ++ foreign_shapes foreign (top_of (length runs) count)) ++ lanes_from (part.first - 1) (runs_top foreign (length runs) count) runs

-- the text is that of the shapes of the runs of the part that the trace has, once and in order, by the names of the systems, and some texts of conditions; all runs
-- of the trace are lawful. It is said above them exactly where the trace is of another file
pub record IsLanesText (opener rules : List ℕ) (l : Loaded) (trace : Option (List ℕ)) (part : Part) (text : List ℕ) : Type 0 where
  pub runs : List Recorded
  pub read : IfSome trace (λ bytes. bytes ≡ trace_text runs)
  pub lawful : AllByRecursion (IsLawfulRun l.file.built) runs
  pub foreign : Bool
  pub judged : IsTrue foreign ↔ IsForeign l runs
  pub conditions : List (List ℕ)
  pub same : text ≡ drawing_text opener rules (texts_by l [] conditions []) (lanes_width (longest_from 0 (part_of part runs)))
      (height_from (runs_top foreign (length (part_of part runs)) (length runs)) (part_of part runs)) (drawn_shapes foreign part (length runs) (part_of part runs))
