-- The drawing of the steps of a run, on an axis of steps.
use Rattle.std.specs.Prelude.{ℕ, ◌+◌, ◌-◌, ◌*◌, ◌/◌, ◌%◌, ◌==◌, min, max, nat_lt, Bool, true, false, cond, List, [], ◌∷◌, ◌++◌, length, get_or, set, position, unwrap_or, Option, Some, None}
use Rattle.model.specs.declared.steps.Step.{Step}
use Rattle.model.specs.declared.steps.Step.TheVariants.{Cond, Start, Skip, Finish, Sync}
use Rattle.drawing.specs.ShapeText.{capped}
use Rattle.drawing.specs.declared.lanes.Running.{Running}
use Rattle.drawing.specs.declared.lanes.Tally.{Tally}
use Rattle.drawing.specs.declared.shape.Label.{Label}
use Rattle.drawing.specs.declared.shape.Label.TheVariants as label
use Rattle.drawing.specs.declared.shape.Shape.{Shape}
use Rattle.drawing.specs.declared.shape.Shape.TheVariants.{Rect, Line, Diamond, Text}
use Rattle.drawing.specs.declared.shape.Style.TheVariants as style

-- ---- places

-- where a step stands
abbrev pub step_x : ℕ → ℕ
step_x at = 60 + 56 * at

-- where a lane stands below a run's upper edge
abbrev pub lane_y : ℕ → ℕ → ℕ
lane_y top lane = capped (capped (top + 56) + capped (34 * lane))

-- ---- lanes

-- whether a lane is free
abbrev pub is_free : Option Running → Bool
is_free None = true
is_free (Some r) = false

-- whether a system runs in a lane
abbrev pub runs_in : ℕ → Option Running → Bool
runs_in n None = false
runs_in n (Some r) = r.system == n

-- the first lane that is free, which may be a new one
abbrev pub lane_for : List (Option Running) → ℕ
lane_for lanes = unwrap_or (position is_free lanes) (length lanes)

-- the lanes with a system in this one
abbrev pub with_running : List (Option Running) → Running → Option ℕ → List (Option Running)
with_running lanes r None = lanes ++ Some r ∷ []
with_running lanes r (Some lane) = set lanes lane (Some r)

-- the lanes with this one free
abbrev pub with_free : List (Option Running) → Option ℕ → List (Option Running)
with_free lanes None = lanes
with_free lanes (Some lane) = set lanes lane None

-- the lanes after a step of this number
abbrev pub lanes_after : List (Option Running) → ℕ → Step → List (Option Running)
lanes_after lanes at (Cond c answer) = lanes
lanes_after lanes at (Start n) = with_running lanes (record { system = n; from = at }) (position is_free lanes)
lanes_after lanes at (Skip n) = lanes
lanes_after lanes at (Finish n) = with_free lanes (position (runs_in n) lanes)
lanes_after lanes at (Sync k) = lanes

-- ---- steps

-- a condition that is asked
abbrev pub answer_shapes : ℕ → Bool → ℕ → ℕ → List Shape
answer_shapes c answer x top =
    Diamond x (capped (top + 34)) (label.Asked c) (cond answer style.Condition style.Refused)
    ∷ Text (capped (x + 10)) (capped (capped (top + 34) + 4)) (label.Number c) (cond answer style.Condition style.Refused) ∷ []

-- a system that is skipped
abbrev pub skip_shapes : ℕ → ℕ → ℕ → List Shape
skip_shapes n x top =
    Rect (x - 4) (capped (top + 34) - 4) 8 8 style.Skipped
    ∷ Text (capped (x + 8)) (capped (capped (top + 34) + 4)) (label.System n) style.Skipped ∷ []

-- a sync point
abbrev pub sync_shapes : ℕ → ℕ → ℕ → ℕ → List Shape
sync_shapes k x top bottom =
    Line x (capped (top + 20)) x bottom style.Sync ∷ Text (x - 14) (capped (top + 14)) (label.Sync k) style.Sync ∷ []

-- a system that starts in a lane
abbrev pub start_shapes : ℕ → ℕ → List Shape
start_shapes x y = Line x y x (capped (y + 24)) style.Running ∷ []

-- a system that finishes, from where it started on
abbrev pub bar_shapes : ℕ → ℕ → ℕ → ℕ → List Shape
bar_shapes n x to_x y = Rect x y (to_x - x) 24 style.Running ∷ Text (capped (x + 4)) (capped (y + 16)) (label.System n) style.Running ∷ []

-- the step that started what runs in a lane
abbrev pub from_of : Option Running → ℕ
from_of None = 0
from_of (Some r) = r.from

-- a system that finishes, where it runs in some lane
abbrev pub finish_shapes : ℕ → List (Option Running) → Option ℕ → ℕ → ℕ → List Shape
finish_shapes n lanes None x top = []
finish_shapes n lanes (Some lane) x top = bar_shapes n (step_x (from_of (get_or lanes lane None))) x (lane_y top lane)

-- the shapes of a step of this number, where the lanes are these
abbrev pub step_shapes : ℕ → ℕ → List (Option Running) → ℕ → Step → List Shape
step_shapes top bottom lanes at (Cond c answer) = answer_shapes c answer (step_x at) top
step_shapes top bottom lanes at (Start n) = start_shapes (step_x at) (lane_y top (lane_for lanes))
step_shapes top bottom lanes at (Skip n) = skip_shapes n (step_x at) top
step_shapes top bottom lanes at (Finish n) = finish_shapes n lanes (position (runs_in n) lanes) (step_x at) top
step_shapes top bottom lanes at (Sync k) = sync_shapes k (step_x at) top bottom

-- the number behind one; there are never so many steps that it stays
abbrev pub next_at : ℕ → ℕ
next_at at = min (at + 1) 4294967295

-- the shapes of steps, each once and in order, of which the first has this number
abbrev pub steps_shapes : ℕ → ℕ → List (Option Running) → ℕ → List Step → List Shape
steps_shapes top bottom lanes at [] = []
steps_shapes top bottom lanes at (step ∷ steps) = step_shapes top bottom lanes at step ++ steps_shapes top bottom (lanes_after lanes at step) (next_at at) steps

-- ---- how many ran at once

-- how many run after a step
abbrev pub running_after : ℕ → Step → ℕ
running_after now (Start n) = capped (now + 1)
running_after now (Finish n) = now - 1
running_after now (Cond c answer) = now
running_after now (Skip n) = now
running_after now (Sync k) = now

-- a tally with one place more, at which so many run
abbrev pub tallied_at : Tally → ℕ → Tally
tallied_at t now = record { now = now; most = max t.most now; sum = capped (t.sum + now); busy = cond (nat_lt 0 now) (capped (t.busy + 1)) t.busy }

-- the tally of steps that follow
abbrev pub tally_from : Tally → List Step → Tally
tally_from t [] = t
tally_from t (step ∷ steps) = tally_from (tallied_at t (running_after t.now step)) steps

-- the tally of a run
abbrev pub tally_of : List Step → Tally
tally_of steps = tally_from (record { now = 0; most = 0; sum = 0; busy = 0 }) steps

-- how many ran at once, in words
abbrev pub at_once : Tally → Label
at_once t = label.AtOnce t.most (cond (t.busy == 0) 0 (t.sum / t.busy)) (cond (t.busy == 0) 0 (capped (100 * (t.sum % t.busy)) / t.busy))

-- ---- a run

-- what stands round the steps
abbrev pub frame_shapes : ℕ → ℕ → ℕ → ℕ → Tally → List Shape
frame_shapes run top bottom steps t =
    Text 8 (capped (top + 14)) (label.Run run) style.Axis
    ∷ Line 60 bottom (capped (60 + capped (56 * steps))) bottom style.Axis
    ∷ Text 8 (capped (bottom + 18)) (at_once t) style.Axis ∷ []

-- where the lanes of a run end, below its upper edge
abbrev pub bottom_of : ℕ → List Step → ℕ
bottom_of top steps = lane_y top (tally_of steps).most

-- the shapes of a run of this number
abbrev pub run_shapes : ℕ → ℕ → List Step → List Shape
run_shapes run top steps = frame_shapes run top (bottom_of top steps) (length steps) (tally_of steps) ++ steps_shapes top (bottom_of top steps) [] 0 steps
