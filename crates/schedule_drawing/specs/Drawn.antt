-- The whole drawing of a schedule.
use Rattle.std.specs.Prelude.{ℕ, zero, suc, ◌+◌, ◌-◌, ◌==◌, ◌||◌, max, Bool, false, cond, List, [], ◌∷◌, ◌++◌, flat_map, replicate, Option}
use Rattle.ambiguity_report.specs.declared.report.Pair.{Pair}
use Rattle.drawing.specs.ShapeText.{capped}
use Rattle.drawing.specs.declared.shape.Shape.{Shape}
use Rattle.drawing.specs.declared.shape.Shape.TheVariants.{Line, Text}
use Rattle.model.specs.steps.Schedule.{Schedule, ScheduledCondition}
use Rattle.schedule_drawing.specs.Arrows.{arrows_of}
use Rattle.schedule_drawing.specs.Folding.{holders_of, leaders_of}
use Rattle.schedule_drawing.specs.Marks.{arrow_shapes, box_shapes, boxes_of, diamond_shapes, edges_shapes, frame_shapes, lowest_after, race_shapes, sync_shapes}
use Rattle.schedule_drawing.specs.Places.{column, line, most_rows, next_row}
use Rattle.schedule_drawing.specs.declared.arrows.Arrow.{Arrow}

-- so many sync points, of which the first has this number
abbrev pub syncs_from : ℕ → ℕ → ℕ → List Shape
syncs_from bottom k zero = []
syncs_from bottom k (suc count) = sync_shapes bottom k ++ syncs_from bottom (next_row k) count

-- the frames of sets with these members, of which the first has this number
abbrev pub sets_from : Schedule → List ℕ → ℕ → List (List ℕ) → List Shape
sets_from s leaders k [] = []
sets_from s leaders k (members ∷ sets) = flat_map (frame_shapes s leaders members k) members ++ sets_from s leaders (next_row k) sets

-- the frames of sets, where no set holds a system for them
abbrev pub sets_shapes : Schedule → List (Option ℕ) → List ℕ → List (List ℕ) → List Shape
sets_shapes s [] leaders sets = sets_from s leaders 0 sets
sets_shapes s (holder ∷ holders) leaders sets = []

-- conditions, of which the first has this number, each once at each system that it covers
abbrev pub conditions_from : Schedule → List ℕ → ℕ → List ScheduledCondition → List Shape
conditions_from s leaders c [] = []
conditions_from s leaders c (x ∷ conditions) = flat_map (diamond_shapes s leaders c) x.covers ++ conditions_from s leaders (next_row c) conditions

-- of pairs with the same two boxes the first, where these have been drawn, so many more get their datum, and it is written no higher than this, by its level
abbrev pub races_from : Schedule → List ℕ → (ℕ → Bool) → ℕ → List ℕ → List Pair → List Shape
races_from s leaders drawn left lowest [] = []
races_from s leaders drawn left lowest (p ∷ pairs) =
    cond (drawn (boxes_of s leaders p)) (races_from s leaders drawn left lowest pairs)
    (race_shapes s leaders left lowest p ++ races_from s leaders (λ n. (boxes_of s leaders p == n) || drawn n) (left - 1) (lowest_after s leaders left lowest p) pairs)

-- none has been drawn, and 100 get their datum
abbrev pub races_shapes : Schedule → List ℕ → List Pair → List Shape
races_shapes s leaders pairs = races_from s leaders (λ n. false) 100 (replicate (s.syncs + 1) 0) pairs

-- the edges and the systems in schedule order, and the conditions, each once
abbrev pub things_shapes : Schedule → List (Option ℕ) → List ℕ → List (List ℕ) → List Arrow → List Shape
things_shapes s holders leaders sets arrows =
    flat_map (edges_shapes s leaders sets arrows) s.order
    ++ flat_map (box_shapes s holders leaders) s.order
    ++ conditions_from s leaders 0 s.conditions

-- where the rows end
abbrev pub bottom_of : Schedule → List ℕ → ℕ
bottom_of s leaders = line (most_rows s leaders 0 s.order)

-- all shapes, where sets hold these systems, these lead, and these arrows are drawn
abbrev pub shapes_by : Schedule → List (Option ℕ) → List ℕ → List (List ℕ) → List Arrow → List Pair → List Shape
shapes_by s holders leaders sets arrows pairs =
    syncs_from (bottom_of s leaders) 0 s.syncs ++ sets_shapes s holders leaders sets ++ flat_map (arrow_shapes s sets) arrows
    ++ things_shapes s holders leaders sets arrows ++ races_shapes s leaders pairs

-- the drawing of a schedule whose sets have these members, and in which these pairs race
abbrev pub schedule_shapes : Schedule → List (List ℕ) → List Pair → List Shape
schedule_shapes s sets pairs = shapes_by s (holders_of s sets) (leaders_of s (holders_of s sets)) sets (arrows_of s (holders_of s sets) sets) pairs

-- how far down what is written, or a straight line, reaches
abbrev pub reach_of : Shape → ℕ
reach_of (Line x y to_x to_y style) = max y to_y
reach_of (Text x y label style) = y
reach_of _ = 0

abbrev pub lowest_from : ℕ → List Shape → ℕ
lowest_from lowest [] = lowest
lowest_from lowest (shape ∷ shapes) = lowest_from (max lowest (reach_of shape)) shapes

-- how wide and how high it is
abbrev pub drawn_width : Schedule → ℕ
drawn_width s = column s.syncs

abbrev pub drawn_height : List Shape → ℕ
drawn_height shapes = capped (lowest_from 0 shapes + 24)
