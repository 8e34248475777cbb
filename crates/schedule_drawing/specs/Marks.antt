-- The shapes of each thing in a schedule, by itself, where systems have these leaders.
use Rattle.std.specs.Prelude.{ℕ, ◌+◌, ◌-◌, ◌*◌, ◌/◌, ◌%◌, ◌==◌, ◌&&◌, ◌||◌, not, min, max, nat_lt, is_some, Bool, cond, List, [], ◌∷◌, ◌++◌, flat_map, get_or, set, Option, Some, None}
use Rattle.std.specs.List.{list_any}
use Rattle.ambiguity_report.specs.declared.report.Pair.{Pair}
use Rattle.ambiguity_report.specs.declared.races.Racer.{Racer}
use Rattle.ambiguity_report.specs.declared.races.Racer.TheVariants as racer
use Rattle.drawing.specs.ShapeText.{capped}
use Rattle.drawing.specs.declared.shape.Label.{Label}
use Rattle.drawing.specs.declared.shape.Label.TheVariants as label
use Rattle.drawing.specs.declared.shape.Shape.{Shape}
use Rattle.drawing.specs.declared.shape.Shape.TheVariants.{Titled, Line, Curve, Diamond, Text}
use Rattle.drawing.specs.declared.shape.Style.{Style}
use Rattle.drawing.specs.declared.shape.Style.TheVariants as style
use Rattle.model.specs.Lists.{has}
use Rattle.model.specs.steps.Schedule.{Schedule, ScheduledCondition, system_at, condition_at, params_of, level_of}
use Rattle.schedule_drawing.specs.Arrows.{first_in, is_told, last_in, members_at}
use Rattle.schedule_drawing.specs.Places.{column, line, next_row, leader_of, row_of}
use Rattle.schedule_drawing.specs.declared.arrows.Arrow.{Arrow}
use Rattle.schedule_drawing.specs.Folding.{holder_of, led_from}

-- a sync point: a bar behind the column of its level
abbrev pub sync_shapes : ℕ → ℕ → List Shape
sync_shapes bottom k = Line (column k + 295) 24 (column k + 295) bottom style.Sync ∷ Text (column k + 295 - 16) 18 (label.Sync k) style.Sync ∷ []

-- what is written in the box of a system: its name, or that of the set that holds it, with how many it leads
abbrev pub box_label : Schedule → List ℕ → ℕ → Option ℕ → Label
box_label s leaders n None = label.System n
box_label s leaders n (Some k) = label.Members k (led_from leaders n 0 s.order)

-- its title: what the system reads and writes, or what is written in the box
abbrev pub box_title : Schedule → List ℕ → ℕ → Option ℕ → Label
box_title s leaders n None = label.Touched n
box_title s leaders n (Some k) = box_label s leaders n (Some k)

-- a box
abbrev pub box_at : ℕ → ℕ → Label → Label → List Shape
box_at x y title l = Titled x y 210 30 title style.System ∷ Text (x + 7) (y + 19) l style.System ∷ []

-- a system that leads; others have no box
abbrev pub box_shapes : Schedule → List (Option ℕ) → List ℕ → ℕ → List Shape
box_shapes s holders leaders n =
    cond (leader_of leaders n == n) (box_at (column (level_of s n)) (line (row_of s leaders n)) (box_title s leaders n (holder_of holders n)) (box_label s leaders n (holder_of holders n))) []

-- ---- edges

-- how far a line between two rows of one column leaves it
abbrev pub bend : ℕ → ℕ → ℕ
bend row other = 20 + 8 * min (max row other - min row other) 8

-- an edge waits for commands: its first system has them, and a sync point stands between the two
abbrev pub is_deferring : Schedule → ℕ → ℕ → Bool
is_deferring s m n = is_some (params_of s m).spawns && nat_lt (level_of s m) (level_of s n)

-- how an edge looks
abbrev pub edge_style : Schedule → ℕ → ℕ → Style
edge_style s m n = cond (is_deferring s m n) style.Deferring style.Edge

-- an edge within a column, beside it: it leaves a box below the middle, and comes to one above the middle
abbrev pub edge_within : ℕ → ℕ → ℕ → Style → List Shape
edge_within level row to_row s =
    Curve (column level + 210) (line row + 21) (column level + 210 + bend row to_row) (column level + 210 + bend row to_row) (column level + 210) (line to_row + 9) s ∷ []

-- an edge to another column
abbrev pub edge_across : ℕ → ℕ → ℕ → ℕ → Style → List Shape
edge_across level row to_level to_row s =
    Curve (column level + 210) (line row + 21) (column level + 210 + 70) (column to_level - 70) (column to_level) (line to_row + 9) s ∷ []

-- the edge to a system from another
abbrev pub edge_shapes : Schedule → List ℕ → ℕ → ℕ → List Shape
edge_shapes s leaders n m =
    cond (level_of s m == level_of s n)
    (edge_within (level_of s m) (row_of s leaders m) (row_of s leaders n) (edge_style s m n))
    (edge_across (level_of s m) (row_of s leaders m) (level_of s n) (row_of s leaders n) (edge_style s m n))

-- the edge to a system from another, where no arrow stands for it
abbrev pub edge_untold : Schedule → List ℕ → List (List ℕ) → List Arrow → ℕ → ℕ → List Shape
edge_untold s leaders sets arrows n m = cond (is_told sets arrows m n) [] (edge_shapes s leaders n m)

-- the edges to a system, each once
abbrev pub edges_shapes : Schedule → List ℕ → List (List ℕ) → List Arrow → ℕ → List Shape
edges_shapes s leaders sets arrows n = flat_map (edge_untold s leaders sets arrows n) (system_at s n).predecessors

-- ---- frames

-- how far the frame of a set is from the boxes
abbrev pub inset : ℕ → ℕ
inset k = 6 + 11 * (k % 3)

-- whether a system stands in a row of a level
abbrev pub is_at_place : Schedule → List ℕ → ℕ → ℕ → ℕ → Bool
is_at_place s leaders level row n = (level_of s n == level) && (row_of s leaders n == row)

-- whether one of these systems does
abbrev pub is_framed : Schedule → List ℕ → List ℕ → ℕ → ℕ → Bool
is_framed s leaders members level row = list_any (is_at_place s leaders level row) members

-- the sides of a frame
abbrev pub side_shapes : ℕ → ℕ → ℕ → ℕ → List Shape
side_shapes left right top bottom = Line left top left bottom style.Set ∷ Line right top right bottom style.Set ∷ []

-- the line above or below it, where it ends there
abbrev pub end_shapes : Bool → ℕ → ℕ → ℕ → List Shape
end_shapes ends left right y = cond ends (Line left y right y style.Set ∷ []) []

-- the name of the set above the frame, where it begins
abbrev pub name_shapes : Bool → ℕ → ℕ → ℕ → List Shape
name_shapes opens k left top = cond opens (Text (left + 8 + 70 * ((k / 3) % 3)) (top - 3) (label.Set k) style.Set ∷ []) []

-- a frame round a row of a level
abbrev pub frame_at : ℕ → ℕ → ℕ → Bool → Bool → List Shape
frame_at k level row opens closes =
    side_shapes (column level - inset k) (column level + 210 + inset k) (cond opens (line row - inset k) (line row - 41)) (cond closes (line row + 50 + inset k) (line row + 71))
    ++ end_shapes opens (column level - inset k) (column level + 210 + inset k) (cond opens (line row - inset k) (line row - 41))
    ++ end_shapes closes (column level - inset k) (column level + 210 + inset k) (cond closes (line row + 50 + inset k) (line row + 71))
    ++ name_shapes opens k (column level - inset k) (cond opens (line row - inset k) (line row - 41))

-- the frame of a set with these members round one of them
abbrev pub frame_shapes : Schedule → List ℕ → List ℕ → ℕ → ℕ → List Shape
frame_shapes s leaders members k n =
    frame_at k (level_of s n) (row_of s leaders n)
    ((row_of s leaders n == 0) || not (is_framed s leaders members (level_of s n) (row_of s leaders n - 1)))
    (not (is_framed s leaders members (level_of s n) (next_row (row_of s leaders n))))

-- ---- conditions

-- how many of the first conditions cover a system
abbrev pub place_from : ℕ → ℕ → ℕ → List ScheduledCondition → ℕ
place_from n place left [] = place
place_from n place left (c ∷ conditions) = cond (left == 0) place (place_from n (cond (has n c.covers) (next_row place) place) (left - 1) conditions)

-- a condition at a system that it covers, by its place there: the first three below the box, with their texts, and others on its upper edge
abbrev pub told_diamond : ℕ → ℕ → ℕ → List Shape
told_diamond c x y = Diamond (x + 12) (y - 4) (label.Asked c) style.Condition ∷ Text (x + 24) y (label.Condition c) style.Condition ∷ []

abbrev pub diamond_at : ℕ → ℕ → ℕ → ℕ → List Shape
diamond_at c place x y = cond (nat_lt place 3) (told_diamond c x (y + 46 + 16 * place)) (Diamond (x + 14 + 20 * place) y (label.Asked c) style.Condition ∷ [])

abbrev pub diamond_shapes : Schedule → List ℕ → ℕ → ℕ → List Shape
diamond_shapes s leaders c n = diamond_at c (place_from n 0 c s.conditions) (column (level_of s n)) (line (row_of s leaders n))

-- ---- orders of sets

-- an arrow from a frame to one in the same column, beside it
abbrev pub arrow_within : ℕ → ℕ → ℕ → ℕ → ℕ → Style → List Shape
arrow_within from to level row to_row s =
    Curve (column level + 210 + inset from) (line row + 21) (column level + 210 + 28 + bend row to_row) (column level + 210 + 28 + bend row to_row) (column level + 210 + inset to) (line to_row + 9) s ∷ []

-- an arrow to another column
abbrev pub arrow_across : ℕ → ℕ → ℕ → ℕ → ℕ → ℕ → Style → List Shape
arrow_across from to level row to_level to_row s =
    Curve (column level + 210 + inset from) (line row + 21) (column level + 210 + 98) (column to_level - 98) (column to_level - inset to) (line to_row + 9) s ∷ []

-- how an arrow looks: some system of the second set waits for commands of one of the first, or none does
abbrev pub waits_for_some : Schedule → List ℕ → ℕ → Bool
waits_for_some s members n = list_any (λ m. is_deferring s m n) members

abbrev pub arrow_style : Schedule → List ℕ → List ℕ → Style
arrow_style s members others = cond (list_any (waits_for_some s members) others) style.DeferringOrder style.Order

-- from beside one system, the last of its set, to beside another, the first of its set
abbrev pub arrow_between : Schedule → Arrow → ℕ → ℕ → Style → List Shape
arrow_between s a m n look =
    cond (level_of s m == level_of s n)
    (arrow_within a.from a.to (level_of s m) (row_of s [] m) (row_of s [] n) look)
    (arrow_across a.from a.to (level_of s m) (row_of s [] m) (level_of s n) (row_of s [] n) look)

abbrev pub arrow_shapes : Schedule → List (List ℕ) → Arrow → List Shape
arrow_shapes s sets a =
    arrow_between s a (last_in (members_at sets a.from) 0 s.order) (first_in (members_at sets a.to) s.order) (arrow_style s (members_at sets a.from) (members_at sets a.to))

-- ---- what races

-- the system at which it is drawn: itself, or the first that a condition covers
abbrev pub stands_for_racer : Schedule → Racer → ℕ → ℕ
stands_for_racer s (racer.System m) n = m
stands_for_racer s (racer.Condition c) n = get_or (condition_at s c).covers 0 n

-- the two boxes of a pair, as one number; no schedule has more than 256 systems
abbrev pub boxes_number : ℕ → ℕ → ℕ
boxes_number leader other = leader % 256 * 256 + other % 256

abbrev pub boxes_of : Schedule → List ℕ → Pair → ℕ
boxes_of s leaders p = boxes_number (leader_of leaders (stands_for_racer s p.first p.second)) (leader_of leaders p.second)

-- how what races looks
abbrev pub race_style : Pair → Style
race_style p = cond p.silenced style.Silenced style.Race

-- where the datum of a pair is written, between its rows: no higher than this
abbrev pub datum_y : ℕ → ℕ → ℕ → ℕ
datum_y lowest row to_row = max ((line row + 22 + (line to_row + 22)) / 2) lowest

-- a red line from a box to the datum at this height, and from there to another
abbrev pub race_by : Pair → ℕ → ℕ → ℕ → ℕ → ℕ → List Shape
race_by p level row to_level to_row y =
    Curve (column level) (line row + 22) (column level - 30) (column to_level - 36) (column to_level - 62) y (race_style p)
    ∷ Curve (column to_level - 62) y (column to_level - 36) (column to_level - 30) (column to_level) (line to_row + 22) (race_style p)
    ∷ Text (column to_level - 66) (capped (y + 4)) (label.Datum p.datum) (race_style p) ∷ []

-- a red line from a box to another
abbrev pub race_without : Pair → ℕ → ℕ → ℕ → ℕ → List Shape
race_without p level row to_level to_row =
    Curve (column level) (line row + 22) (column level - bend row to_row) (column to_level - bend row to_row) (column to_level) (line to_row + 22) (race_style p) ∷ []

-- the line of a pair, with its datum where so many more have one
abbrev pub race_between : Pair → ℕ → List ℕ → ℕ → ℕ → ℕ → ℕ → List Shape
race_between p left lowest level row to_level to_row =
    cond (left == 0) (race_without p level row to_level to_row) (race_by p level row to_level to_row (datum_y (get_or lowest to_level 0) row to_row))

abbrev pub race_shapes : Schedule → List ℕ → ℕ → List ℕ → Pair → List Shape
race_shapes s leaders left lowest p =
    race_between p left lowest (level_of s (stands_for_racer s p.first p.second)) (row_of s leaders (stands_for_racer s p.first p.second)) (level_of s p.second) (row_of s leaders p.second)

-- where the next datum may be written at the highest, in each level
abbrev pub after_datum : List ℕ → ℕ → ℕ → ℕ → List ℕ
after_datum lowest level row to_row = set lowest level (capped (datum_y (get_or lowest level 0) row to_row + 13))

abbrev pub lowest_after : Schedule → List ℕ → ℕ → List ℕ → Pair → List ℕ
lowest_after s leaders left lowest p =
    cond (left == 0) lowest (after_datum lowest (level_of s p.second) (row_of s leaders (stands_for_racer s p.first p.second)) (row_of s leaders p.second))
