use Rattle.std.proofs.Common.{◌≡◌, ◌++◌, take, flat_map, string_bytes}
use Rattle.drawing.specs.ChartText.{place_text}
use Rattle.drawing.proofs.chart.push_points.Given as goal

-- the places so far are written
abbrev pub invariant-loop-point : goal.invariant-loop-point
invariant-loop-point l = string_bytes l.text ≡ string_bytes l.fn.text ++ flat_map (place_text l.scale) (take l.point-index l.points)
