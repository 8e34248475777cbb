use Rattle.std.proofs.Common.{◌≡◌, ◌++◌, take, flat_map, string_bytes}
use Rattle.drawing.specs.ShapeText.{shape_text, texts_of}
use Rattle.drawing.proofs.svg.push_shapes.Given as goal

-- the shapes so far are written
abbrev pub invariant-loop-shape : goal.invariant-loop-shape
invariant-loop-shape l = string_bytes l.text ≡ string_bytes l.fn.text ++ flat_map (shape_text (texts_of l.words)) (take l.shape-index l.shapes)
