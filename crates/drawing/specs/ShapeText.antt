-- The text of a drawing.
use Rattle.std.specs.Prelude.{ℕ, ◌+◌, ◌-◌, ◌/◌, ◌%◌, min, nat_le, cond, List, [], ◌∷◌, ◌++◌, get_or, length, map, flat_map, codes, decimal}
use Rattle.access_set.specs.Datum.{datum_name}
use Rattle.drawing.specs.declared.shape.Label.{Label}
use Rattle.drawing.specs.declared.shape.Label.TheVariants as label
use Rattle.drawing.specs.declared.shape.Shape.{Shape}
use Rattle.drawing.specs.declared.shape.Shape.TheVariants.{Rect, Titled, Line, Curve, Diamond, Text}
use Rattle.drawing.specs.declared.shape.Style.{Style}
use Rattle.drawing.specs.declared.shape.Style.TheVariants as style
use Rattle.drawing.specs.declared.shape.Words.{Words}

-- the texts that labels name by number: the names of systems and of sets, the conditions, and what each system reads and writes
pub record Texts : Type 0 where
  pub names : List (List ℕ)
  pub sets : List (List ℕ)
  pub conditions : List (List ℕ)
  pub touched : List (List ℕ)

abbrev pub texts_of : Words → Texts
texts_of w = record {
  names = map (λ name. name.now) w.names.now;
  sets = map (λ name. name.now) w.sets.now;
  conditions = map (λ name. name.now) w.conditions.now;
  touched = map (λ name. name.now) w.touched.now;
}

-- what fits 64 bits
abbrev pub capped : ℕ → ℕ
capped n = min n 18446744073709551615

-- the class of a style
abbrev pub style_name : Style → List ℕ
style_name style.System = codes "system"
style_name style.Set = codes "set"
style_name style.Edge = codes "edge"
style_name style.Deferring = codes "deferring"
style_name style.Order = codes "order"
style_name style.DeferringOrder = codes "order deferring"
style_name style.Sync = codes "sync"
style_name style.Condition = codes "condition"
style_name style.Refused = codes "refused"
style_name style.Race = codes "race"
style_name style.Silenced = codes "silenced"
style_name style.Running = codes "running"
style_name style.Skipped = codes "skipped"
style_name style.Axis = codes "axis"

-- an attribute that is a number
abbrev pub attribute : List ℕ → ℕ → List ℕ
attribute name value = 32 ∷ name ++ (codes "='" ++ (decimal value ++ codes "'"))

-- two of them
abbrev pub attributes : List ℕ → ℕ → List ℕ → ℕ → List ℕ
attributes name value other more = attribute name value ++ attribute other more

-- a place
abbrev pub point_text : ℕ → ℕ → List ℕ
point_text x y = 32 ∷ decimal x ++ (32 ∷ decimal y)

-- two places
abbrev pub points_text : ℕ → ℕ → ℕ → ℕ → List ℕ
points_text x y to_x to_y = point_text x y ++ point_text to_x to_y

-- the beginning of a shape, with its class
abbrev pub opening : List ℕ → Style → List ℕ
opening name s = 60 ∷ name ++ (codes " class='" ++ (style_name s ++ codes "'"))

-- the beginning of a box
abbrev pub rect_opening : ℕ → ℕ → ℕ → ℕ → Style → List ℕ
rect_opening x y width height s = opening (codes "rect") s ++ (attributes (codes "x") x (codes "y") y ++ attributes (codes "width") width (codes "height") height)

-- a box
abbrev pub rect_text : ℕ → ℕ → ℕ → ℕ → Style → List ℕ
rect_text x y width height s = rect_opening x y width height s ++ (codes "/>" ++ 10 ∷ [])

-- a straight line
abbrev pub line_text : ℕ → ℕ → ℕ → ℕ → Style → List ℕ
line_text x y to_x to_y s =
    opening (codes "line") s ++ attributes (codes "x1") x (codes "y1") y ++ attributes (codes "x2") to_x (codes "y2") to_y ++ codes "/>" ++ 10 ∷ []

-- a curve, by its ends and the two places that draw it
abbrev pub curve_text : ℕ → ℕ → ℕ → ℕ → ℕ → ℕ → Style → List ℕ
curve_text x y near far to_x to_y s =
    opening (codes "path") s ++ (codes " d='M " ++ (decimal x ++ (32 ∷ decimal y ++ codes " C"))) ++ points_text near y far to_y ++ (32 ∷ decimal to_x ++ (32 ∷ decimal to_y ++ (codes "'/>" ++ 10 ∷ [])))

-- the corners of a diamond
abbrev pub corners_text : ℕ → ℕ → List ℕ
corners_text x y = points_text (x - 8) y x (y - 8) ++ points_text (capped (x + 8)) y x (capped (y + 8))

-- how many ran at once
abbrev pub at_once_text : ℕ → ℕ → ℕ → List ℕ
at_once_text most whole hundredths =
    decimal most ++ (codes " at once at most, " ++ (decimal whole ++ codes ".")) ++ (decimal (hundredths / 10) ++ (decimal (hundredths % 10) ++ codes " in the mean"))

-- a condition of this number: its text, or the number where the text is long
abbrev pub short_text : ℕ → List ℕ → List ℕ
short_text c text = cond (nat_le (length text) 44) text (codes "#" ++ decimal c)

-- which runs are drawn, of how many
abbrev pub runs_text : ℕ → ℕ → ℕ → List ℕ
runs_text first last all = codes "runs " ++ (decimal first ++ (codes " to " ++ (decimal last ++ (codes " of " ++ decimal all))))

-- what is written, by these texts
abbrev pub label_text : Texts → Label → List ℕ
label_text t (label.System n) = get_or t.names n []
label_text t (label.Set k) = get_or t.sets k []
label_text t (label.Members k count) = get_or t.sets k [] ++ (codes " (" ++ (decimal count ++ codes ")"))
label_text t (label.Condition c) = short_text c (get_or t.conditions c [])
label_text t (label.Asked c) = get_or t.conditions c []
label_text t (label.Number c) = codes "#" ++ decimal c
label_text t (label.Touched n) = get_or t.touched n []
label_text t (label.Sync k) = codes "sync " ++ decimal k
label_text t (label.Datum datum) = datum_name datum
label_text t (label.Run n) = codes "run " ++ decimal n
label_text t (label.Runs first last all) = runs_text first last all
label_text t label.Foreign = codes "run 1 opens with other archetypes than the file has"
label_text t (label.AtOnce most whole hundredths) = at_once_text most whole hundredths

-- the end of a shape with a title
abbrev pub titled_end : List ℕ → Texts → Label → List ℕ
titled_end name t l = codes "><title>" ++ (label_text t l ++ (codes "</title></" ++ (name ++ (codes ">" ++ 10 ∷ []))))

-- a box with a title
abbrev pub titled_text : Texts → ℕ → ℕ → ℕ → ℕ → Label → Style → List ℕ
titled_text t x y width height l s = rect_opening x y width height s ++ titled_end (codes "rect") t l

-- the beginning of a diamond, with its corners
abbrev pub diamond_opening : ℕ → ℕ → Style → List ℕ
diamond_opening x y s = opening (codes "polygon") s ++ (codes " points='" ++ (corners_text x y ++ codes "'"))

-- a diamond, with a title
abbrev pub diamond_text : Texts → ℕ → ℕ → Label → Style → List ℕ
diamond_text t x y l s = diamond_opening x y s ++ titled_end (codes "polygon") t l

-- the beginning of something written
abbrev pub text_opening : ℕ → ℕ → Style → List ℕ
text_opening x y s = opening (codes "text") s ++ attributes (codes "x") x (codes "y") y ++ codes ">"

-- the same with its end
abbrev pub written_text : Texts → Label → List ℕ
written_text t l = label_text t l ++ (codes "</text>" ++ 10 ∷ [])

-- a shape without words; nothing of one that has some
abbrev pub bare_text : Shape → List ℕ
bare_text (Rect x y width height s) = rect_text x y width height s
bare_text (Titled x y width height l s) = []
bare_text (Line x y to_x to_y s) = line_text x y to_x to_y s
bare_text (Curve x y near far to_x to_y s) = curve_text x y near far to_x to_y s
bare_text (Diamond x y l s) = []
bare_text (Text x y l s) = []

-- a shape
abbrev pub shape_text : Texts → Shape → List ℕ
shape_text t (Rect x y width height s) = rect_text x y width height s
shape_text t (Titled x y width height l s) = titled_text t x y width height l s
shape_text t (Line x y to_x to_y s) = line_text x y to_x to_y s
shape_text t (Curve x y near far to_x to_y s) = curve_text x y near far to_x to_y s
shape_text t (Diamond x y l s) = diamond_text t x y l s
shape_text t (Text x y l s) = text_opening x y s ++ written_text t l

-- the head of a drawing: its beginning, and how each class of shapes looks
abbrev pub head_text : List ℕ → List ℕ → ℕ → ℕ → List ℕ
head_text opener rules width height = opener ++ attributes (codes "width") width (codes "height") height ++ (62 ∷ 10 ∷ []) ++ rules

-- a drawing: its shapes in order
abbrev pub drawing_text : List ℕ → List ℕ → Texts → ℕ → ℕ → List Shape → List ℕ
drawing_text opener rules t width height shapes = head_text opener rules width height ++ flat_map (shape_text t) shapes ++ codes "</svg>" ++ 10 ∷ []
