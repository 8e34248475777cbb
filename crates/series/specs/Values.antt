-- What a series is in a world: a number.
use Rattle.std.specs.Prelude.{ℕ, ℤ, pos, ◌+ℤ◌, List, [], ◌∷◌, get_or, length, map, Option, Some, None}
use Rattle.std.specs.Int.{saturate_signed}
use mir.Syntax.{w64}
use Rattle.kinds.specs.Kind.{kind_number}
use Rattle.kinds.specs.Res.{res_number}
use Rattle.model.specs.access.Query.{Term}
use Rattle.model.specs.shown.Input.{rows_of, value_of as resource_value}
use Rattle.model.specs.state.Rows.{cell_at}
use Rattle.model.specs.state.State.{Cell, Component, Slot, World}
use Rattle.script.specs.declared.operands.Axis.{Axis}
use Rattle.script.specs.declared.operands.Axis.TheVariants.{X, Y, V}
use Rattle.script.specs.declared.operands.Field.{Field}
use Rattle.series.specs.declared.series.Series.{Series}
use Rattle.series.specs.declared.series.Series.TheVariants.{Resource, Count, Sum}

-- the place of a letter among the words of a component that has it
abbrev pub axis_place : Axis → ℕ
axis_place X = 0
axis_place Y = 1
axis_place V = 0

-- the words of a component, where it is there
abbrev pub words_at : Option Cell → List ℤ
words_at None = []
words_at (Some cell) = cell.words

-- a field of an entity; 0 where the entity has no component of its kind
abbrev pub field_in : Field → List Component → ℤ
field_in field row = get_or (words_at (cell_at row (kind_number field.kind))) (axis_place field.axis) (pos 0)

-- the sum of a field over all entities. (What doesn't live has no components.)
abbrev pub sum_of : Field → List Slot → ℤ
sum_of field [] = pos 0
sum_of field (slot ∷ slots) = field_in field slot.row +ℤ sum_of field slots

-- a number as a value of 64 bits: the least or the greatest one where it doesn't fit
abbrev pub cut : ℤ → ℤ
cut z = saturate_signed w64 z

-- how many entities a query matches, for an observer who has seen nothing before
abbrev pub count_of : List Term → List Slot → ℕ
count_of query slots = length (rows_of query 0 slots)

-- the value of a series
abbrev pub value_of : World → Series → ℤ
value_of world (Resource res) = resource_value world.resources (res_number res)
value_of world (Count query) = pos (count_of query world.slots)
value_of world (Sum field) = cut (sum_of field world.slots)

-- those of several, in order
abbrev pub values_of : World → List Series → List ℤ
values_of world series = map (value_of world) series
