-- A component of any kind, as a number and words.
use Rattle.std.specs.Prelude.{ℕ, ℤ, List}
use Rattle.kinds.specs.declared.value.Value.{Value}
use Rattle.kinds.specs.Kind.{kind_number}
use Rattle.kinds.specs.Shape.{shape_of, shape_words}

-- the number of the component's kind
abbrev pub value_number : Value → ℕ
value_number value = kind_number value.kind

-- the words of the component
abbrev pub value_words : Value → List ℤ
value_words value = shape_words (shape_of value.kind) value.first value.second
