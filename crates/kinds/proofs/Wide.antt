-- Each component has as many words as its kind has fields.
use Rattle.std.proofs.Common.{◌≡◌, length, refl, ◌∙◌}
use Rattle.kinds.specs.declared.kind.Kind.{Kind}
use Rattle.kinds.specs.declared.kind.Kind.TheVariants as kind
use Rattle.kinds.specs.declared.value.Value.{Value}
use Rattle.kinds.specs.Components.{widths}
use Rattle.kinds.specs.Kind.{kind_number}
use Rattle.kinds.specs.Shape.{shape_of, shape_width, words_of_shape}
use Rattle.kinds.specs.Value.{value_number, value_words}

-- a kind has as many fields as its shape
pub width_of_kind : (k : Kind) → shape_width (shape_of k) ≡ widths (kind_number k)
width_of_kind kind.Position = refl
width_of_kind kind.Velocity = refl
width_of_kind kind.Health = refl
width_of_kind kind.Damage = refl
width_of_kind kind.Team = refl
width_of_kind kind.Timer = refl
width_of_kind kind.Score = refl
width_of_kind kind.Energy = refl
width_of_kind kind.Charge = refl
width_of_kind kind.Target = refl
width_of_kind kind.Frozen = refl
width_of_kind kind.Hidden = refl
width_of_kind kind.Home = refl
width_of_kind kind.Mass = refl
width_of_kind kind.Armor = refl
width_of_kind kind.Range = refl
width_of_kind kind.Level = refl
width_of_kind kind.Rank = refl
width_of_kind kind.Sleeping = refl
width_of_kind kind.Marked = refl

pub value_width : (v : Value) → length (value_words v) ≡ widths (value_number v)
value_width v = words_of_shape (shape_of v.kind) v.first v.second ∙ width_of_kind v.kind
