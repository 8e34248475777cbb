-- How many fields a kind has, and the words of a component of it.
use Rattle.std.specs.Prelude.{◌≡◌, ℕ, ℤ, List, [], ◌∷◌, length, refl}
use Rattle.kinds.specs.declared.kind.Kind.{Kind}
use Rattle.kinds.specs.declared.kind.Kind.TheVariants as kind
use Rattle.kinds.specs.declared.shape.Shape.{Shape}
use Rattle.kinds.specs.declared.shape.Shape.TheVariants.{Mark, Amount, Pair}

-- the shape of a kind
abbrev pub shape_of : Kind → Shape
shape_of kind.Position = Pair
shape_of kind.Velocity = Pair
shape_of kind.Health = Amount
shape_of kind.Damage = Amount
shape_of kind.Team = Amount
shape_of kind.Timer = Amount
shape_of kind.Score = Amount
shape_of kind.Energy = Amount
shape_of kind.Charge = Amount
shape_of kind.Target = Amount
shape_of kind.Frozen = Mark
shape_of kind.Hidden = Mark
shape_of kind.Home = Pair
shape_of kind.Mass = Amount
shape_of kind.Armor = Amount
shape_of kind.Range = Amount
shape_of kind.Level = Amount
shape_of kind.Rank = Amount
shape_of kind.Sleeping = Mark
shape_of kind.Marked = Mark

-- how many fields
abbrev pub shape_width : Shape → ℕ
shape_width Mark = 0
shape_width Amount = 1
shape_width Pair = 2

-- those of two words that are fields
abbrev pub shape_words : Shape → ℤ → ℤ → List ℤ
shape_words Mark first second = []
shape_words Amount first second = first ∷ []
shape_words Pair first second = first ∷ second ∷ []

-- so many as its shape has
pub words_of_shape : (shape : Shape) (first second : ℤ) → length (shape_words shape first second) ≡ shape_width shape
words_of_shape Mark first second = refl
words_of_shape Amount first second = refl
words_of_shape Pair first second = refl
