-- The alternatives of an `or` term as the definitions have them: each over the number of its kind.
use Rattle.std.specs.Prelude.{List, [], map}
use Rattle.model.specs.access.Query.{Alternative as ModelAlternative}
use Rattle.kinds.specs.Kind.{kind_number}
use Rattle.query.specs.declared.alternative.Alternative.{Alternative}
use Rattle.query.specs.declared.alternative.Alternative.TheVariants.{With, Without}
use Rattle.query.specs.declared.alternative.Alternatives.{Alternatives}
use Rattle.query.specs.declared.alternative.Alternatives.TheVariants.{Zero, One, Two, Three, Four, Five}

-- the alternative that the definitions speak of
abbrev pub alternative_of : Alternative → ModelAlternative
alternative_of (With kind) = ModelAlternative.Has (kind_number kind)
alternative_of (Without kind) = ModelAlternative.Lacks (kind_number kind)

-- the alternatives, in order
abbrev pub listed : Alternatives → List Alternative
listed Zero = []
listed (One alternatives) = alternatives
listed (Two alternatives) = alternatives
listed (Three alternatives) = alternatives
listed (Four alternatives) = alternatives
listed (Five alternatives) = alternatives

-- those that the definitions speak of
abbrev pub alternatives_of : Alternatives → List ModelAlternative
alternatives_of alternatives = map alternative_of (listed alternatives)
