-- The kinds, in order, and what queries require.
use Rattle.std.specs.Prelude.{ℕ, Bool, List, [], ◌∷◌}
use Rattle.std.specs.List.{list_any}
use Rattle.kinds.specs.declared.kind.Kind.{Kind}
use Rattle.kinds.specs.declared.kind.Kind.TheVariants.{Position, Velocity, Health, Damage, Team, Timer, Score, Energy, Charge, Target, Frozen, Hidden, Home, Mass, Armor, Range, Level, Rank, Sleeping, Marked}
use Rattle.model.specs.Lists.{is_number}
use Rattle.model.specs.access.Query.{Term}
use Rattle.model.specs.access.QueryFaults.{required}

abbrev pub every_kind : List Kind
every_kind = Position ∷ Velocity ∷ Health ∷ Damage ∷ Team ∷ Timer ∷ Score ∷ Energy ∷ Charge ∷ Target ∷ Frozen ∷ Hidden ∷ Home ∷ Mass ∷ Armor ∷ Range ∷ Level ∷ Rank ∷ Sleeping ∷ Marked ∷ []

-- a query requires a kind
abbrev pub requires_kind : List Term → ℕ → Bool
requires_kind query kind = list_any (λ t. is_number kind (required t)) query
