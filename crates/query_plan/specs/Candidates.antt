-- The shape of a query, and the archetypes among which its rows are.
use Rattle.std.specs.Prelude.{◌≡◌, ℕ, suc, Bool, true, cond, ◌^◌, bit_or, List, [], ◌∷◌, ◌++◌, Option, Some, None}
use Rattle.model.specs.Lists.{has}
use Rattle.model.specs.access.Query.{Term, matches}
use Rattle.model.specs.access.QueryFaults.{required, excluded}
use Rattle.archetype_store.specs.declared.shapes.Shape.{Shape}
use Rattle.archetype_store.specs.Layout.{Archetype, archetype_at}
use Rattle.query_plan.specs.Picks.{Picked, picked_of}

-- the bit of a kind that is named
abbrev pub bit_named : Option ℕ → ℕ
bit_named None = 0
bit_named (Some kind) = 2 ^ kind

-- the bits of the kinds that terms name
abbrev pub word_by : (Term → Option ℕ) → List Term → ℕ
word_by named [] = 0
word_by named (term ∷ terms) = bit_or (bit_named (named term)) (word_by named terms)

-- the kinds that a query requires, and those that it excludes
abbrev pub shape_of : List Term → Shape
shape_of query = record { required = word_by required query; excluded = word_by excluded query }

-- the numbers of the archetypes whose kinds pass a test, where the first of them has number n
abbrev pub numbers_where : (List ℕ → Bool) → ℕ → List Archetype → List ℕ
numbers_where test n [] = []
numbers_where test n (a ∷ others) = cond (test a.kinds) (n ∷ numbers_where test (suc n) others) (numbers_where test (suc n) others)

-- these are the archetypes that pass a test which all that the query matches pass
pub record AreCandidates (query : List Term) (layout : List Archetype) (archetypes : List ℕ) : Type 0 where
  pub test : List ℕ → Bool
  pub theirs : archetypes ≡ numbers_where test 0 layout
  pub passed : (kinds : List ℕ) → matches query (λ kind. has kind kinds) ≡ true → test kinds ≡ true

-- the columns that a query picks in the archetypes of these numbers
abbrev pub picked_at : List Term → List Archetype → List ℕ → List Picked
picked_at query layout [] = []
picked_at query layout (n ∷ ns) = picked_of query n (archetype_at layout n).kinds ++ picked_at query layout ns
