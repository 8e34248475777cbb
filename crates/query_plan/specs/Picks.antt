-- The columns that the rows of a query are in.
use Rattle.std.specs.Prelude.{ℕ, suc, Bool, cond, List, [], ◌∷◌, ◌++◌, map}
use Rattle.model.specs.Lists.{has}
use Rattle.model.specs.access.Query.{Term, matches, touches, writes}
use Rattle.kinds.specs.Kind.{kind_number}
use Rattle.archetype_store.specs.Layout.{Archetype}
use Rattle.query_plan.specs.declared.picks.Pick.{Pick}

-- a column that is picked: of the archetype of this number in a layout, of this kind, and whether it is written
pub record Picked : Type 0 where
  pub archetype : ℕ
  pub kind : ℕ
  pub is_written : Bool

-- those of the archetype of a number that a query touches, in the order of its kinds
abbrev pub picked_in : List Term → ℕ → List ℕ → List Picked
picked_in query number [] = []
picked_in query number (kind ∷ kinds) =
    cond (touches query kind) (record { archetype = number; kind = kind; is_written = writes query kind } ∷ picked_in query number kinds) (picked_in query number kinds)

-- those of an archetype, none unless the query matches its kinds
abbrev pub picked_of : List Term → ℕ → List ℕ → List Picked
picked_of query number kinds = cond (matches query (λ kind. has kind kinds)) (picked_in query number kinds) []

-- those of archetypes of these kinds, of which the first has this number
abbrev pub picked_from : List Term → ℕ → List (List ℕ) → List Picked
picked_from query number [] = []
picked_from query number (kinds ∷ others) = picked_of query number kinds ++ picked_from query (suc number) others

-- those of a layout
abbrev pub picks_of : List Term → List Archetype → List Picked
picks_of query layout = picked_from query 0 (map (λ a. a.kinds) layout)

-- a pick as the definitions have it
abbrev pub pick_seen : Pick → Picked
pick_seen pick = record { archetype = pick.archetype; kind = kind_number pick.kind; is_written = pick.is_written }
