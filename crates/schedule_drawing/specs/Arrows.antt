-- Orders of sets: of which sets each member stands before each member of another, so that one arrow stands for all these edges.
use Rattle.std.specs.Prelude.{ℕ, ◌*◌, ◌&&◌, ◌||◌, not, nat_lt, Bool, false, cond, List, [], ◌∷◌, ◌++◌, length, get_or, Option}
use Rattle.std.specs.List.{list_all, list_any}
use Rattle.model.specs.Lists.{has}
use Rattle.model.specs.steps.Schedule.{Schedule, system_at}
use Rattle.schedule_drawing.specs.Places.{next_row}
use Rattle.schedule_drawing.specs.declared.arrows.Arrow.{Arrow}

-- the members of a set by its number
abbrev pub members_at : List (List ℕ) → ℕ → List ℕ
members_at sets k = get_or sets k []

-- each of some systems has an edge to this one
abbrev pub are_before : Schedule → List ℕ → ℕ → Bool
are_before s members n = list_all (λ m. has m (system_at s n).predecessors) members

-- each of some systems has an edge to each of others
abbrev pub is_whole : Schedule → List ℕ → List ℕ → Bool
is_whole s members others = list_all (are_before s members) others

-- each of some systems is one of others
abbrev pub is_within : List ℕ → List ℕ → Bool
is_within members others = list_all (λ m. has m others) members

-- a set holds all of another, and more; or the same, and is declared before it
abbrev pub is_above : List (List ℕ) → ℕ → ℕ → Bool
is_above sets k j =
    is_within (members_at sets k) (members_at sets j) && (not (is_within (members_at sets j) (members_at sets k)) || nat_lt j k)

-- an order of two sets says no more than one with this set in place of one of them
abbrev pub is_more : Schedule → List (List ℕ) → ℕ → ℕ → ℕ → Bool
is_more s sets from to j =
    (is_above sets from j && is_whole s (members_at sets j) (members_at sets to)) || (is_above sets to j && is_whole s (members_at sets from) (members_at sets j))

-- so it is with one of these sets, of which the first has this number
abbrev pub is_less_from : Schedule → List (List ℕ) → ℕ → ℕ → ℕ → List (List ℕ) → Bool
is_less_from s sets from to j [] = false
is_less_from s sets from to j (members ∷ rest) = is_more s sets from to j || is_less_from s sets from to (next_row j) rest

-- an arrow leads from a set to another: each member of the first has an edge to each of the second, there is more than one such edge, and no larger sets say it
abbrev pub is_arrow : Schedule → List (List ℕ) → ℕ → ℕ → Bool
is_arrow s sets from to =
    nat_lt 1 (length (members_at sets from) * length (members_at sets to)) && is_whole s (members_at sets from) (members_at sets to) && not (is_less_from s sets from to 0 sets)

abbrev pub arrow_if : Schedule → List (List ℕ) → ℕ → ℕ → List Arrow
arrow_if s sets from to = cond (is_arrow s sets from to) (record { from = from; to = to } ∷ []) []

-- the arrows from a set to these, of which the first has this number
abbrev pub arrows_to : Schedule → List (List ℕ) → ℕ → ℕ → List (List ℕ) → List Arrow
arrows_to s sets from k [] = []
arrows_to s sets from k (members ∷ rest) = arrow_if s sets from k ++ arrows_to s sets from (next_row k) rest

-- the arrows from these sets, of which the first has this number
abbrev pub arrows_from : Schedule → List (List ℕ) → ℕ → List (List ℕ) → List Arrow
arrows_from s sets k [] = []
arrows_from s sets k (members ∷ rest) = arrows_to s sets k 0 sets ++ arrows_from s sets (next_row k) rest

-- all arrows, where no set holds a system for the drawing
abbrev pub arrows_of : Schedule → List (Option ℕ) → List (List ℕ) → List Arrow
arrows_of s [] sets = arrows_from s sets 0 sets
arrows_of s (holder ∷ holders) sets = []

-- an arrow stands for an edge
abbrev pub stands_for : List (List ℕ) → ℕ → ℕ → Arrow → Bool
stands_for sets m n a = has m (members_at sets a.from) && has n (members_at sets a.to)

abbrev pub is_told : List (List ℕ) → List Arrow → ℕ → ℕ → Bool
is_told sets arrows m n = list_any (stands_for sets m n) arrows

-- the last and the first member of a set in schedule order; other numbers where it has none
abbrev pub last_in : List ℕ → ℕ → List ℕ → ℕ
last_in members found [] = found
last_in members found (n ∷ order) = last_in members (cond (has n members) n found) order

abbrev pub first_in : List ℕ → List ℕ → ℕ
first_in members [] = 0
first_in members (n ∷ order) = cond (has n members) n (first_in members order)
