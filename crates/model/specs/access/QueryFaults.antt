-- What is wrong with a query by itself.
use Rattle.std.specs.Prelude.{ℕ, Bool, true, false, ◌||◌, nat_lt, cond, List, [], ◌∷◌, length, filter, Option, Some, None}
use Rattle.std.specs.List.{list_any, filter_map}
use Rattle.model.specs.Lists.{has, is_number, provided}
use Rattle.model.specs.access.Query.{Term}
use Rattle.model.specs.access.Query.Term.{Entity, Read, Mut, Opt, With, Without, Added, Changed, AnyOf}

-- the kind that a term requires
abbrev pub required : Term → Option ℕ
required Entity = None
required (Opt k) = None
required (Without k) = None
required (AnyOf alternatives) = None
required (Read k) = Some k
required (Mut k) = Some k
required (With k) = Some k
required (Added k) = Some k
required (Changed k) = Some k

-- whether a query requires a kind
abbrev pub requires_kind : List Term → ℕ → Bool
requires_kind query kind = list_any (λ t. is_number kind (required t)) query

-- the kind that a term excludes
abbrev pub excluded : Term → Option ℕ
excluded (Without k) = Some k
excluded _ = None

-- whether a query excludes a kind
abbrev pub excludes_kind : List Term → ℕ → Bool
excludes_kind query kind = list_any (λ t. is_number kind (excluded t)) query

-- the kind that a term reads where an entity has it
abbrev pub optional : Term → Option ℕ
optional (Opt k) = Some k
optional _ = None

-- the kind that a term fetches: its component is shown with the row
abbrev pub fetched : Term → Option ℕ
fetched (Read k) = Some k
fetched (Mut k) = Some k
fetched (Opt k) = Some k
fetched _ = None

-- whether a number stands twice
abbrev pub has_twice : List ℕ → Bool
has_twice [] = false
has_twice (n ∷ ns) = has n ns || has_twice ns

-- ---- the four faults

-- whether a query requires a kind that it excludes
abbrev pub requires_excluded : List Term → Bool
requires_excluded query = list_any (excludes_kind query) (filter_map required query)

-- whether a query fetches a kind twice
abbrev pub fetches_twice : List Term → Bool
fetches_twice query = has_twice (filter_map fetched query)

-- whether a query has an `opt` term of a kind that it excludes
abbrev pub opts_excluded : List Term → Bool
opts_excluded query = list_any (excludes_kind query) (filter_map optional query)

-- whether a term is an `or` term
abbrev pub is_or : Term → Bool
is_or (AnyOf alternatives) = true
is_or _ = false

-- whether a term is an `or` term of a wrong number of alternatives: not two to four
abbrev pub is_misnumbered : Term → Bool
is_misnumbered (AnyOf alternatives) = nat_lt (length alternatives) 2 || nat_lt 4 (length alternatives)
is_misnumbered _ = false

-- whether a query has more than two `or` terms
abbrev pub has_many_ors : List Term → Bool
has_many_ors query = nat_lt 2 (length (filter is_or query))

-- whether a query has more than two `or` terms, or one of a wrong number of alternatives
abbrev pub misuses_or : List Term → Bool
misuses_or query = has_many_ors query || list_any is_misnumbered query

-- the number of the least fault of a query, none where nothing is wrong with it: 1, a kind is required and excluded; 2, a kind
-- is fetched twice; 3, an `opt` term has an excluded kind; 4, there are more than two `or` terms, or one without two to four
-- alternatives
abbrev pub query_fault : List Term → Option ℕ
query_fault query = cond (requires_excluded query) (Some 1) (cond (fetches_twice query) (Some 2) (cond (opts_excluded query) (Some 3) (provided (misuses_or query) 4)))
