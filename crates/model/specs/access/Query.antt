-- Queries: which sets of kinds they match, and which kinds they touch and write. A set of kinds is a test on kinds.
use Rattle.std.specs.Prelude.{ℕ, Bool, true, false, not, List, Option, Some, None}
use Rattle.std.specs.List.{list_any, list_all}
use Rattle.model.specs.Lists.{is_number}

-- an alternative of an `or` term: that an entity has a kind, or that it lacks it
pub data Alternative : Type 0 where
  Has Lacks : ℕ → Alternative

-- a term of a query: the id of the row's entity, a component fetched, a filter, or alternatives of which one is to hold (an `or` term)
pub data Term : Type 0 where
  Entity : Term
  Read Mut Opt With Without Added Changed : ℕ → Term
  AnyOf : List Alternative → Term

-- whether an alternative holds of a set of kinds
abbrev pub holds_in : (ℕ → Bool) → Alternative → Bool
holds_in kinds (Has k) = kinds k
holds_in kinds (Lacks k) = not (kinds k)

-- whether a term admits a set of kinds
abbrev pub admits : (ℕ → Bool) → Term → Bool
admits kinds Entity = true
admits kinds (Opt k) = true
admits kinds (Without k) = not (kinds k)
admits kinds (Read k) = kinds k
admits kinds (Mut k) = kinds k
admits kinds (With k) = kinds k
admits kinds (Added k) = kinds k
admits kinds (Changed k) = kinds k
admits kinds (AnyOf alternatives) = list_any (holds_in kinds) alternatives

-- a set of kinds matches a query where it holds every required kind, no excluded one, and an alternative of each `or` term
abbrev pub matches : List Term → (ℕ → Bool) → Bool
matches query kinds = list_all (admits kinds) query

-- the kind that a term touches
abbrev pub touched : Term → Option ℕ
touched Entity = None
touched (With k) = None
touched (Without k) = None
touched (AnyOf alternatives) = None
touched (Read k) = Some k
touched (Mut k) = Some k
touched (Opt k) = Some k
touched (Added k) = Some k
touched (Changed k) = Some k

-- the kind that a term writes
abbrev pub written : Term → Option ℕ
written (Mut k) = Some k
written _ = None

-- whether a query touches a kind
abbrev pub touches : List Term → ℕ → Bool
touches query kind = list_any (λ t. is_number kind (touched t)) query

-- whether a query writes a kind
abbrev pub writes : List Term → ℕ → Bool
writes query kind = list_any (λ t. is_number kind (written t)) query

-- whether a term compares a stamp with the asker's last run
abbrev pub is_filter : Term → Bool
is_filter (Added k) = true
is_filter (Changed k) = true
is_filter _ = false
