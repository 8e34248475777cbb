-- When the parameters of one system conflict among themselves, and the same as a computed test.
use Rattle.std.specs.Prelude.{ℕ, Bool, true, false, ◌≡◌, ◌≢◌, ◌||◌, ◌⊎◌, List, [], ◌∷◌, Option, Some, None, get_or}
use Rattle.std.specs.List.{list_any}
use Rattle.model.specs.Lists.{has}
use Rattle.model.specs.access.Query.{Term, touched}
use Rattle.model.specs.access.QueryFaults.{has_twice}
use Rattle.model.specs.access.Access.{Params}
use Rattle.model.specs.access.Conflict.{Datum, QueriesConflictAt, queries_conflict_at}
use Rattle.model.specs.access.Conflict.Datum.{OfKind, OfResource, OfEvent}

-- two queries of different numbers conflict at a kind
pub record TwoConflictAt (queries : List (List Term)) (kind : ℕ) : Type 0 where
  pub first : ℕ
  pub second : ℕ
  pub differ : first ≢ second
  pub conflict : QueriesConflictAt (get_or queries first []) (get_or queries second []) kind

-- a number stands twice in a list
abbrev pub IsTwiceIn : ℕ → List ℕ → Type 0
IsTwiceIn n [] = ⊥
IsTwiceIn n (x ∷ xs) = ((x ≡ n) × (has n xs ≡ true)) ⊎ IsTwiceIn n xs

-- a number is written twice, or read and written
abbrev pub IsWrittenBeside : List ℕ → List ℕ → ℕ → Type 0
IsWrittenBeside read written n = IsTwiceIn n written ⊎ ((has n read ≡ true) × (has n written ≡ true))

-- parameters conflict among themselves at a datum: two queries at a kind, two parameters at a resource or an event kind that
-- one of them writes
abbrev pub ConflictWithinAt : Params → Datum → Type 0
ConflictWithinAt p (OfKind kind) = TwoConflictAt p.queries kind
ConflictWithinAt p (OfResource number) = IsWrittenBeside p.res p.res_mut number
ConflictWithinAt p (OfEvent kind) = IsWrittenBeside p.reads p.writes kind

-- parameters conflict among themselves where they do so at some datum
abbrev pub ConflictWithin : Params → Type 0
ConflictWithin p = (d : Datum) × ConflictWithinAt p d

-- ---- the computed test

-- whether two queries conflict at the kind, where there is one
abbrev pub meets_at : List Term → List Term → Option ℕ → Bool
meets_at q r None = false
meets_at q r (Some kind) = queries_conflict_at q r kind

-- whether two queries conflict at a kind that the first touches
abbrev pub queries_meet : List Term → List Term → Bool
queries_meet q r = list_any (λ t. meets_at q r (touched t)) q

-- whether two of the queries conflict
abbrev pub two_meet : List (List Term) → Bool
two_meet [] = false
two_meet (q ∷ queries) = list_any (queries_meet q) queries || two_meet queries

-- whether a number is written twice, or read and written
abbrev pub writes_beside : List ℕ → List ℕ → Bool
writes_beside read written = has_twice written || list_any (λ n. has n read) written

-- whether parameters conflict among themselves
abbrev pub conflict_within : Params → Bool
conflict_within p = two_meet p.queries || writes_beside p.res p.res_mut || writes_beside p.reads p.writes
