-- Which fault of a query is reported: the least of a kind required and excluded, fetched twice, excluded in an `opt` term, and of a
-- misuse of `or` terms.
use Rattle.std.proofs.Common.{◌≡◌, ◌==◌, true, false, [], ◌∷◌, Some, None, refl}
use Rattle.model.specs.access.Query.{matches}
use Rattle.model.specs.access.Query.Alternative.{Has, Lacks}
use Rattle.model.specs.access.Query.Term.{Entity, Mut, Read, Opt, With, Without, Added, AnyOf}
use Rattle.model.specs.access.QueryFaults.{query_fault}
use Rattle.model.proofs.examples.Bodies.{health, score, frozen}

-- filters by presence stand beside what is fetched
good_query : query_fault (Entity ∷ Mut health ∷ With health ∷ Without frozen ∷ []) ≡ None
good_query = refl

-- a kind that is read and excluded
read_excluded : query_fault (Read health ∷ Without health ∷ []) ≡ Some 1
read_excluded = refl

-- a filter by change requires its kind
added_excluded : query_fault (Without frozen ∷ Added frozen ∷ []) ≡ Some 1
added_excluded = refl

-- an optional read fetches its kind
opt_fetched : query_fault (Opt health ∷ Without health ∷ Opt health ∷ []) ≡ Some 2
opt_fetched = refl

-- it does not require it
opt_excluded : query_fault (Opt health ∷ Without health ∷ []) ≡ Some 3
opt_excluded = refl

-- the least is told
all_three : query_fault (Read health ∷ Without health ∷ Opt health ∷ []) ≡ Some 1
all_three = refl

-- ---- `or` terms

-- a term with alternatives beside a filter by change and an excluded kind
or_beside : query_fault (Added health ∷ AnyOf (Has frozen ∷ Lacks score ∷ []) ∷ Without frozen ∷ []) ≡ None
or_beside = refl

-- two such terms, of two and of four alternatives
or_two : query_fault (AnyOf (Has health ∷ Has frozen ∷ []) ∷ AnyOf (Has health ∷ Has frozen ∷ Lacks score ∷ Lacks health ∷ []) ∷ []) ≡ None
or_two = refl

-- a third one
or_third : query_fault (AnyOf (Has health ∷ Has frozen ∷ []) ∷ AnyOf (Has health ∷ Has score ∷ []) ∷ AnyOf (Has score ∷ Has frozen ∷ []) ∷ []) ≡ Some 4
or_third = refl

-- no alternative, one, and five
or_none : query_fault (AnyOf [] ∷ []) ≡ Some 4
or_none = refl

or_one : query_fault (AnyOf (Has health ∷ []) ∷ []) ≡ Some 4
or_one = refl

or_five : query_fault (AnyOf (Has health ∷ Has score ∷ Has frozen ∷ Lacks health ∷ Lacks score ∷ []) ∷ []) ≡ Some 4
or_five = refl

-- an alternative excludes nothing, and so an `opt` term is no fault beside it; a lesser fault is reported first
or_excludes_nothing : query_fault (Opt health ∷ AnyOf (Lacks health ∷ Has frozen ∷ []) ∷ []) ≡ None
or_excludes_nothing = refl

or_last : query_fault (Read health ∷ Read health ∷ AnyOf [] ∷ []) ≡ Some 2
or_last = refl

-- one alternative is enough, and none is not
or_second_holds : matches (AnyOf (Has health ∷ Has frozen ∷ []) ∷ []) (λ k. k == frozen) ≡ true
or_second_holds = refl

or_none_holds : matches (AnyOf (Has health ∷ Has frozen ∷ []) ∷ []) (λ k. k == score) ≡ false
or_none_holds = refl
