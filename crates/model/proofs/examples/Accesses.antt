-- Which accesses conflict, and which among themselves: filters that exclude one another, an optional read, shared writes, and the
-- least datum.
use Rattle.std.proofs.Common.{◌≡◌, true, false, List, [], ◌∷◌, Some, refl}
use Rattle.model.specs.access.Query.{Term}
use Rattle.model.specs.access.Query.Alternative.{Has, Lacks}
use Rattle.model.specs.access.Query.Term.{Entity, Mut, Read, Opt, With, Without, Added, AnyOf}
use Rattle.model.specs.access.Access.{Params, no_params}
use Rattle.model.specs.access.Conflict.{conflicts, least_datum}
use Rattle.model.specs.access.SelfConflict.{conflict_within}
use Rattle.model.specs.access.Conflict.Datum.{OfKind, OfResource, OfEvent}
use Rattle.model.proofs.examples.Bodies.{position, health, score, frozen, round, total, hit, asks}

abbrev one : List Term → Params
one query = asks (query ∷ [])

-- a kind that one requires and the other excludes keeps two writers apart
apart_by_filters : conflicts (one (Mut position ∷ With frozen ∷ [])) (one (Mut position ∷ Without frozen ∷ [])) ≡ false
apart_by_filters = refl

-- two writers of one kind
shared_write : least_datum (one (Mut position ∷ [])) (one (Mut position ∷ [])) ≡ Some (OfKind position)
shared_write = refl

-- two readers
shared_read : conflicts (one (Read position ∷ [])) (one (Read position ∷ Opt health ∷ [])) ≡ false
shared_read = refl

-- an optional read doesn't require its kind, so it keeps nobody apart
optional_read : least_datum (one (Mut health ∷ Opt frozen ∷ [])) (one (Mut health ∷ Without frozen ∷ [])) ≡ Some (OfKind health)
optional_read = refl

-- the id and a filter by presence touch nothing
ids_and_filters : conflicts (one (Entity ∷ With position ∷ [])) (one (Mut position ∷ [])) ≡ false
ids_and_filters = refl

-- a filter by change touches its kind
change_filter : least_datum (one (Added position ∷ [])) (one (Mut position ∷ [])) ≡ Some (OfKind position)
change_filter = refl

-- the least kind is told, whatever the order of the terms
least_kind : least_datum (one (Mut score ∷ Mut health ∷ [])) (one (Read score ∷ Opt health ∷ [])) ≡ Some (OfKind health)
least_kind = refl

-- an entity that has one of two kinds isn't one that lacks both, but may be one that lacks the first
abbrev either : List Term
either = Mut health ∷ AnyOf (Has frozen ∷ Has score ∷ []) ∷ []

or_lacks_both : conflicts (one either) (one (Mut health ∷ Without frozen ∷ Without score ∷ [])) ≡ false
or_lacks_both = refl

or_lacks_first : least_datum (one either) (one (Mut health ∷ Without frozen ∷ [])) ≡ Some (OfKind health)
or_lacks_first = refl

-- the third alternative alone leaves a set that matches both
or_third_alone : least_datum (one (Mut health ∷ AnyOf (Has frozen ∷ Has score ∷ Lacks position ∷ []) ∷ [])) (one (Read health ∷ Without frozen ∷ Without score ∷ []))
    ≡ Some (OfKind health)
or_third_alone = refl

-- two queries that meet in a set that the last alternatives of both allow, and two that never do
or_both : least_datum (one (Mut health ∷ AnyOf (Has frozen ∷ Has score ∷ []) ∷ [])) (one (Mut health ∷ Without frozen ∷ AnyOf (Has frozen ∷ Lacks position ∷ []) ∷ []))
    ≡ Some (OfKind health)
or_both = refl

or_never : conflicts (one (Mut health ∷ AnyOf (Has frozen ∷ Has score ∷ []) ∷ Without score ∷ [])) (one (Mut health ∷ AnyOf (Lacks frozen ∷ Has score ∷ []) ∷ [])) ≡ false
or_never = refl

-- alternatives touch nothing: one that needs what the other writes doesn't meet it by that
or_touches_nothing : conflicts (one (Read health ∷ AnyOf (Has position ∷ Has score ∷ []) ∷ [])) (one (Mut position ∷ [])) ≡ false
or_touches_nothing = refl

-- a query that nothing matches conflicts with none
or_unmatched : conflicts (one (Mut health ∷ Without frozen ∷ Without score ∷ AnyOf (Has frozen ∷ Has score ∷ []) ∷ [])) (one (Mut health ∷ [])) ≡ false
or_unmatched = refl

-- resources come before event kinds
resources_first : least_datum (record no_params { res_mut = total ∷ round ∷ []; writes = hit ∷ [] }) (record no_params { res = total ∷ []; reads = hit ∷ [] })
    ≡ Some (OfResource total)
resources_first = refl

-- two readers of an event kind, and a reader beside a writer
event_readers : conflicts (record no_params { reads = hit ∷ [] }) (record no_params { reads = hit ∷ [] }) ≡ false
event_readers = refl

event_writer : least_datum (record no_params { reads = hit ∷ [] }) (record no_params { writes = hit ∷ [] }) ≡ Some (OfEvent hit)
event_writer = refl

-- ---- the parameters of one system

-- a writer and a reader of one kind
written_beside : conflict_within (asks ((Mut health ∷ []) ∷ (Read health ∷ []) ∷ [])) ≡ true
written_beside = refl

-- in whatever order, and with a query between them
read_before : conflict_within (asks ((Read health ∷ []) ∷ (Entity ∷ []) ∷ (Mut health ∷ []) ∷ [])) ≡ true
read_before = refl

-- a kind that one requires and the other excludes keeps them apart
apart_within : conflict_within (asks ((Mut health ∷ With frozen ∷ []) ∷ (Read health ∷ Without frozen ∷ []) ∷ [])) ≡ false
apart_within = refl

-- two readers; a query alone doesn't conflict, whatever its terms are
readers_within : conflict_within (asks ((Read health ∷ []) ∷ (Read health ∷ []) ∷ [])) ≡ false
readers_within = refl

alone_within : conflict_within (asks ((Mut health ∷ Read health ∷ []) ∷ [])) ≡ false
alone_within = refl

-- resources and event kinds: one written twice, one read and written, one read twice
resource_twice : conflict_within (record no_params { res_mut = total ∷ round ∷ total ∷ [] }) ≡ true
resource_twice = refl

resource_beside : conflict_within (record no_params { res = total ∷ []; res_mut = total ∷ [] }) ≡ true
resource_beside = refl

event_beside : conflict_within (record no_params { reads = hit ∷ []; writes = hit ∷ [] }) ≡ true
event_beside = refl

read_twice : conflict_within (record no_params { res = total ∷ total ∷ []; res_mut = round ∷ []; reads = hit ∷ hit ∷ [] }) ≡ false
read_twice = refl
