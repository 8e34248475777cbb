-- When two accesses conflict, over all sets of kinds; the datum of a conflict; and the conflict as a computed test.
use Rattle.std.specs.Prelude.{ℕ, Bool, true, false, ◌==◌, ◌≡◌, ◌&&◌, ◌||◌, nat_lt, cond, List, [], ◌∷◌, ◌++◌, map, filter, filter_map, flat_map, Option, Some, None}
use Rattle.std.specs.List.{list_any, list_all}
use Rattle.model.specs.Lists.{has, IsIn}
use Rattle.model.specs.access.Query.{Alternative, Term, holds_in, matches, touched, touches, writes}
use Rattle.model.specs.access.Query.Alternative.{Has, Lacks}
use Rattle.model.specs.access.Query.Term.{Entity, Read, Mut, Opt, With, Without, Added, Changed, AnyOf}
use Rattle.model.specs.access.Access.{Params, names_resource, names_event}

-- what two accesses can meet on: a kind of components, a resource, an event kind
pub data Datum : Type 0 where
  OfKind OfResource OfEvent : ℕ → Datum

-- two queries conflict at a kind where some set of kinds matches both and holds it, both touch it and one writes it
pub record QueriesConflictAt (q r : List Term) (kind : ℕ) : Type 0 where
  pub kinds : ℕ → Bool
  pub first_matches : matches q kinds ≡ true
  pub second_matches : matches r kinds ≡ true
  pub holds : kinds kind ≡ true
  pub first_touches : touches q kind ≡ true
  pub second_touches : touches r kind ≡ true
  pub one_writes : (writes q kind || writes r kind) ≡ true

-- two accesses conflict at a resource that both name and one writes
pub record ResourcesConflictAt (a b : Params) (number : ℕ) : Type 0 where
  pub first_names : names_resource a number ≡ true
  pub second_names : names_resource b number ≡ true
  pub one_writes : (has number a.res_mut || has number b.res_mut) ≡ true

-- two accesses conflict at an event kind that both name and one writes
pub record EventsConflictAt (a b : Params) (kind : ℕ) : Type 0 where
  pub first_names : names_event a kind ≡ true
  pub second_names : names_event b kind ≡ true
  pub one_writes : (has kind a.writes || has kind b.writes) ≡ true

-- two accesses conflict at a datum
abbrev pub ConflictAt : Params → Params → Datum → Type 0
ConflictAt a b (OfKind kind) = (q : List Term) × (r : List Term) × IsIn q a.queries × IsIn r b.queries × QueriesConflictAt q r kind
ConflictAt a b (OfResource number) = ResourcesConflictAt a b number
ConflictAt a b (OfEvent kind) = EventsConflictAt a b kind

-- two accesses conflict where they do so at some datum
abbrev pub Conflict : Params → Params → Type 0
Conflict a b = (d : Datum) × ConflictAt a b d

-- ---- the least datum

-- whether a datum is below another: kinds, then resources, then event kinds, each by number
abbrev pub is_below : Datum → Datum → Bool
is_below (OfKind j) (OfKind k) = nat_lt j k
is_below (OfKind j) _ = true
is_below (OfResource j) (OfKind k) = false
is_below (OfResource j) (OfResource k) = nat_lt j k
is_below (OfResource j) (OfEvent k) = true
is_below (OfEvent j) (OfEvent k) = nat_lt j k
is_below (OfEvent j) _ = false

-- the datum that is told of two accesses: the least at which they conflict, and none where they don't
abbrev pub IsLeastDatum : Params → Params → Option Datum → Type 0
IsLeastDatum a b None = Conflict a b → ⊥
IsLeastDatum a b (Some d) = ConflictAt a b d × ((e : Datum) → is_below e d ≡ true → ConflictAt a b e → ⊥)

-- ---- the computed test: alternatives are chosen in turn, and of all sets of kinds of which the chosen ones hold the least is enough

-- what a term asks of the kinds of an entity, where it leaves no choice
abbrev pub plain : Term → Option Alternative
plain Entity = None
plain (Opt k) = None
plain (Without k) = Some (Lacks k)
plain (Read k) = Some (Has k)
plain (Mut k) = Some (Has k)
plain (With k) = Some (Has k)
plain (Added k) = Some (Has k)
plain (Changed k) = Some (Has k)
plain (AnyOf alternatives) = None

-- of what an `or` term asks one
abbrev pub choice : Term → Option (List Alternative)
choice (AnyOf alternatives) = Some alternatives
choice _ = None

-- what the terms of a query ask without a choice, and with one
abbrev pub plains : List Term → List Alternative
plains query = filter_map plain query

abbrev pub choices : List Term → List (List Alternative)
choices query = filter_map choice query

-- whether an alternative needs the kind
abbrev pub needs : ℕ → Alternative → Bool
needs kind (Has k) = k == kind
needs kind (Lacks k) = false

-- whether it bars the kind
abbrev pub bars : ℕ → Alternative → Bool
bars kind (Has k) = false
bars kind (Lacks k) = k == kind

-- the least set of which all of these can hold
abbrev pub least_kinds : List Alternative → ℕ → Bool
least_kinds taken kind = list_any (needs kind) taken

-- whether all of these hold of some set
abbrev pub agree : List Alternative → Bool
agree taken = list_all (holds_in (least_kinds taken)) taken

-- whether all that is taken, and of each choice one more, hold of some set with the kind
abbrev pub some_way : ℕ → List Alternative → List (List Alternative) → Bool
some_way kind taken [] = agree (Has kind ∷ taken)
some_way kind taken (alternatives ∷ more) = list_any (λ a. some_way kind (a ∷ taken) more) alternatives

-- whether some set with the kind matches both queries
abbrev pub match_both : List Term → List Term → ℕ → Bool
match_both q r kind = some_way kind (plains q ++ plains r) (choices q ++ choices r)

-- whether two queries conflict at a kind
abbrev pub queries_conflict_at : List Term → List Term → ℕ → Bool
queries_conflict_at q r kind = touches q kind && touches r kind && (writes q kind || writes r kind) && match_both q r kind

-- whether two accesses conflict at a datum
abbrev pub conflict_at : Params → Params → Datum → Bool
conflict_at a b (OfKind kind) = list_any (λ q. list_any (λ r. queries_conflict_at q r kind) b.queries) a.queries
conflict_at a b (OfResource number) = names_resource a number && names_resource b number && (has number a.res_mut || has number b.res_mut)
conflict_at a b (OfEvent kind) = names_event a kind && names_event b kind && (has kind a.writes || has kind b.writes)

-- what an access touches
abbrev pub data_of : Params → List Datum
data_of a = map OfKind (flat_map (λ q. filter_map touched q) a.queries) ++ (map OfResource (a.res ++ a.res_mut) ++ map OfEvent (a.reads ++ a.writes))

-- whether two accesses conflict
abbrev pub conflicts : Params → Params → Bool
conflicts a b = list_any (conflict_at a b) (data_of a)

-- the least of some data
abbrev pub lesser : Datum → Option Datum → Option Datum
lesser d None = Some d
lesser d (Some e) = cond (is_below e d) (Some e) (Some d)

abbrev pub least_of : List Datum → Option Datum
least_of [] = None
least_of (d ∷ ds) = lesser d (least_of ds)

-- the least datum of a conflict
abbrev pub least_datum : Params → Params → Option Datum
least_datum a b = least_of (filter (conflict_at a b) (data_of a))
