-- The computed test of a conflict is true exactly where there is one, and the computed datum is the least.
use Rattle.std.proofs.Common.{◌≡◌, ℕ, Bool, true, false, not, cond, ◌⊎◌, ◌↔◌, inl, inr, refl, sym, ap, subst, ◌∙◌, List, [], ◌∷◌, ◌++◌, map, filter, filter_map, flat_map, Option, Some, None, ◌||◌, ◌&&◌, arith, eqb-true, eq-eqb, ltb-true, ltb-false, lt-ltb}
use Rattle.std.proofs.lemmas.Bool.{or_cases, and_parts, and_from, false≢true, false_from_ne_true, not-true, not_from_false}
use Rattle.std.specs.List.{list_any, list_all}
use Rattle.model.specs.Lists.{has, IsIn, is_number}
use Rattle.model.specs.access.Query.{Alternative, Term, holds_in, matches, touched, touches, writes}
use Rattle.model.specs.access.Query.Alternative.{Has, Lacks}
use Rattle.model.specs.access.Query.Term.{Entity, Read, Mut, Opt, With, Without, Added, Changed, AnyOf}
use Rattle.model.specs.access.Access.{Params, names_resource, names_event}
use Rattle.model.specs.access.Conflict.{Datum, ConflictAt, Conflict, QueriesConflictAt, is_below, IsLeastDatum, plains, choices, needs, least_kinds, agree, some_way, match_both, queries_conflict_at, conflict_at, data_of, conflicts, lesser, least_of, least_datum}
use Rattle.model.specs.access.Conflict.Datum.{OfKind, OfResource, OfEvent}
use Rattle.model.proofs.lists.Members.{in-map, in-flat_map, in-filter_map, in-filter, from-filter, number-of}
use Rattle.model.proofs.lists.Lists.{list_any-IsIn, IsIn_from_any, list_all-IsIn, list_all_from, IsIn_left, IsIn_right, IsIn_from_has}

-- ---- what a query asks of a set of kinds, in two parts

-- tests that all pass, in another order
three_grouped : (a b c : Bool) → (a && (b && c)) ≡ ((a && b) && c)
three_grouped true b c = refl
three_grouped false b c = refl

second_first : (a b c : Bool) → (a && (b && c)) ≡ (b && (a && c))
second_first true true c = refl
second_first true false c = refl
second_first false true c = refl
second_first false false c = refl

-- whether some alternative of each choice holds of a set of kinds
abbrev pub meets_choices : (ℕ → Bool) → List (List Alternative) → Bool
meets_choices kinds more = list_all (λ alternatives. list_any (holds_in kinds) alternatives) more

-- whether what terms ask without a choice holds, and of each choice an alternative
abbrev pub meets_parts : (ℕ → Bool) → List Term → Bool
meets_parts kinds q = list_all (holds_in kinds) (plains q) && meets_choices kinds (choices q)

-- a set of kinds matches a query where it has what the terms ask without a choice, and of each choice an alternative
pub matches-parts : (kinds : ℕ → Bool) (q : List Term) → matches q kinds ≡ meets_parts kinds q
matches-parts kinds [] = refl
matches-parts kinds (Entity ∷ q) = matches-parts kinds q
matches-parts kinds (Opt k ∷ q) = matches-parts kinds q
matches-parts kinds (Without k ∷ q) = ap (λ b. not (kinds k) && b) (matches-parts kinds q) ∙ three_grouped (not (kinds k)) _ _
matches-parts kinds (Read k ∷ q) = ap (λ b. kinds k && b) (matches-parts kinds q) ∙ three_grouped (kinds k) _ _
matches-parts kinds (Mut k ∷ q) = ap (λ b. kinds k && b) (matches-parts kinds q) ∙ three_grouped (kinds k) _ _
matches-parts kinds (With k ∷ q) = ap (λ b. kinds k && b) (matches-parts kinds q) ∙ three_grouped (kinds k) _ _
matches-parts kinds (Added k ∷ q) = ap (λ b. kinds k && b) (matches-parts kinds q) ∙ three_grouped (kinds k) _ _
matches-parts kinds (Changed k ∷ q) = ap (λ b. kinds k && b) (matches-parts kinds q) ∙ three_grouped (kinds k) _ _
matches-parts kinds (AnyOf alternatives ∷ q) =
    ap (λ b. list_any (holds_in kinds) alternatives && b) (matches-parts kinds q) ∙ second_first (list_any (holds_in kinds) alternatives) (list_all (holds_in kinds) (plains q)) _

-- a test of all of two lists
pub all-both : {A : Type 0} (test : A → Bool) (xs ys : List A) → list_all test (xs ++ ys) ≡ (list_all test xs && list_all test ys)
all-both test [] ys = refl
all-both test (x ∷ xs) ys = ap (λ b. test x && b) (all-both test xs ys) ∙ three_grouped (test x) (list_all test xs) (list_all test ys)

-- ---- the least set of kinds

-- what an alternative needs is in each set of which it holds
needed-there : (kinds : ℕ → Bool) (k : ℕ) (a : Alternative) → needs k a ≡ true → holds_in kinds a ≡ true → kinds k ≡ true
needed-there kinds k (Has j) e h = ap kinds (sym (eqb-true j k e)) ∙ h
needed-there kinds k (Lacks j) e h = absurd (false≢true e)

-- the least set is below each set of which all hold
least-below : (kinds : ℕ → Bool) (taken : List Alternative) (k : ℕ) → list_all (holds_in kinds) taken ≡ true → least_kinds taken k ≡ true → kinds k ≡ true
least-below kinds taken k h e = let r = IsIn_from_any (needs k) taken e in
    needed-there kinds k r.0 r.2 (list_all-IsIn (holds_in kinds) r.0 taken h r.1)

-- each of them holds of the least set
holds-least : (kinds : ℕ → Bool) (taken : List Alternative) (a : Alternative) → IsIn a taken → list_all (holds_in kinds) taken ≡ true → holds_in kinds a ≡ true
    → holds_in (least_kinds taken) a ≡ true
holds-least kinds taken (Has k) inside all h = list_any-IsIn (needs k) (Has k) taken inside (eq-eqb k k refl)
holds-least kinds taken (Lacks k) inside all h =
    not_from_false (least_kinds taken k) (false_from_ne_true (least_kinds taken k) (λ e. false≢true (sym (not-true (kinds k) h) ∙ least-below kinds taken k all e)))

-- alternatives that hold of some set agree
agree-from : (kinds : ℕ → Bool) (taken : List Alternative) → list_all (holds_in kinds) taken ≡ true → agree taken ≡ true
agree-from kinds taken h = list_all_from (holds_in (least_kinds taken)) taken (λ a inside.
    holds-least kinds taken a inside h (list_all-IsIn (holds_in kinds) a taken h inside))

-- ---- choices in turn

-- a set of kinds of which all that is taken holds, and an alternative of each choice
pub record IsMet (kind : ℕ) (taken : List Alternative) (more : List (List Alternative)) : Type 0 where
  pub kinds : ℕ → Bool
  pub there : kinds kind ≡ true
  pub holds : list_all (holds_in kinds) taken ≡ true
  pub chosen : meets_choices kinds more ≡ true

-- the choices that are found come with such a set
pub met-by_way : (kind : ℕ) (taken : List Alternative) (more : List (List Alternative)) → some_way kind taken more ≡ true → IsMet kind taken more
met-by_way kind taken [] e =
    let parts = and_parts (least_kinds (Has kind ∷ taken) kind) (list_all (holds_in (least_kinds (Has kind ∷ taken))) taken) e in
    record { kinds = least_kinds (Has kind ∷ taken); there = parts.0; holds = parts.1; chosen = refl }
met-by_way kind taken (alternatives ∷ more) e =
    let a = IsIn_from_any (λ a. some_way kind (a ∷ taken) more) alternatives e in
    let r = met-by_way kind (a.0 ∷ taken) more a.2 in
    let parts = and_parts (holds_in r.kinds a.0) (list_all (holds_in r.kinds) taken) r.holds in
    record { kinds = r.kinds; there = r.there; holds = parts.1; chosen = and_from _ _ (list_any-IsIn (holds_in r.kinds) a.0 alternatives a.1 parts.0) r.chosen }

-- and where there is such a set, choices are found
pub way-of_met : (kind : ℕ) (taken : List Alternative) (more : List (List Alternative)) → IsMet kind taken more → some_way kind taken more ≡ true
way-of_met kind taken [] m = agree-from m.kinds (Has kind ∷ taken) (and_from _ _ m.there m.holds)
way-of_met kind taken (alternatives ∷ more) m =
    let parts = and_parts (list_any (holds_in m.kinds) alternatives) (meets_choices m.kinds more) m.chosen in
    let a = IsIn_from_any (holds_in m.kinds) alternatives parts.0 in
    list_any-IsIn (λ a. some_way kind (a ∷ taken) more) a.0 alternatives a.1
    (way-of_met kind (a.0 ∷ taken) more (record { kinds = m.kinds; there = m.there; holds = and_from _ _ a.2 m.holds; chosen = parts.1 }))

-- two queries that some set with the kind matches pass the test
test-both : (q r : List Term) (kind : ℕ) (kinds : ℕ → Bool) → matches q kinds ≡ true → matches r kinds ≡ true → kinds kind ≡ true → match_both q r kind ≡ true
test-both q r kind kinds first second there =
    let p = and_parts (list_all (holds_in kinds) (plains q)) (meets_choices kinds (choices q)) (sym (matches-parts kinds q) ∙ first) in
    let o = and_parts (list_all (holds_in kinds) (plains r)) (meets_choices kinds (choices r)) (sym (matches-parts kinds r) ∙ second) in
    way-of_met kind (plains q ++ plains r) (choices q ++ choices r) (record {
      kinds = kinds;
      there = there;
      holds = all-both (holds_in kinds) (plains q) (plains r) ∙ and_from _ _ p.0 o.0;
      chosen = all-both (λ alternatives. list_any (holds_in kinds) alternatives) (choices q) (choices r) ∙ and_from _ _ p.1 o.1;
    })

-- and those that pass it are matched by one
set-both : (q r : List Term) (kind : ℕ) → match_both q r kind ≡ true → (kinds : ℕ → Bool) × (matches q kinds ≡ true) × (matches r kinds ≡ true) × (kinds kind ≡ true)
set-both q r kind e =
    let m = met-by_way kind (plains q ++ plains r) (choices q ++ choices r) e in
    let held = and_parts (list_all (holds_in m.kinds) (plains q)) (list_all (holds_in m.kinds) (plains r)) (sym (all-both (holds_in m.kinds) (plains q) (plains r)) ∙ m.holds) in
    let met = and_parts (meets_choices m.kinds (choices q)) (meets_choices m.kinds (choices r))
    (sym (all-both (λ alternatives. list_any (holds_in m.kinds) alternatives) (choices q) (choices r)) ∙ m.chosen) in
    (m.kinds, matches-parts m.kinds q ∙ and_from _ _ held.0 met.0, matches-parts m.kinds r ∙ and_from _ _ held.1 met.1, m.there)

-- ---- the test is exact

-- four tests that all pass
four : (x y z u : Bool) → x ≡ true → y ≡ true → z ≡ true → u ≡ true → (x && y && z && u) ≡ true
four x y z u a b c d = grind arith

-- what four tests say that all pass
from_four : (x y z u : Bool) → (x && y && z && u) ≡ true → (x ≡ true) × (y ≡ true) × (z ≡ true) × (u ≡ true)
from_four true true true true e = (refl, refl, refl, refl)
from_four true true true false e = absurd (false≢true e)
from_four true true false u e = absurd (false≢true e)
from_four true false z u e = absurd (false≢true e)
from_four false y z u e = absurd (false≢true e)

-- what three tests say that all pass
from_three : (x y z : Bool) → (x && y && z) ≡ true → (x ≡ true) × (y ≡ true) × (z ≡ true)
from_three true true true e = (refl, refl, refl)
from_three true true false e = absurd (false≢true e)
from_three true false z e = absurd (false≢true e)
from_three false y z e = absurd (false≢true e)

-- three tests that all pass
three : (x y z : Bool) → x ≡ true → y ≡ true → z ≡ true → (x && y && z) ≡ true
three x y z a b c = grind arith

-- queries that conflict pass the test
pub test-queries : (q r : List Term) (kind : ℕ) → QueriesConflictAt q r kind → queries_conflict_at q r kind ≡ true
test-queries q r kind c = four (touches q kind) (touches r kind) (writes q kind || writes r kind) (match_both q r kind)
    c.first_touches c.second_touches c.one_writes (test-both q r kind c.kinds c.first_matches c.second_matches c.holds)

-- queries that pass the test conflict
pub conflict-queries : (q r : List Term) (kind : ℕ) → queries_conflict_at q r kind ≡ true → QueriesConflictAt q r kind
conflict-queries q r kind e =
    let p = from_four (touches q kind) (touches r kind) (writes q kind || writes r kind) (match_both q r kind) e in
    let s = set-both q r kind p.3 in
    record { kinds = s.0; first_matches = s.1; second_matches = s.2; holds = s.3; first_touches = p.0; second_touches = p.1; one_writes = p.2 }

-- accesses that conflict at a datum pass the test there
pub test-from_conflict : (a b : Params) (d : Datum) → ConflictAt a b d → conflict_at a b d ≡ true
test-from_conflict a b (OfKind kind) c = list_any-IsIn (λ q. list_any (λ r. queries_conflict_at q r kind) b.queries) c.0 a.queries c.2
    (list_any-IsIn (λ r. queries_conflict_at c.0 r kind) c.1 b.queries c.3 (test-queries c.0 c.1 kind c.4))
test-from_conflict a b (OfResource number) c = three (names_resource a number) (names_resource b number) (has number a.res_mut || has number b.res_mut)
    c.first_names c.second_names c.one_writes
test-from_conflict a b (OfEvent kind) c = three (names_event a kind) (names_event b kind) (has kind a.writes || has kind b.writes)
    c.first_names c.second_names c.one_writes

-- accesses that pass the test at a datum conflict there
pub conflict-from_test : (a b : Params) (d : Datum) → conflict_at a b d ≡ true → ConflictAt a b d
conflict-from_test a b (OfKind kind) e =
    let first = IsIn_from_any (λ q. list_any (λ r. queries_conflict_at q r kind) b.queries) a.queries e in
    let second = IsIn_from_any (λ r. queries_conflict_at first.0 r kind) b.queries first.2 in
    (first.0, second.0, first.1, second.1, conflict-queries first.0 second.0 kind second.2)
conflict-from_test a b (OfResource number) e =
    let p = from_three (names_resource a number) (names_resource b number) (has number a.res_mut || has number b.res_mut) e in
    record { first_names = p.0; second_names = p.1; one_writes = p.2 }
conflict-from_test a b (OfEvent kind) e =
    let p = from_three (names_event a kind) (names_event b kind) (has kind a.writes || has kind b.writes) e in
    record { first_names = p.0; second_names = p.1; one_writes = p.2 }

-- a number that one of two lists has is in both joined
in-either : (n : ℕ) (xs ys : List ℕ) → (has n xs || has n ys) ≡ true → IsIn n (xs ++ ys)
in-either n xs ys e = go (or_cases (has n xs) (has n ys) e)
  where
    go : (has n xs ≡ true) ⊎ (has n ys ≡ true) → IsIn n (xs ++ ys)
    go (inl first) = IsIn_left n xs ys (IsIn_from_has n xs first)
    go (inr second) = IsIn_right n xs ys (IsIn_from_has n ys second)

-- what an access touches, in three parts
kinds_touched : Params → List Datum
kinds_touched a = map OfKind (flat_map (λ q. filter_map touched q) a.queries)

resources_touched : Params → List Datum
resources_touched a = map OfResource (a.res ++ a.res_mut)

events_touched : Params → List Datum
events_touched a = map OfEvent (a.reads ++ a.writes)

-- the datum of a conflict is among what the first access touches
pub datum-touched : (a b : Params) (d : Datum) → ConflictAt a b d → IsIn d (data_of a)
unfolding kinds_touched resources_touched events_touched
datum-touched a b (OfKind kind) c =
    let t = IsIn_from_any (λ t. is_number kind (touched t)) c.0 c.4.first_touches in
    IsIn_left (OfKind kind) (kinds_touched a) (resources_touched a ++ events_touched a)
    (in-map OfKind (flat_map (λ q. filter_map touched q) a.queries) kind
    (in-flat_map (λ q. filter_map touched q) a.queries c.0 kind c.2
    (in-filter_map touched c.0 t.0 kind t.1 (number-of kind (touched t.0) t.2))))
datum-touched a b (OfResource number) c =
    IsIn_right (OfResource number) (kinds_touched a) (resources_touched a ++ events_touched a)
    (IsIn_left (OfResource number) (resources_touched a) (events_touched a)
    (in-map OfResource (a.res ++ a.res_mut) number (in-either number a.res a.res_mut c.first_names)))
datum-touched a b (OfEvent kind) c =
    IsIn_right (OfEvent kind) (kinds_touched a) (resources_touched a ++ events_touched a)
    (IsIn_right (OfEvent kind) (resources_touched a) (events_touched a)
    (in-map OfEvent (a.reads ++ a.writes) kind (in-either kind a.reads a.writes c.first_names)))

-- the test of two accesses finds a conflict
pub conflict-found : (a b : Params) → conflicts a b ≡ true → Conflict a b
conflict-found a b e = let r = IsIn_from_any (conflict_at a b) (data_of a) e in (r.0, conflict-from_test a b r.0 r.2)

-- and misses none
pub conflict-tested : (a b : Params) → Conflict a b → conflicts a b ≡ true
conflict-tested a b c = list_any-IsIn (conflict_at a b) c.0 (data_of a) (datum-touched a b c.0 c.1) (test-from_conflict a b c.0 c.1)

-- ---- the least datum

-- a datum isn't below itself
below-itself : (d : Datum) → is_below d d ≡ true → ⊥
below-itself (OfKind k) e = omega (arith, ltb-true k k e)
below-itself (OfResource k) e = omega (arith, ltb-true k k e)
below-itself (OfEvent k) e = omega (arith, ltb-true k k e)

-- what is below a datum that is not above another is below the other
below-another : (e d m : Datum) → is_below e d ≡ true → is_below m d ≡ false → is_below e m ≡ true
below-another (OfKind i) (OfKind j) (OfKind k) p q = lt-ltb i k (omega (arith, ltb-true i j p, ltb-false k j q))
below-another (OfKind i) (OfKind j) (OfResource k) p q = refl
below-another (OfKind i) (OfKind j) (OfEvent k) p q = refl
below-another (OfKind i) (OfResource j) (OfKind k) p q = cc
below-another (OfKind i) (OfResource j) (OfResource k) p q = refl
below-another (OfKind i) (OfResource j) (OfEvent k) p q = refl
below-another (OfKind i) (OfEvent j) (OfKind k) p q = cc
below-another (OfKind i) (OfEvent j) (OfResource k) p q = refl
below-another (OfKind i) (OfEvent j) (OfEvent k) p q = refl
below-another (OfResource i) (OfKind j) m p q = cc
below-another (OfResource i) (OfResource j) (OfKind k) p q = cc
below-another (OfResource i) (OfResource j) (OfResource k) p q = lt-ltb i k (omega (arith, ltb-true i j p, ltb-false k j q))
below-another (OfResource i) (OfResource j) (OfEvent k) p q = refl
below-another (OfResource i) (OfEvent j) (OfKind k) p q = cc
below-another (OfResource i) (OfEvent j) (OfResource k) p q = cc
below-another (OfResource i) (OfEvent j) (OfEvent k) p q = refl
below-another (OfEvent i) (OfKind j) m p q = cc
below-another (OfEvent i) (OfResource j) m p q = cc
below-another (OfEvent i) (OfEvent j) (OfKind k) p q = cc
below-another (OfEvent i) (OfEvent j) (OfResource k) p q = cc
below-another (OfEvent i) (OfEvent j) (OfEvent k) p q = lt-ltb i k (omega (arith, ltb-true i j p, ltb-false k j q))

-- of two data not each is below the other
below-both : (d m : Datum) → is_below d m ≡ true → is_below m d ≡ true → ⊥
below-both (OfKind i) (OfKind j) p q = omega (arith, ltb-true i j p, ltb-true j i q)
below-both (OfKind i) (OfResource j) p q = cc
below-both (OfKind i) (OfEvent j) p q = cc
below-both (OfResource i) (OfKind j) p q = cc
below-both (OfResource i) (OfResource j) p q = omega (arith, ltb-true i j p, ltb-true j i q)
below-both (OfResource i) (OfEvent j) p q = cc
below-both (OfEvent i) (OfKind j) p q = cc
below-both (OfEvent i) (OfResource j) p q = cc
below-both (OfEvent i) (OfEvent j) p q = omega (arith, ltb-true i j p, ltb-true j i q)

-- the least of some data: one of them, with none below it, and none where there are none
abbrev IsLeastOf : List Datum → Option Datum → Type 0
IsLeastOf ds None = (e : Datum) → IsIn e ds → ⊥
IsLeastOf ds (Some d) = IsIn d ds × ((e : Datum) → is_below e d ≡ true → IsIn e ds → ⊥)

-- a first datum is the least where it is alone
least-alone : (d : Datum) (ds : List Datum) → ((e : Datum) → IsIn e ds → ⊥) → (e : Datum) → is_below e d ≡ true → IsIn e (d ∷ ds) → ⊥
least-alone d ds none e below (inl same) = below-itself d (subst (λ x. is_below x d ≡ true) same below)
least-alone d ds none e below (inr more) = none e more

-- the least of the others stays the least where it is below the first
least-stays : (d m : Datum) (ds : List Datum) → is_below m d ≡ true → ((e : Datum) → is_below e m ≡ true → IsIn e ds → ⊥)
    → (e : Datum) → is_below e m ≡ true → IsIn e (d ∷ ds) → ⊥
least-stays d m ds p least e below (inl same) = below-both d m (subst (λ x. is_below x m ≡ true) same below) p
least-stays d m ds p least e below (inr more) = least e below more

-- the first datum is the least where that of the others isn't below it
least-first_one : (d m : Datum) (ds : List Datum) → is_below m d ≡ false → ((e : Datum) → is_below e m ≡ true → IsIn e ds → ⊥)
    → (e : Datum) → is_below e d ≡ true → IsIn e (d ∷ ds) → ⊥
least-first_one d m ds p least e below (inl same) = below-itself d (subst (λ x. is_below x d ≡ true) same below)
least-first_one d m ds p least e below (inr more) = least e (below-another e d m below p) more

-- the lesser of a first datum and the least of the others is the least
lesser-least : (d : Datum) (ds : List Datum) (o : Option Datum) → IsLeastOf ds o → IsLeastOf (d ∷ ds) (lesser d o)
lesser-least d ds None none = (inl refl, least-alone d ds none)
lesser-least d ds (Some m) least = pick (is_below m d) refl
  where
    pick : (b : Bool) → is_below m d ≡ b → IsLeastOf (d ∷ ds) (cond b (Some m) (Some d))
    pick true p = (inr least.0, least-stays d m ds p least.1)
    pick false p = (inl refl, least-first_one d m ds p least.1)

-- the computed one is the least
least_of-least : (ds : List Datum) → IsLeastOf ds (least_of ds)
least_of-least [] = λ e h. h
least_of-least (d ∷ ds) = lesser-least d ds (least_of ds) (least_of-least ds)

-- the computed datum is that of the least conflict
pub datum-least : (a b : Params) → IsLeastDatum a b (least_datum a b)
datum-least a b = go (least_datum a b) (least_of-least (filter (conflict_at a b) (data_of a)))
  where
    listed : (d : Datum) → ConflictAt a b d → IsIn d (filter (conflict_at a b) (data_of a))
    listed d c = in-filter (conflict_at a b) (data_of a) d (datum-touched a b d c) (test-from_conflict a b d c)

    go : (o : Option Datum) → IsLeastOf (filter (conflict_at a b) (data_of a)) o → IsLeastDatum a b o
    go None none = λ c. none c.0 (listed c.0 c.1)
    go (Some d) least = (conflict-from_test a b d (from-filter (conflict_at a b) (data_of a) d least.0).1, λ e below c. least.1 e below (listed e c))

-- the test is exact, and the datum is the least
pub conflicts-tested : (a b : Params) → ((conflicts a b ≡ true) ↔ Conflict a b) × IsLeastDatum a b (least_datum a b)
conflicts-tested a b = ((conflict-found a b, conflict-tested a b), datum-least a b)
