-- States that agree: agreement is an equivalence, a visit keeps it, and two visits that touch nothing in common lead to states
-- that agree in either order.
use Rattle.std.proofs.Common.{ℕ, zero, suc, ℤ, Bool, true, false, not, ◌&&◌, ◌||◌, ◌==◌, nat_lt, ◌≡◌, ◌⊎◌, inl, inr, List, [], ◌∷◌, map, length, get_or, Option, Some, None, is_some, option_map, refl, sym, ap, ap₂, ◌∙◌, subst, arith, cond}
use Rattle.std.proofs.lemmas.Bool.{or_left}
use Rattle.std.proofs.lemmas.List.{length-map}
use mathlib.Core.Path.{fun_ext}
use Rattle.model.specs.Lists.{IsIn, is_number}
use Rattle.model.specs.state.State.{Slot, Component, State, fresh_slot, is_living}
use Rattle.model.specs.state.Rows.{row_at, cell_at, kinds_of}
use Rattle.model.specs.access.Query.{Term, matches, touched}
use Rattle.model.specs.access.Query.Term.{Entity, Read, Mut, Opt, With, Without, Added, Changed, AnyOf}
use Rattle.model.specs.access.Access.{names_resource}
use Rattle.model.specs.shown.Input.{passes}
use Rattle.model.specs.access.Condition.{Condition, watched_of, resources_of}
use Rattle.model.specs.access.Condition.Condition.{RunOnce, ResourceEquals, ResourceAtLeast, ResourceChanged, AnyWith, OnEvent, Not, And, Or}
use Rattle.model.specs.steps.Schedule.{Schedule, watches, condition_of}
use Rattle.model.specs.runs.RunState.{opening}
use Rattle.model.specs.state.Agreement.{Observer, Agrees, access_of_observer, last_run_of, changed_of, without_stamps, component_without_stamps, slot_without_stamps, cell_without_stamps}
use Rattle.model.specs.state.Agreement.Observer.{OfCondition}
use Rattle.model.proofs.lists.Lists.{list_any-IsIn, ==-same, IsIn-append, IsIn_left, IsIn_right, has-IsIn, IsIn_from_has}
use Rattle.model.proofs.serial.Conflicts.{unseen, unread_resource}
use Rattle.model.proofs.serial.Writes.{kinds_of-slots_after, status-slots_after, within_same}
use Rattle.model.proofs.agreement.Swaps.{AreApart}
use Rattle.model.proofs.agreement.Visits.{Effect, Fits, visit, come, values_of, without_stamps-visit, visit-swap}
use Rattle.model.proofs.agreement.Stamps.{IsKnown, is_own, own-same, IsTimed, in_time-later, test_after, passes_after, passes-visit, newer-visit, never-visit, timed-visit}
use Rattle.model.proofs.shape.RunStates.{length-resources_after}

-- ---- what states that are equal but for stamps have in common

-- a view of an element
pub get_or-map : {A B : Type 0} (f : A → B) (xs : List A) (i : ℕ) (d : A) → get_or (map f xs) i (f d) ≡ f (get_or xs i d)
get_or-map f [] i d = refl
get_or-map f (x ∷ xs) zero d = refl
get_or-map f (x ∷ xs) (suc i) d = get_or-map f xs i d

-- the cell of a kind but for stamps
pub cell_at-without_stamps : (row : List Component) (kind : ℕ) → cell_at (map component_without_stamps row) kind ≡ option_map cell_without_stamps (cell_at row kind)
cell_at-without_stamps [] kind = refl
cell_at-without_stamps (c ∷ cs) kind = go (c.kind == kind) (cell_at-without_stamps cs kind)
  where
    go : (b : Bool) → cell_at (map component_without_stamps cs) kind ≡ option_map cell_without_stamps (cell_at cs kind)
        → cond b (Some (cell_without_stamps c.cell)) (cell_at (map component_without_stamps cs) kind) ≡ option_map cell_without_stamps (cond b (Some c.cell) (cell_at cs kind))
    go true r = refl
    go false r = r

-- a view makes no value
pub is_some-option_map : {A B : Type 0} (f : A → B) (o : Option A) → is_some (option_map f o) ≡ is_some o
is_some-option_map f None = refl
is_some-option_map f (Some x) = refl

-- the kinds of a row but for stamps
pub kinds-without_stamps : (row : List Component) → kinds_of (map component_without_stamps row) ≡ kinds_of row
kinds-without_stamps row = fun_ext (λ k. ap is_some (cell_at-without_stamps row k) ∙ is_some-option_map cell_without_stamps (cell_at row k))

-- a slot of a state but for stamps
pub slot-without_stamps : (w : State) (index : ℕ) → get_or (without_stamps w).world.slots index fresh_slot ≡ slot_without_stamps (get_or w.world.slots index fresh_slot)
slot-without_stamps w index = get_or-map slot_without_stamps w.world.slots index fresh_slot

-- the kinds of an entity in a state but for stamps
pub kinds_at-without_stamps : (w : State) (index : ℕ) → kinds_of (row_at (without_stamps w).world.slots index) ≡ kinds_of (row_at w.world.slots index)
kinds_at-without_stamps w index = ap (λ (slot : Slot). kinds_of slot.row) (slot-without_stamps w index) ∙ kinds-without_stamps (row_at w.world.slots index)

-- the kinds of an entity are the same
pub kinds-same : (v w : State) (index : ℕ) → without_stamps v ≡ without_stamps w → kinds_of (row_at v.world.slots index) ≡ kinds_of (row_at w.world.slots index)
kinds-same v w index h = sym (kinds_at-without_stamps v index) ∙ (ap (λ (x : State). kinds_of (row_at x.world.slots index)) h ∙ kinds_at-without_stamps w index)

-- the status of an index is the same
pub status-same : (v w : State) (index : ℕ) → without_stamps v ≡ without_stamps w → (get_or v.world.slots index fresh_slot).status ≡ (get_or w.world.slots index fresh_slot).status
status-same v w index h =
    sym (ap (λ (slot : Slot). slot.status) (slot-without_stamps v index))
    ∙ (ap (λ (x : State). (get_or x.world.slots index fresh_slot).status) h ∙ ap (λ (slot : Slot). slot.status) (slot-without_stamps w index))

-- the number of resources is the same
pub resources-same : (v w : State) → without_stamps v ≡ without_stamps w → length v.world.resources ≡ length w.world.resources
resources-same v w h = sym (length-map v.world.resources _) ∙ (ap (λ (x : State). length x.world.resources) h ∙ length-map w.world.resources _)

-- ---- an equivalence

-- a state agrees with itself
pub agrees_refl : (s : Schedule) (w : State) → Agrees s w w
agrees_refl s w = record { same = refl; never = λ a. refl; terms = λ a query term e i j l m. refl; newer = λ c n e. refl }

-- either way
pub agrees_sym : (s : Schedule) (v w : State) → Agrees s v w → Agrees s w v
agrees_sym s v w h = record {
  same = sym h.same;
  never = λ a. sym (h.never a);
  terms = λ a query term e i j l m. sym (h.terms a query term e i j
      (ap is_living (status-same v w e h.same) ∙ l) (ap (matches query) (kinds-same v w e h.same) ∙ m));
  newer = λ c n e. sym (h.newer c n e);
}

-- by a third
pub agrees_trans : (s : Schedule) (v w x : State) → Agrees s v w → Agrees s w x → Agrees s v x
agrees_trans s v w x h g = record {
  same = h.same ∙ g.same;
  never = λ a. h.never a ∙ g.never a;
  terms = λ a query term e i j l m. h.terms a query term e i j l m ∙ g.terms a query term e i j
      (sym (ap is_living (status-same v w e h.same)) ∙ l) (sym (ap (matches query) (kinds-same v w e h.same)) ∙ m);
  newer = λ c n e. h.newer c n e ∙ g.newer c n e;
}

-- ---- a visit keeps agreement

-- states that agree do so after one visit
pub agrees-visit : (s : Schedule) (a : Observer) (e : Effect) (v w : State) → IsKnown s a → IsTimed s v → IsTimed s w → Agrees s v w
    → Agrees s (come s a e v) (come s a e w)
agrees-visit s a e v w known tv tw h = record {
  same = without_stamps-visit (suc v.world.clock) s a e v ∙ (ap (visit 0 s a e) h.same ∙ sym (without_stamps-visit (suc w.world.clock) s a e w));
  never = λ b. never-visit s a e v b known tv ∙ (ap (λ k. not (is_own a b) && k) (h.never b) ∙ sym (never-visit s a e w b known tw));
  terms = λ b query term index i j l m.
      passes-visit s a e v b index term known tv
      ∙ (ap₂ (λ kinds old. passes_after (is_own a b) (e.words index) kinds term old) (kinds-same v w index h.same)
      (h.terms b query term index i j
      (sym (ap is_living (status-slots_after (suc v.world.clock) e.words v.world.slots index)) ∙ l)
      (sym (ap (matches query) (kinds_of-slots_after (suc v.world.clock) e.words v.world.slots index)) ∙ m))
      ∙ sym (passes-visit s a e w b index term known tw));
  newer = λ c n watched.
      newer-visit s a e v (OfCondition c) n known tv
      ∙ (ap₂ (λ count old. test_after (is_own a (OfCondition c)) (is_some (values_of s a e n) && nat_lt n count) old) (resources-same v w h.same) (h.newer c n watched)
      ∙ sym (newer-visit s a e w (OfCondition c) n known tw));
}

-- ---- two visits in either order

-- two tests after two visits, in either order
test-swap : (p q wp wq old : Bool) → (p ≡ true → wq ≡ false) → (q ≡ true → wp ≡ false) → test_after q wq (test_after p wp old) ≡ test_after p wp (test_after q wq old)
test-swap true true wp wq old h g = refl
test-swap true false wp wq old h g = ap (λ k. k || false) (h refl)
test-swap false true wp wq old h g = sym (ap (λ k. k || false) (g refl))
test-swap false false true true old h g = refl
test-swap false false true false old h g = refl
test-swap false false false true old h g = refl
test-swap false false false false old h g = refl

-- two who never ran
never-swap : (p q old : Bool) → (not q && (not p && old)) ≡ (not p && (not q && old))
never-swap true true old = refl
never-swap true false old = refl
never-swap false true old = refl
never-swap false false old = refl

-- what isn't written isn't there
none-written : (o : Option (List ℤ)) (k : Bool) → o ≡ None → (is_some o && k) ≡ false
none-written o k e = ap (λ p. is_some p && k) e

none-set : (o : Option ℤ) (k : Bool) → o ≡ None → (is_some o && k) ≡ false
none-set o k e = ap (λ p. is_some p && k) e

-- the filter of a term after two visits
passes-swap : (p q : Bool) (f g : ℕ → Option (List ℤ)) (kinds : ℕ → Bool) (term : Term) (old : Bool)
    → ((k : ℕ) → term ≡ Changed k → p ≡ true → g k ≡ None) → ((k : ℕ) → term ≡ Changed k → q ≡ true → f k ≡ None)
    → passes_after q g kinds term (passes_after p f kinds term old) ≡ passes_after p f kinds term (passes_after q g kinds term old)
passes-swap p q f g kinds (Added k) old h i = test-swap p q false false old (λ e. refl) (λ e. refl)
passes-swap p q f g kinds (Changed k) old h i = test-swap p q (is_some (f k) && kinds k) (is_some (g k) && kinds k) old
    (λ e. none-written (g k) (kinds k) (h k refl e)) (λ e. none-written (f k) (kinds k) (i k refl e))
passes-swap p q f g kinds Entity old h i = refl
passes-swap p q f g kinds (Read k) old h i = refl
passes-swap p q f g kinds (Mut k) old h i = refl
passes-swap p q f g kinds (Opt k) old h i = refl
passes-swap p q f g kinds (With k) old h i = refl
passes-swap p q f g kinds (Without k) old h i = refl
passes-swap p q f g kinds (AnyOf alternatives) old h i = refl

-- what the owner of a term asks of isn't written by who is apart
unseen-term : (s : Schedule) (a b o : Observer) (f : Effect) (w : State) (query : List Term) (term : Term) (index k : ℕ) → AreApart s b a → Fits s b f w.world.slots
    → IsIn query (access_of_observer s o).queries → IsIn term query → matches query (kinds_of (row_at w.world.slots index)) ≡ true
    → term ≡ Changed k → is_own a o ≡ true → f.words index k ≡ None
unseen-term s a b o f w query term index k h fit i j m e own =
    unseen None (access_of_observer s b) (access_of_observer s a) w.world.slots f.words query h.apart fit
    (subst (λ x. IsIn query (access_of_observer s x).queries) (sym (own-same a o own)) i) index k m
    (list_any-IsIn (λ t. is_number k (touched t)) term query j (ap (λ t. is_number k (touched t)) e ∙ ==-same k))

-- a condition asks about the resources that it watches
pub watched-asked : (c : Condition) (n : ℕ) → IsIn n (watched_of c) → IsIn n (resources_of c)
watched-asked (ResourceChanged m) n i = i
watched-asked (Not c) n i = watched-asked c n i
watched-asked (And c d) n i = go (IsIn-append n (watched_of c) (watched_of d) i) (watched-asked c n) (watched-asked d n)
  where
    go : IsIn n (watched_of c) ⊎ IsIn n (watched_of d) → (IsIn n (watched_of c) → IsIn n (resources_of c)) → (IsIn n (watched_of d) → IsIn n (resources_of d))
        → IsIn n (resources_of (And c d))
    go (inl p) f g = IsIn_left n (resources_of c) (resources_of d) (f p)
    go (inr p) f g = IsIn_right n (resources_of c) (resources_of d) (g p)
watched-asked (Or c d) n i = go (IsIn-append n (watched_of c) (watched_of d) i) (watched-asked c n) (watched-asked d n)
  where
    go : IsIn n (watched_of c) ⊎ IsIn n (watched_of d) → (IsIn n (watched_of c) → IsIn n (resources_of c)) → (IsIn n (watched_of d) → IsIn n (resources_of d))
        → IsIn n (resources_of (Or c d))
    go (inl p) f g = IsIn_left n (resources_of c) (resources_of d) (f p)
    go (inr p) f g = IsIn_right n (resources_of c) (resources_of d) (g p)
watched-asked RunOnce n i = absurd i
watched-asked (ResourceEquals m v) n i = absurd i
watched-asked (ResourceAtLeast m v) n i = absurd i
watched-asked (AnyWith q) n i = absurd i
watched-asked (OnEvent k) n i = absurd i

-- what a condition watches isn't written by who is apart
unseen-resource : (s : Schedule) (a b : Observer) (c n : ℕ) (f : Effect) → AreApart s b a → watches s c n ≡ true → is_own a (OfCondition c) ≡ true → values_of s b f n ≡ None
unseen-resource s a b c n f h watched own =
    unread_resource None (access_of_observer s b) (access_of_observer s a) f.values n h.apart
    (subst (λ x. names_resource (access_of_observer s x) n ≡ true) (sym (own-same a (OfCondition c) own))
    (or_left _ _ (has-IsIn n (resources_of (condition_of s c)) (watched-asked (condition_of s c) n (IsIn_from_has n _ watched)))))

-- writes fit a state but for stamps
fits-without_stamps : (s : Schedule) (a : Observer) (e : Effect) (w : State) → Fits s a e w.world.slots → Fits s a e (without_stamps w).world.slots
fits-without_stamps s a e w fit = within_same None (access_of_observer s a).queries w.world.slots (without_stamps w).world.slots e.words (kinds_at-without_stamps w) fit

-- two visits but for stamps
two-without_stamps : (t u : ℕ) (s : Schedule) (a b : Observer) (e f : Effect) (w : State) → without_stamps (visit u s b f (visit t s a e w)) ≡ visit 0 s b f (visit 0 s a e (without_stamps w))
two-without_stamps t u s a b e f w = without_stamps-visit u s b f (visit t s a e w) ∙ ap (visit 0 s b f) (without_stamps-visit t s a e w)

-- who never ran after two visits
two-never : (s : Schedule) (a b : Observer) (e f : Effect) (w : State) (o : Observer) → IsKnown s a → IsKnown s b → IsTimed s w
    → (last_run_of (come s b f (come s a e w)) o == 0) ≡ (not (is_own b o) && (not (is_own a o) && (last_run_of w o == 0)))
two-never s a b e f w o ka kb timed =
    never-visit s b f (come s a e w) o kb (timed-visit s a e w ka timed) ∙ ap (λ k. not (is_own b o) && k) (never-visit s a e w o ka timed)

-- the filter of a term after two visits
two-passes : (s : Schedule) (a b : Observer) (e f : Effect) (w : State) (o : Observer) (index : ℕ) (term : Term) → IsKnown s a → IsKnown s b → IsTimed s w
    → passes (last_run_of (come s b f (come s a e w)) o) (row_at (come s b f (come s a e w)).world.slots index) term
    ≡ passes_after (is_own b o) (f.words index) (kinds_of (row_at w.world.slots index)) term
    (passes_after (is_own a o) (e.words index) (kinds_of (row_at w.world.slots index)) term (passes (last_run_of w o) (row_at w.world.slots index) term))
two-passes s a b e f w o index term ka kb timed =
    passes-visit s b f (come s a e w) o index term kb (timed-visit s a e w ka timed)
    ∙ ap₂ (λ kinds old. passes_after (is_own b o) (f.words index) kinds term old)
    (kinds_of-slots_after (suc w.world.clock) e.words w.world.slots index) (passes-visit s a e w o index term ka timed)

-- whether a resource is newer after two visits
two-newer : (s : Schedule) (a b : Observer) (e f : Effect) (w : State) (o : Observer) (n : ℕ) → IsKnown s a → IsKnown s b → IsTimed s w
    → nat_lt (last_run_of (come s b f (come s a e w)) o) (changed_of (come s b f (come s a e w)) n)
    ≡ test_after (is_own b o) (is_some (values_of s b f n) && nat_lt n (length w.world.resources))
    (test_after (is_own a o) (is_some (values_of s a e n) && nat_lt n (length w.world.resources)) (nat_lt (last_run_of w o) (changed_of w n)))
two-newer s a b e f w o n ka kb timed =
    newer-visit s b f (come s a e w) o n kb (timed-visit s a e w ka timed)
    ∙ ap₂ (λ count old. test_after (is_own b o) (is_some (values_of s b f n) && nat_lt n count) old)
    (length-resources_after (suc w.world.clock) (values_of s a e) w.world.resources) (newer-visit s a e w o n ka timed)

-- two visits that touch nothing in common lead to states that agree in either order
pub agrees-swap : (s : Schedule) (a b : Observer) (e f : Effect) (w : State) → IsKnown s a → IsKnown s b → IsTimed s w → AreApart s a b → AreApart s b a
    → Fits s a e w.world.slots → Fits s b f w.world.slots → Agrees s (come s b f (come s a e w)) (come s a e (come s b f w))
agrees-swap s a b e f w ka kb timed h g fit other = record {
  same = two-without_stamps (suc w.world.clock) (suc (suc w.world.clock)) s a b e f w
      ∙ (visit-swap 0 0 s a b e f (without_stamps w) h g (fits-without_stamps s a e w fit) (fits-without_stamps s b f w other)
      ∙ sym (two-without_stamps (suc w.world.clock) (suc (suc w.world.clock)) s b a f e w));
  never = λ o. two-never s a b e f w o ka kb timed
      ∙ (never-swap (is_own a o) (is_own b o) (last_run_of w o == 0) ∙ sym (two-never s b a f e w o kb ka timed));
  terms = λ o query term index i j l m.
      let n : matches query (kinds_of (row_at w.world.slots index)) ≡ true =
      sym (ap (matches query) (kinds_of-slots_after (suc (suc w.world.clock)) f.words (come s a e w).world.slots index
      ∙ kinds_of-slots_after (suc w.world.clock) e.words w.world.slots index)) ∙ m in
      two-passes s a b e f w o index term ka kb timed
      ∙ (passes-swap (is_own a o) (is_own b o) (e.words index) (f.words index) (kinds_of (row_at w.world.slots index)) term
      (passes (last_run_of w o) (row_at w.world.slots index) term)
      (λ k t own. unseen-term s a b o f w query term index k g other i j n t own)
      (λ k t own. unseen-term s b a o e w query term index k h fit i j n t own)
      ∙ sym (two-passes s b a f e w o index term kb ka timed));
  newer = λ c n watched.
      two-newer s a b e f w (OfCondition c) n ka kb timed
      ∙ (test-swap (is_own a (OfCondition c)) (is_own b (OfCondition c)) _ _ (nat_lt (last_run_of w (OfCondition c)) (changed_of w n))
      (λ own. none-set (values_of s b f n) (nat_lt n (length w.world.resources)) (unseen-resource s a b c n f g watched own))
      (λ own. none-set (values_of s a e n) (nat_lt n (length w.world.resources)) (unseen-resource s b a c n e h watched own))
      ∙ sym (two-newer s b a f e w (OfCondition c) n kb ka timed));
}

-- ---- the clock

-- states that agree do so at the opening of a run
pub agrees-opening : (s : Schedule) (v w : State) → Agrees s v w → Agrees s (opening v) (opening w)
agrees-opening s v w h = record { same = ap opening h.same; never = h.never; terms = h.terms; newer = h.newer }

-- the opening of a run keeps the time
pub timed-opening : (s : Schedule) (w : State) → IsTimed s w → IsTimed s (opening w)
timed-opening s w timed = record {
  cells = in_time-later w.world.clock (suc w.world.clock) w.world.slots (omega arith) timed.cells;
  resources = λ n. let p = timed.resources n in omega arith;
  runs = λ a. let p = timed.runs a in omega arith;
  systems = timed.systems;
  conditions = timed.conditions;
}
