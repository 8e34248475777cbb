-- What a system is shown and what a condition is asked about is the same in states that agree, and after a visit that touches
-- nothing in common with it.
use Rattle.std.proofs.Common.{ℕ, zero, suc, Bool, true, false, ◌&&◌, ◌==◌, nat_lt, ◌≡◌, inl, List, [], ◌∷◌, map, get_or, Option, Some, None, option_map, refl, sym, ap, ap₂, ◌∙◌, subst, cond}
use Rattle.std.specs.List.{list_all}
use Rattle.std.proofs.lemmas.Bool.{or_left, or_right, and_parts, and_left}
use Rattle.model.specs.Lists.{IsIn, head_or}
use Rattle.model.specs.state.State.{Slot, Component, Cell, Resource, EventQueue, Memory, State, fresh_slot, no_resource, no_memory, is_living}
use Rattle.model.specs.state.State as states
use Rattle.model.specs.state.Rows.{row_at, cell_at, kinds_of}
use Rattle.model.specs.state.Events.{queue_of, unread}
use Rattle.model.specs.access.Query.{Term, matches}
use Rattle.model.specs.access.Query.Term.{Entity, Read, Mut, Opt, With, Without, Added, Changed, AnyOf}
use Rattle.model.specs.access.Access.{names_resource}
use Rattle.model.specs.shown.Input.{Shown, is_row, shown_row, rows_from, rows_of, passes, fetch, words_of, value_of, unread_of, shown}
use Rattle.model.specs.access.Condition.{Condition, Asked, asked, queries_of, resources_of, watched_of, events_of, cursors_after}
use Rattle.model.specs.access.Condition.Condition.{RunOnce, ResourceEquals, ResourceAtLeast, ResourceChanged, AnyWith, OnEvent, Not, And, Or}
use Rattle.model.specs.access.Condition.Asked.{Never, Value, IsNewer, Rows, Unread, Both}
use Rattle.model.specs.steps.Schedule.{Schedule, params_of, condition_of, watches}
use Rattle.model.specs.runs.RunState.{memory_of_system, memory_of_condition}
use Rattle.model.specs.state.Agreement.{Observer, Agrees, access_of_observer, memory_of, last_run_of, changed_of, without_stamps, component_without_stamps, slot_without_stamps, cell_without_stamps, resource_without_stamp, memory_without_last_run}
use Rattle.model.specs.state.Agreement.Observer.{OfSystem, OfCondition}
use Rattle.model.proofs.lists.Lists.{get_or-update_at_other, map-same, list_all-same, has-IsIn, IsIn_from_has, IsIn_left, IsIn_right}
use Rattle.model.proofs.serial.Conflicts.{unseen, unread_resource, unread_event}
use Rattle.model.proofs.serial.Writes.{rows_of-slots_after}
use Rattle.model.proofs.serial.Uses.{get_or-resources_after, queue_of-queues_after, unread_of-same}
use Rattle.model.proofs.agreement.Swaps.{AreApart}
use Rattle.model.proofs.agreement.Visits.{Effect, Fits, visit, come, values_of, sent_of}
use Rattle.model.proofs.agreement.Agreement.{watched-asked, get_or-map, cell_at-without_stamps, kinds-without_stamps}

-- ---- rows of states that are equal but for stamps

-- the value of a cell but for stamps
words-without_stamps : (row : List Component) (k : ℕ) → words_of (cell_at (map component_without_stamps row) k) ≡ words_of (cell_at row k)
words-without_stamps row k = ap words_of (cell_at-without_stamps row k) ∙ go (cell_at row k)
  where
    go : (o : Option Cell) → words_of (option_map cell_without_stamps o) ≡ words_of o
    go None = refl
    go (Some c) = refl

-- what a term fetches has no stamp
fetch-without_stamps : (row : List Component) (t : Term) → fetch (map component_without_stamps row) t ≡ fetch row t
fetch-without_stamps row (Read k) = words-without_stamps row k
fetch-without_stamps row (Mut k) = words-without_stamps row k
fetch-without_stamps row (Opt k) = words-without_stamps row k
fetch-without_stamps row Entity = refl
fetch-without_stamps row (With k) = refl
fetch-without_stamps row (Without k) = refl
fetch-without_stamps row (Added k) = refl
fetch-without_stamps row (Changed k) = refl
fetch-without_stamps row (AnyOf alternatives) = refl

-- a row that is shown has no stamp
shown_row-without_stamps : (query : List Term) (i : ℕ) (x : Slot) → shown_row query i (slot_without_stamps x) ≡ shown_row query i x
shown_row-without_stamps query i x = λ j. record {
  entity = record { index = i; generation = x.generation };
  values = map-same (fetch (map component_without_stamps x.row)) (fetch x.row) query (λ t k. fetch-without_stamps x.row t) j;
}

-- the rows that are shown of slots that are equal but for stamps
shown_row-same : (query : List Term) (i : ℕ) (x y : Slot) → slot_without_stamps x ≡ slot_without_stamps y → shown_row query i x ≡ shown_row query i y
shown_row-same query i x y h = sym (shown_row-without_stamps query i x) ∙ (ap (shown_row query i) h ∙ shown_row-without_stamps query i y)

-- whether a slot is a row, where it passes the same terms
is_row-same : (query : List Term) (l k : ℕ) (x y : Slot) → slot_without_stamps x ≡ slot_without_stamps y
    → ((t : Term) → IsIn t query → is_living x.status ≡ true → matches query (kinds_of x.row) ≡ true → passes l x.row t ≡ passes k y.row t)
    → is_row query l x ≡ is_row query k y
is_row-same query l k x y h same = go (is_living x.status && matches query (kinds_of x.row)) refl
  where
    kinds : kinds_of x.row ≡ kinds_of y.row
    kinds = sym (kinds-without_stamps x.row) ∙ (ap (λ (z : Slot). kinds_of z.row) h ∙ kinds-without_stamps y.row)

    front : (is_living x.status && matches query (kinds_of x.row)) ≡ (is_living y.status && matches query (kinds_of y.row))
    front = ap₂ (λ p q. is_living p && matches query q) (ap (λ (z : Slot). z.status) h) kinds

    go : (b : Bool) → (is_living x.status && matches query (kinds_of x.row)) ≡ b
        → ((is_living x.status && matches query (kinds_of x.row)) && list_all (passes l x.row) query) ≡ ((is_living y.status && matches query (kinds_of y.row)) && list_all (passes k y.row) query)
    go true e =
        let parts = and_parts (is_living x.status) (matches query (kinds_of x.row)) e in
        ap₂ ◌&&◌ front (list_all-same (passes l x.row) (passes k y.row) query (λ t i. same t i parts.0 parts.1))
    go false e = and_left _ _ e ∙ sym (and_left _ _ (sym front ∙ e))

-- the rows of slots that are equal but for stamps, where they pass the same terms
rows_from-agree : (query : List Term) (l k i : ℕ) (xs ys : List Slot) → map slot_without_stamps xs ≡ map slot_without_stamps ys
    → ((e : ℕ) (t : Term) → IsIn t query → is_living (get_or xs e fresh_slot).status ≡ true → matches query (kinds_of (row_at xs e)) ≡ true
    → passes l (row_at xs e) t ≡ passes k (row_at ys e) t)
    → rows_from query l i xs ≡ rows_from query k i ys
unfolding rows_from
rows_from-agree query l k i [] [] h same = refl
rows_from-agree query l k i [] (y ∷ ys) h same = absurd (cc)
rows_from-agree query l k i (x ∷ xs) [] h same = absurd (cc)
rows_from-agree query l k i (x ∷ xs) (y ∷ ys) h same =
    let head : slot_without_stamps x ≡ slot_without_stamps y = cc in
    let tail : map slot_without_stamps xs ≡ map slot_without_stamps ys = cc in
    let rest : rows_from query l (suc i) xs ≡ rows_from query k (suc i) ys = rows_from-agree query l k (suc i) xs ys tail (λ e. same (suc e)) in
    let test : is_row query l x ≡ is_row query k y = is_row-same query l k x y head (same zero) in
    let row : shown_row query i x ≡ shown_row query i y = shown_row-same query i x y head in
    λ j. cond (test j) (row j ∷ rest j) (rest j)

-- ---- what is seen of two states

-- two states look the same to an observer
pub record LooksSame (s : Schedule) (a : Observer) (v w : State) : Type 0 where
  pub rows : (query : List Term) → IsIn query (access_of_observer s a).queries → rows_of query (last_run_of v a) v.world.slots ≡ rows_of query (last_run_of w a) w.world.slots
  pub never : (last_run_of v a == 0) ≡ (last_run_of w a == 0)
  pub values : (n : ℕ) → names_resource (access_of_observer s a) n ≡ true → value_of v.world.resources n ≡ value_of w.world.resources n
  pub newer : (c n : ℕ) → a ≡ OfCondition c → watches s c n ≡ true → nat_lt (last_run_of v a) (changed_of v n) ≡ nat_lt (last_run_of w a) (changed_of w n)
  pub queues : (k : ℕ) → IsIn k (access_of_observer s a).reads → queue_of v.events k ≡ queue_of w.events k
  pub cursors : (memory_of v a).cursors ≡ (memory_of w a).cursors
  pub registers : (memory_of v a).registers ≡ (memory_of w a).registers

-- what a system is shown, with these ids
abbrev pub shown_at : Schedule → ℕ → List states.Entity → State → Shown
shown_at s n ids w = shown (params_of s n) (memory_of_system w n) w ids

-- what a condition is asked about
abbrev pub asked_at : Schedule → ℕ → State → Asked
asked_at s c w = asked (condition_of s c) (memory_of_condition w c).last_run (memory_of_condition w c).cursors w

-- states that look the same to a system show it the same
pub shown-same : (s : Schedule) (n : ℕ) (ids : List states.Entity) (v w : State) → LooksSame s (OfSystem n) v w → shown_at s n ids v ≡ shown_at s n ids w
unfolding shown
shown-same s n ids v w h = λ i. record {
  rows = map-same (λ query. rows_of query (last_run_of v (OfSystem n)) v.world.slots) (λ query. rows_of query (last_run_of w (OfSystem n)) w.world.slots)
      (params_of s n).queries h.rows i;
  res = map-same (value_of v.world.resources) (value_of w.world.resources) (params_of s n).res
      (λ k j. h.values k (or_left _ _ (has-IsIn k (params_of s n).res j))) i;
  res_mut = map-same (value_of v.world.resources) (value_of w.world.resources) (params_of s n).res_mut
      (λ k j. h.values k (or_right _ _ (has-IsIn k (params_of s n).res_mut j))) i;
  unread = (unread_of-same v.events w.events (params_of s n).reads (memory_of_system v n).cursors h.queues
      ∙ ap (unread_of w.events (params_of s n).reads) h.cursors) i;
  registers = h.registers i;
  granted = ids;
}

-- what a condition is asked about, part by part
asked-from_parts : (d : Condition) (l k : ℕ) (cursors : List ℕ) (v w : State) → (l == 0) ≡ (k == 0)
    → ((query : List Term) → IsIn query (queries_of d) → rows_of query l v.world.slots ≡ rows_of query k w.world.slots)
    → ((n : ℕ) → IsIn n (resources_of d) → value_of v.world.resources n ≡ value_of w.world.resources n)
    → ((n : ℕ) → IsIn n (watched_of d) → nat_lt l (changed_of v n) ≡ nat_lt k (changed_of w n))
    → ((n : ℕ) → IsIn n (events_of d) → queue_of v.events n ≡ queue_of w.events n)
    → asked d l cursors v ≡ asked d k cursors w
asked-from_parts RunOnce l k cursors v w never rows values newer queues = ap Never never
asked-from_parts (ResourceEquals n x) l k cursors v w never rows values newer queues = ap Value (values n (inl refl))
asked-from_parts (ResourceAtLeast n x) l k cursors v w never rows values newer queues = ap Value (values n (inl refl))
asked-from_parts (ResourceChanged n) l k cursors v w never rows values newer queues = ap IsNewer (newer n (inl refl))
asked-from_parts (AnyWith q) l k cursors v w never rows values newer queues = ap Rows (rows q (inl refl))
asked-from_parts (OnEvent n) l k cursors v w never rows values newer queues = ap (λ (q : EventQueue). Unread (unread q (head_or 0 cursors))) (queues n (inl refl))
asked-from_parts (Not c) l k cursors v w never rows values newer queues = asked-from_parts c l k cursors v w never rows values newer queues
asked-from_parts (And c d) l k cursors v w never rows values newer queues = ap₂ Both
    (asked-from_parts c l k cursors v w never (λ q i. rows q (IsIn_left q _ _ i)) (λ n i. values n (IsIn_left n _ _ i)) (λ n i. newer n (IsIn_left n _ _ i)) (λ n i. queues n (IsIn_left n _ _ i)))
    (asked-from_parts d l k (cursors_after c cursors) v w never (λ q i. rows q (IsIn_right q _ _ i)) (λ n i. values n (IsIn_right n _ _ i)) (λ n i. newer n (IsIn_right n _ _ i)) (λ n i. queues n (IsIn_right n _ _ i)))
asked-from_parts (Or c d) l k cursors v w never rows values newer queues = ap₂ Both
    (asked-from_parts c l k cursors v w never (λ q i. rows q (IsIn_left q _ _ i)) (λ n i. values n (IsIn_left n _ _ i)) (λ n i. newer n (IsIn_left n _ _ i)) (λ n i. queues n (IsIn_left n _ _ i)))
    (asked-from_parts d l k (cursors_after c cursors) v w never (λ q i. rows q (IsIn_right q _ _ i)) (λ n i. values n (IsIn_right n _ _ i)) (λ n i. newer n (IsIn_right n _ _ i)) (λ n i. queues n (IsIn_right n _ _ i)))

-- states that look the same to a condition ask it about the same
pub asked_at-same : (s : Schedule) (c : ℕ) (v w : State) → LooksSame s (OfCondition c) v w → asked_at s c v ≡ asked_at s c w
asked_at-same s c v w h =
    asked-from_parts (condition_of s c) (last_run_of v (OfCondition c)) (last_run_of w (OfCondition c)) (memory_of_condition v c).cursors v w h.never h.rows
    (λ n i. h.values n (or_left _ _ (has-IsIn n (resources_of (condition_of s c)) i)))
    (λ n i. h.newer c n refl (has-IsIn n (watched_of (condition_of s c)) i))
    h.queues
    ∙ ap (λ cursors. asked (condition_of s c) (memory_of_condition w c).last_run cursors w) h.cursors

-- ---- states that agree

-- the value of a resource has no stamp
value-without_stamps : (w : State) (n : ℕ) → value_of (without_stamps w).world.resources n ≡ value_of w.world.resources n
value-without_stamps w n = ap (λ (r : Resource). r.value) (get_or-map resource_without_stamp w.world.resources n no_resource)

-- the memory of an observer but for its last run
memory-without_stamps : (w : State) (a : Observer) → memory_of (without_stamps w) a ≡ memory_without_last_run (memory_of w a)
memory-without_stamps w (OfSystem n) = get_or-map memory_without_last_run w.systems n no_memory
memory-without_stamps w (OfCondition c) = get_or-map memory_without_last_run w.conditions c no_memory

-- memories of states that are equal but for stamps
memory-same : (v w : State) (a : Observer) → without_stamps v ≡ without_stamps w → memory_without_last_run (memory_of v a) ≡ memory_without_last_run (memory_of w a)
memory-same v w a h = sym (memory-without_stamps v a) ∙ (ap (λ (x : State). memory_of x a) h ∙ memory-without_stamps w a)

-- states that agree look the same to each observer
pub looks-agree : (s : Schedule) (v w : State) (a : Observer) → Agrees s v w → LooksSame s a v w
looks-agree s v w a h = record {
  rows = λ query i. rows_from-agree query (last_run_of v a) (last_run_of w a) 0 v.world.slots w.world.slots (ap (λ (x : State). x.world.slots) h.same)
      (λ e t j l m. h.terms a query t e i j l m);
  never = h.never a;
  values = λ n i. sym (value-without_stamps v n) ∙ (ap (λ (x : State). value_of x.world.resources n) h.same ∙ value-without_stamps w n);
  newer = λ c n e watched. subst (λ b. nat_lt (last_run_of v b) (changed_of v n) ≡ nat_lt (last_run_of w b) (changed_of w n)) (sym e) (h.newer c n watched);
  queues = λ k i. ap (λ (x : State). queue_of x.events k) h.same;
  cursors = ap (λ (m : Memory). m.cursors) (memory-same v w a h.same);
  registers = ap (λ (m : Memory). m.registers) (memory-same v w a h.same);
}

-- ---- a visit

-- another's memory stays
memory-visit : (t : ℕ) (s : Schedule) (a b : Observer) (e : Effect) (w : State) → (a ≡ b → ⊥) → memory_of (visit t s a e w) b ≡ memory_of w b
memory-visit t s (OfSystem m) (OfSystem n) e w d = get_or-update_at_other m n _ w.systems no_memory (λ q. d (ap OfSystem q))
memory-visit t s (OfSystem m) (OfCondition n) e w d = refl
memory-visit t s (OfCondition m) (OfSystem n) e w d = refl
memory-visit t s (OfCondition m) (OfCondition n) e w d = get_or-update_at_other m n _ w.conditions no_memory (λ q. d (ap OfCondition q))

-- what a condition watches it asks about
watched-named : (s : Schedule) (a : Observer) (c n : ℕ) → a ≡ OfCondition c → watches s c n ≡ true → names_resource (access_of_observer s a) n ≡ true
watched-named s a c n e watched = subst (λ b. names_resource (access_of_observer s b) n ≡ true) (sym e)
    (or_left _ _ (has-IsIn n (resources_of (condition_of s c)) (watched-asked (condition_of s c) n (IsIn_from_has n _ watched))))

-- after a visit that touches nothing in common a state looks the same
pub looks-visit : (s : Schedule) (a b : Observer) (e : Effect) (w : State) → AreApart s a b → Fits s a e w.world.slots → LooksSame s b (come s a e w) w
looks-visit s a b e w h fit = record {
  rows = λ query i.
      ap (λ (m : Memory). rows_of query m.last_run (come s a e w).world.slots) memory
      ∙ rows_of-slots_after query (last_run_of w b) (suc w.world.clock) e.words w.world.slots
      (λ index k m t. unseen None (access_of_observer s a) (access_of_observer s b) w.world.slots e.words query h.apart fit i index k m t);
  never = ap (λ (m : Memory). m.last_run == 0) memory;
  values = λ n i. ap (λ (r : Resource). r.value) (resource n i);
  newer = λ c n q watched. ap₂ (λ (m : Memory) (r : Resource). nat_lt m.last_run r.changed) memory (resource n (watched-named s b c n q watched));
  queues = λ k i. queue_of-queues_after (sent_of s a e) w.events k
      (unread_event None (access_of_observer s a) (access_of_observer s b) e.sent k h.apart (or_left _ _ (has-IsIn k (access_of_observer s b).reads i)));
  cursors = ap (λ (m : Memory). m.cursors) memory;
  registers = ap (λ (m : Memory). m.registers) memory;
}
  where
    memory : memory_of (come s a e w) b ≡ memory_of w b
    memory = memory-visit (suc w.world.clock) s a b e w h.differ

    resource : (n : ℕ) → names_resource (access_of_observer s b) n ≡ true → get_or (come s a e w).world.resources n no_resource ≡ get_or w.world.resources n no_resource
    resource n i = get_or-resources_after (suc w.world.clock) (values_of s a e) w.world.resources n
        (unread_resource None (access_of_observer s a) (access_of_observer s b) e.values n h.apart i)
