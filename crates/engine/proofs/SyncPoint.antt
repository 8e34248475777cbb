-- A sync point: what the systems of its level leave is done and gone, and what those of other levels leave is in hand still.
use Rattle.std.proofs.Common.{◌≡◌, ℕ, zero, suc, ◌<◌, ◌≤◌, Bool, true, false, cond, ◌==◌, ◌&&◌, ◌||◌, ◌⊎◌, inl, inr, List, [], ◌∷◌, ◌++◌, length, get_or, set, filter, flat_map, min, refl, ap, subst, sym, ◌∙◌, arith}
use Rattle.std.specs.Prelude.{All}
use Rattle.std.specs.List.{AllByRecursion}
use Rattle.std.proofs.lemmas.Bool.{and_parts, and_right, cases_eq, cases_lt, cond_both, eqb-true, eq-eqb, ne_eqb, false≢true}
use Rattle.std.proofs.lemmas.List.{get_or_past, get_or-set_same, get_or-set_other, length-set}
use Rattle.std.proofs.lemmas.List.Elements.{All-from_recursion}
use Rattle.std.proofs.lemmas.List.Folds.{list_any-append}
use Rattle.model.specs.Lists.{IsIn, has, update_at}
use Rattle.model.specs.declared.entities.Entity.{Entity}
use Rattle.model.specs.state.State.{Slot, State, fresh_slot, is_granted, is_living, most_passed_over}
use Rattle.model.specs.state.State.Status.{Living}
use Rattle.model.specs.state.Rows.{insert_component, remove_component}
use Rattle.model.specs.state.Commands.{CommandTarget, is_alive, freed, spawned, with_row, if_alive, apply_command, apply_buffer, names_index, release}
use Rattle.model.specs.shown.Outcome.{Command, AreSpawns, spawned_by}
use Rattle.model.specs.shown.Outcome.Command.{Spawn, Insert, Remove, Despawn}
use Rattle.model.specs.steps.Schedule.{Schedule, level_of}
use Rattle.model.specs.steps.Built.{IsBuilt}
use Rattle.model.specs.runs.RunState.{systems_of_level, without_level, after_commands}
use Rattle.model.proofs.lists.Lists.{map_index-map_index, map_index-same, get_or-map_index, has-IsIn, IsIn_from_has, IsIn_from_any, IsIn-append, same_tests}
use Rattle.model.proofs.lists.Members.{in-filter, from-filter}
use Rattle.model.proofs.lists.Searches.{has_middle}
use Rattle.model.proofs.serial.Engine.{synced_state, after_commands-form}
use Rattle.entity_table.proofs.Edits.{update_at-id}
use Rattle.entity_table.specs.Ids.{slot_at, IsGranted, AreApart}
use Rattle.entity_table.proofs.Releases.{granted-other, granted-lives, same_granted as same-granted, freed-granted}
use Rattle.access_set.proofs.Choices.{in_at as in-get_or}
use Rattle.engine.specs.Deferred.{DeferredValue, commands_at, grants_at, run_with, emptied, IsDeferredFor, AreInHand}

-- ---- what is in joined lists

from-flat_map : {A B : Type 0} (f : A → List B) (xs : List A) (y : B) → IsIn y (flat_map f xs) → (x : A) × IsIn x xs × IsIn y (f x)
from-flat_map f [] y h = absurd h
from-flat_map {A} f (x ∷ xs) y h = go (IsIn-append y (f x) (flat_map f xs) h) (from-flat_map f xs y)
  where
    go : IsIn y (f x) ⊎ IsIn y (flat_map f xs) → (IsIn y (flat_map f xs) → (z : A) × IsIn z xs × IsIn y (f z)) → (z : A) × IsIn z (x ∷ xs) × IsIn y (f z)
    go (inl here) more = (x, inl refl, here)
    go (inr later) more = let r : (z : A) × IsIn z xs × IsIn y (f z) = more later in (r.0, inr r.1, r.2)

spawned_by-append : (xs ys : List Command) → spawned_by (xs ++ ys) ≡ spawned_by xs ++ spawned_by ys
spawned_by-append [] ys = refl
spawned_by-append (Spawn e ∷ xs) ys = ap (◌∷◌ e) (spawned_by-append xs ys)
spawned_by-append (Insert e kind words ∷ xs) ys = spawned_by-append xs ys
spawned_by-append (Remove e kind ∷ xs) ys = spawned_by-append xs ys
spawned_by-append (Despawn e ∷ xs) ys = spawned_by-append xs ys

-- what the commands of some systems spawn, by system
spawned_by-each : (f : ℕ → List Command) (ns : List ℕ) → spawned_by (flat_map f ns) ≡ flat_map (λ n. spawned_by (f n)) ns
spawned_by-each f [] = refl
spawned_by-each f (n ∷ ns) = spawned_by-append (f n) (flat_map f ns) ∙ ap (λ es. spawned_by (f n) ++ es) (spawned_by-each f ns)

spawn-in : (granted es : List Entity) (e : Entity) → AreSpawns granted es → IsIn e es → IsIn e granted
spawn-in granted [] e h i = absurd i
spawn-in granted (x ∷ es) e h (inl same) = subst (λ y. IsIn y granted) (sym same) h.0
spawn-in granted (x ∷ es) e h (inr i) = spawn-in granted es e h.2 i

-- ---- each once

abbrev pub AreOnce : {A : Type 0} → List A → Type 0
AreOnce [] = Unit {0}
AreOnce (x ∷ xs) = (IsIn x xs → ⊥) × AreOnce xs

once-append : {A : Type 0} (xs ys : List A) → AreOnce xs → AreOnce ys → ((x : A) → IsIn x xs → IsIn x ys → ⊥) → AreOnce (xs ++ ys)
once-append [] ys h k cross = k
once-append (x ∷ xs) ys h k cross = (
  (λ i. go (IsIn-append x xs ys i)),
  once-append xs ys h.1 k (λ y i j. cross y (inr i) j),
)
  where
    go : IsIn x xs ⊎ IsIn x ys → ⊥
    go (inl i) = h.0 i
    go (inr i) = cross x (inl refl) i

once-flat_map : {B : Type 0} (f : ℕ → List B) (ns : List ℕ) → AreOnce ns → ((n : ℕ) → AreOnce (f n)) → ((n m : ℕ) (y : B) → IsIn y (f n) → IsIn y (f m) → n ≡ m) → AreOnce (flat_map f ns)
once-flat_map f [] h each cross = tt
once-flat_map f (n ∷ ns) h each cross = once-append (f n) (flat_map f ns) (each n) (once-flat_map f ns h.1 each cross)
    (λ y i j. let r = from-flat_map f ns y j in h.0 (subst (λ m. IsIn m ns) (sym (cross n r.0 y i r.2)) r.1))

once-spawns : (granted es : List Entity) → AreSpawns granted es → AreOnce es
once-spawns granted [] h = tt
once-spawns granted (e ∷ es) h = (h.1, once-spawns granted es h.2)

apart-once : (es : List Entity) → AreOnce es → AreApart es
apart-once [] h i j d before within same = absurd (omega arith)
apart-once (e ∷ es) h i zero d before within same = absurd (omega arith)
apart-once (e ∷ es) h zero (suc j) d before within same = h.0 (subst (λ x. IsIn x es) (sym same) (in-get_or es j d (omega arith)))
apart-once (e ∷ es) h (suc i) (suc j) d before within same = apart-once es h.1 i j d (omega arith) (omega arith) same

once-filter : {A : Type 0} (test : A → Bool) (xs : List A) → AreOnce xs → AreOnce (filter test xs)
once-filter test [] h = tt
once-filter test (x ∷ xs) h = cond_both (test x) (x ∷ filter test xs) (filter test xs) AreOnce
    (λ e. ((λ i. h.0 (from-filter test xs x i).0), once-filter test xs h.1)) (λ e. once-filter test xs h.1)

-- where no element of a list stands before it
once-from : (front ns : List ℕ) → ((first rest : List ℕ) (n : ℕ) → front ++ ns ≡ first ++ n ∷ rest → has n first ≡ false) → AreOnce ns
once-from front [] h = tt
once-from front (n ∷ ns) h = (
  (λ i. let at = split-in ns n i in false≢true (sym (h (front ++ n ∷ at.0) at.1 n (ap (λ ms. front ++ n ∷ ms) at.2 ∙ shift front (n ∷ at.0) (n ∷ at.1))) ∙ has_middle front at.0 n)),
  once-from (front ++ n ∷ []) ns (λ first rest m e. h first rest m (shift front (n ∷ []) ns ∙ e)),
)
  where
    shift : (xs ys zs : List ℕ) → xs ++ (ys ++ zs) ≡ (xs ++ ys) ++ zs
    shift [] ys zs = refl
    shift (x ∷ xs) ys zs = ap (◌∷◌ x) (shift xs ys zs)

    split-in : (ms : List ℕ) (m : ℕ) → IsIn m ms → (first : List ℕ) × (rest : List ℕ) × (ms ≡ first ++ m ∷ rest)
    split-in [] m i = absurd i
    split-in (x ∷ ms) m (inl same) = ([], ms, ap (λ y. y ∷ ms) (sym same))
    split-in (x ∷ ms) m (inr i) = let r = split-in ms m i in (x ∷ r.0, r.1, ap (◌∷◌ x) r.2)

-- the systems of a level stand once each
pub once-level : (s : Schedule) (p : ℕ) → IsBuilt s → AreOnce (systems_of_level s p)
once-level s p built = once-filter (λ n. level_of s n == p) s.order (once-from [] s.order built.once)

-- ---- what the commands of a level spawn

module _ (slots : List Slot) (deferred : DeferredValue) (h : AreInHand slots deferred) where
  -- is granted to a system
  pub spawned-to : (n : ℕ) (e : Entity) → IsIn e (spawned_by (commands_at deferred n)) → IsIn e (grants_at deferred n)
  spawned-to n e i = spawn-in (grants_at deferred n) (spawned_by (commands_at deferred n)) e (h.spawns n) i

  each-from : (P : Entity → Type 0) (es : List Entity) → ((e : Entity) → IsIn e es → P e) → AllByRecursion P es
  each-from P [] k = tt
  each-from P (e ∷ es) k = (k e (inl refl), each-from P es (λ d i. k d (inr i)))

  -- is granted still
  pub level_granted : (ns : List ℕ) → All (IsGranted slots) (spawned_by (flat_map (commands_at deferred) ns))
  level_granted ns = All-from_recursion (IsGranted slots) (spawned_by (flat_map (commands_at deferred) ns)) (each-from (IsGranted slots) (spawned_by (flat_map (commands_at deferred) ns)) (λ e i.
      let r = from-flat_map (λ n. spawned_by (commands_at deferred n)) ns e (subst (IsIn e) (spawned_by-each (commands_at deferred) ns) i) in
      h.granted r.0 e (spawned-to r.0 e r.2)))

  -- no id twice
  pub level_apart : (ns : List ℕ) → AreOnce ns → AreApart (spawned_by (flat_map (commands_at deferred) ns))
  level_apart ns once = apart-once (spawned_by (flat_map (commands_at deferred) ns)) (subst AreOnce (sym (spawned_by-each (commands_at deferred) ns))
      (once-flat_map (λ n. spawned_by (commands_at deferred n)) ns once (λ n. once-spawns (grants_at deferred n) (spawned_by (commands_at deferred n)) (h.spawns n))
      (λ n m e i j. h.apart n m e (spawned-to n e i) (spawned-to m e j))))

-- ---- releases

released-joined : (slot : Slot) (first second : Bool) →
    cond (is_granted slot.status && (first || second)) (freed slot) slot
    ≡ cond (is_granted (cond (is_granted slot.status && first) (freed slot) slot).status && second) (freed (cond (is_granted slot.status && first) (freed slot) slot)) (cond (is_granted slot.status && first) (freed slot) slot)
released-joined slot first second = go (is_granted slot.status) first refl
  where
    go : (g a : Bool) → is_granted slot.status ≡ g →
        cond (g && (a || second)) (freed slot) slot
        ≡ cond (is_granted (cond (g && a) (freed slot) slot).status && second) (freed (cond (g && a) (freed slot) slot)) (cond (g && a) (freed slot) slot)
    go true true e = sym (ap (λ b. cond (b && second) (freed (freed slot)) (freed slot)) (freed-granted slot))
    go true false e = sym (ap (λ b. cond (b && second) (freed slot) slot) e)
    go false a e = sym (ap (λ b. cond (b && second) (freed slot) slot) e)

-- two releases after each other are one
pub release_joined : (xs ys : List Entity) (slots : List Slot) → release (xs ++ ys) slots ≡ release ys (release xs slots)
unfolding release
release_joined xs ys slots =
    map_index-same (λ i slot. cond (is_granted slot.status && names_index i (xs ++ ys)) (freed slot) slot)
    (λ i slot. cond (is_granted (cond (is_granted slot.status && names_index i xs) (freed slot) slot).status && names_index i ys) (freed (cond (is_granted slot.status && names_index i xs) (freed slot) slot)) (cond (is_granted slot.status && names_index i xs) (freed slot) slot))
    fresh_slot slots
    (λ i. ap (λ named. cond (is_granted (get_or slots i fresh_slot).status && named) (freed (get_or slots i fresh_slot)) (get_or slots i fresh_slot)) (list_any-append (λ e. e.index == i) xs ys)
    ∙ released-joined (get_or slots i fresh_slot) (names_index i xs) (names_index i ys))
    ∙ sym (map_index-map_index (λ i slot. cond (is_granted slot.status && names_index i ys) (freed slot) slot) (λ i slot. cond (is_granted slot.status && names_index i xs) (freed slot) slot) slots)

-- ---- an id that stays granted

-- while others are spawned
granted-spawned : (slots : List Slot) (d e : Entity) → (e ≡ d → ⊥) → IsGranted slots e → IsGranted (update_at d.index (spawned d.generation) slots) e
granted-spawned slots d e differ h = go (cases_eq d.index e.index) (cases_eq e.generation d.generation)
  where
    go : (d.index ≡ e.index) ⊎ (d.index ≡ e.index → ⊥) → (e.generation ≡ d.generation) ⊎ (e.generation ≡ d.generation → ⊥) → IsGranted (update_at d.index (spawned d.generation) slots) e
    go (inr other) more = granted-other (spawned d.generation) d.index slots e other h
    go (inl same) (inl generations) = absurd (differ (λ i. record { index = sym same i; generation = generations i }))
    go (inl same) (inr other) =
        let deferred : spawned d.generation (slot_at slots d.index) ≡ slot_at slots d.index = unspawned (slot_at slots d.index) (λ e2. other (sym h.generation ∙ ap (λ k. (slot_at slots k).generation) (sym same) ∙ e2)) in
        subst (λ xs. IsGranted xs e) (sym (update_at-id (spawned d.generation) slots d.index fresh_slot (λ l. deferred))) h
      where
        unspawned : (slot : Slot) → (slot.generation ≡ d.generation → ⊥) → spawned d.generation slot ≡ slot
        unspawned slot differs = ap (λ b. cond b (let c : Slot = record { generation = slot.generation; status = Living; row = [] } in c) slot)
            (and_right (is_granted slot.status) (slot.generation == d.generation) (ne_eqb slot.generation d.generation differs))

-- while entities that live change
granted-if_alive : (d : Entity) (f : Slot → Slot) (target : CommandTarget) (e : Entity) → IsGranted target.slots e → IsGranted (if_alive d f target).slots e
granted-if_alive d f target e h = go (is_alive target.slots d) refl
  where
    go : (b : Bool) → is_alive target.slots d ≡ b → IsGranted (cond b (let t : CommandTarget = record { slots = update_at d.index f target.slots; passed_over = target.passed_over } in t) (record { slots = target.slots; passed_over = min (suc target.passed_over) most_passed_over })).slots e
    go true k = granted-other f d.index target.slots e
        (λ same. false≢true (sym (granted-lives target.slots e.index (ap is_granted h.status)) ∙ ap (λ j. is_living (slot_at target.slots j).status) (sym same)
        ∙ (and_parts (is_living (slot_at target.slots d.index).status) ((slot_at target.slots d.index).generation == d.generation) k).0)) h
    go false k = h

granted-command : (tick : ℕ) (target : CommandTarget) (c : Command) (cs : List Command) (e : Entity) → (IsIn e (spawned_by (c ∷ cs)) → ⊥) → IsGranted target.slots e → IsGranted (apply_command tick target c).slots e
granted-command tick target (Spawn d) cs e other h = granted-spawned target.slots d e (λ same. other (inl same)) h
granted-command tick target (Insert d kind words) cs e other h = granted-if_alive d (with_row (insert_component tick kind words)) target e h
granted-command tick target (Remove d kind) cs e other h = granted-if_alive d (with_row (remove_component kind)) target e h
granted-command tick target (Despawn d) cs e other h = granted-if_alive d freed target e h

not-later : (c : Command) (cs : List Command) (e : Entity) → (IsIn e (spawned_by (c ∷ cs)) → ⊥) → IsIn e (spawned_by cs) → ⊥
not-later (Spawn d) cs e other i = other (inr i)
not-later (Insert d kind words) cs e other i = other i
not-later (Remove d kind) cs e other i = other i
not-later (Despawn d) cs e other i = other i

-- an id that commands don't spawn stays granted
pub granted-buffer : (tick : ℕ) (target : CommandTarget) (cs : List Command) (e : Entity) → (IsIn e (spawned_by cs) → ⊥) → IsGranted target.slots e → IsGranted (apply_buffer tick target cs).slots e
granted-buffer tick target [] e other h = h
granted-buffer tick target (c ∷ cs) e other h = granted-buffer tick (apply_command tick target c) cs e (not-later c cs e other) (granted-command tick target c cs e other h)

-- so does one of whose index no id is released
pub granted-release : (ids : List Entity) (slots : List Slot) (e : Entity) → names_index e.index ids ≡ false → IsGranted slots e → IsGranted (release ids slots) e
unfolding release
granted-release ids slots e other h =
    let same : slot_at (release ids slots) e.index ≡ slot_at slots e.index =
    get_or-map_index (λ index slot. cond (is_granted slot.status && names_index index ids) (freed slot) slot) slots e.index fresh_slot refl
    ∙ ap (λ b. cond b (freed (slot_at slots e.index)) (slot_at slots e.index)) (and_right (is_granted (slot_at slots e.index).status) (names_index e.index ids) other) in
    record { status = ap (λ (s : Slot). s.status) same ∙ h.status; generation = ap (λ (s : Slot). s.generation) same ∙ h.generation }

-- ---- what is deferred without a level

set-nothing : {A : Type 0} (xs : List (List A)) (n m : ℕ) → get_or (set xs n []) m [] ≡ cond (n == m) [] (get_or xs m [])
set-nothing xs n m = go (cases_eq m n) (cases_lt n (length xs))
  where
    go : (m ≡ n) ⊎ (m ≡ n → ⊥) → (n < length xs) ⊎ (length xs ≤ n) → get_or (set xs n []) m [] ≡ cond (n == m) [] (get_or xs m [])
    go (inl same) (inl within) = ap (λ j. get_or (set xs n []) j []) same ∙ get_or-set_same xs n [] [] within ∙ sym (ap (λ b. cond b [] (get_or xs m [])) (eq-eqb n m (sym same)))
    go (inl same) (inr past) = get_or_past (set xs n []) m [] (let e = length-set xs n [] in omega arith) ∙ sym (ap (λ b. cond b [] (get_or xs m [])) (eq-eqb n m (sym same)))
    go (inr other) more = get_or-set_other xs n m [] [] other ∙ sym (ap (λ b. cond b [] (get_or xs m [])) (ne_eqb n m (λ e. other (sym e))))

cond-or : {A : Type 0} (a b : Bool) (x y : A) → cond b x (cond a x y) ≡ cond (a || b) x y
cond-or true true x y = refl
cond-or true false x y = refl
cond-or false b x y = refl

emptied-at : {A : Type 0} (ns : List ℕ) (xs : List (List A)) (m : ℕ) → get_or (emptied ns xs) m [] ≡ cond (has m ns) [] (get_or xs m [])
emptied-at [] xs m = refl
emptied-at (n ∷ ns) xs m = emptied-at ns (set xs n []) m
    ∙ ap (λ x. cond (has m ns) [] x) (set-nothing xs n m) ∙ cond-or (n == m) (has m ns) [] (get_or xs m [])

pub length-emptied : {A : Type 0} (ns : List ℕ) (xs : List (List A)) → length (emptied ns xs) ≡ length xs
length-emptied [] xs = refl
length-emptied (n ∷ ns) xs = length-emptied ns (set xs n []) ∙ length-set xs n []

-- with nothing deferred of these systems
abbrev pub without_systems : List ℕ → DeferredValue → DeferredValue
without_systems ns deferred = record { levels = deferred.levels; spawners = deferred.spawners; commands = emptied ns deferred.commands; grants = emptied ns deferred.grants }

-- ---- a sync point

-- what is deferred of the others is in hand still
pub in_hand_synced : (tick : ℕ) (target : CommandTarget) (ns : List ℕ) (deferred : DeferredValue) → AreInHand target.slots deferred →
    AreInHand (release (flat_map (grants_at deferred) ns) (apply_buffer tick target (flat_map (commands_at deferred) ns)).slots) (without_systems ns deferred)
in_hand_synced tick target ns deferred h = record {
  granted = λ n e i. let r = kept n e i in
      granted-release (flat_map (grants_at deferred) ns) (apply_buffer tick target (flat_map (commands_at deferred) ns)).slots e (not-named n e r.0 r.1)
      (granted-buffer tick target (flat_map (commands_at deferred) ns) e (not-spawned n e r.0 r.1) (h.granted n e r.1));
  apart = λ n m e i j. h.apart n m e (kept n e i).1 (kept m e j).1;
  spawns = λ n. spawns-case n (has n ns) refl;
}
  where
    kept : (n : ℕ) (e : Entity) → IsIn e (grants_at (without_systems ns deferred) n) → (has n ns ≡ false) × IsIn e (grants_at deferred n)
    kept n e i = go (has n ns) refl (subst (IsIn e) (emptied-at ns deferred.grants n) i)
      where
        go : (b : Bool) → has n ns ≡ b → IsIn e (cond b [] (grants_at deferred n)) → (has n ns ≡ false) × IsIn e (grants_at deferred n)
        go true f j = absurd j
        go false f j = (f, j)

    -- an id of a system of these isn't of another
    elsewhere : (n m : ℕ) (e : Entity) → has n ns ≡ false → IsIn e (grants_at deferred n) → IsIn m ns → IsIn e (grants_at deferred m) → ⊥
    elsewhere n m e out i among j = false≢true (sym out ∙ has-IsIn n ns (subst (λ k. IsIn k ns) (h.apart m n e j i) among))

    not-spawned : (n : ℕ) (e : Entity) → has n ns ≡ false → IsIn e (grants_at deferred n) → IsIn e (spawned_by (flat_map (commands_at deferred) ns)) → ⊥
    not-spawned n e out i j =
        let r = from-flat_map (λ m. spawned_by (commands_at deferred m)) ns e (subst (IsIn e) (spawned_by-each (commands_at deferred) ns) j) in
        elsewhere n r.0 e out i r.1 (spawned-to target.slots deferred h r.0 e r.2)

    not-named : (n : ℕ) (e : Entity) → has n ns ≡ false → IsIn e (grants_at deferred n) → names_index e.index (flat_map (grants_at deferred) ns) ≡ false
    not-named n e out i = go (names_index e.index (flat_map (grants_at deferred) ns)) refl
      where
        go : (b : Bool) → names_index e.index (flat_map (grants_at deferred) ns) ≡ b → b ≡ false
        go false f = refl
        go true f =
            let found = IsIn_from_any (λ (d : Entity). d.index == e.index) (flat_map (grants_at deferred) ns) f in
            let r = from-flat_map (grants_at deferred) ns found.0 found.1 in
            let same : found.0 ≡ e = same-granted target.slots found.0 e (h.granted r.0 found.0 r.2) (h.granted n e i) (eqb-true found.0.index e.index found.2) in
            absurd (elsewhere n r.0 e out i r.1 (subst (λ d. IsIn d (grants_at deferred r.0)) same r.2))

    spawns-case : (n : ℕ) (b : Bool) → has n ns ≡ b → AreSpawns (grants_at (without_systems ns deferred) n) (spawned_by (commands_at (without_systems ns deferred) n))
    spawns-case n true f = subst (λ cs. AreSpawns (grants_at (without_systems ns deferred) n) (spawned_by cs)) (sym (emptied-at ns deferred.commands n ∙ ap (λ b. cond b [] (commands_at deferred n)) f)) tt
    spawns-case n false f = subst (λ cs. AreSpawns (grants_at (without_systems ns deferred) n) (spawned_by cs)) (sym (emptied-at ns deferred.commands n ∙ ap (λ b. cond b [] (commands_at deferred n)) f))
        (subst (λ ids. AreSpawns ids (spawned_by (commands_at deferred n))) (sym (emptied-at ns deferred.grants n ∙ ap (λ b. cond b [] (grants_at deferred n)) f)) (h.spawns n))

-- a system is among those of a level where it has the level
level-has : (s : Schedule) (p n : ℕ) → IsBuilt s → n < length s.systems → has n (systems_of_level s p) ≡ (level_of s n == p)
level-has s p n built within = same_tests (has n (systems_of_level s p)) (level_of s n == p)
    (λ e. (from-filter (λ m. level_of s m == p) s.order n (IsIn_from_has n (systems_of_level s p) e)).1)
    (λ e. has-IsIn n (systems_of_level s p) (in-filter (λ m. level_of s m == p) s.order n (IsIn_from_has n s.order (built.listed n within)) e))

-- a list without those of a level, as a map by number
level-nothing : {A : Type 0} (s : Schedule) (p : ℕ) → IsBuilt s → (xs : List (List A)) → length xs ≡ length s.systems → (n : ℕ) →
    cond (has n (systems_of_level s p)) [] (get_or xs n []) ≡ without_level s p (λ m. get_or xs m []) n
level-nothing {A} s p built xs count n = go (cases_lt n (length s.systems))
  where
    nothing : (a b : Bool) (ys : List A) → ys ≡ [] → cond a [] ys ≡ cond b [] ys
    nothing true true ys e = refl
    nothing true false ys e = sym e
    nothing false true ys e = e
    nothing false false ys e = refl

    go : (n < length s.systems) ⊎ (length s.systems ≤ n) → cond (has n (systems_of_level s p)) [] (get_or xs n []) ≡ cond (level_of s n == p) [] (get_or xs n [])
    go (inl within) = ap (λ b. cond b [] (get_or xs n [])) (level-has s p n built within)
    go (inr past) = nothing (has n (systems_of_level s p)) (level_of s n == p) (get_or xs n []) (get_or_past xs n [] (omega arith))

-- the whole step
pub run_synced : (s : Schedule) (p : ℕ) (deferred : DeferredValue) (state : State) → IsBuilt s → IsDeferredFor s deferred →
    run_with (synced_state (flat_map (grants_at deferred) (systems_of_level s p)) (flat_map (commands_at deferred) (systems_of_level s p)) state) (without_systems (systems_of_level s p) deferred)
    ≡ after_commands s p (run_with state deferred)
run_synced s p deferred state built suits = (λ i. record {
  state = synced_state (flat_map (grants_at deferred) (systems_of_level s p)) (flat_map (commands_at deferred) (systems_of_level s p)) state;
  buffers = λ n. (emptied-at (systems_of_level s p) deferred.commands n ∙ level-nothing s p built deferred.commands suits.command_count n) i;
  grants = λ n. (emptied-at (systems_of_level s p) deferred.grants n ∙ level-nothing s p built deferred.grants suits.grant_count n) i;
}) ∙ sym (after_commands-form s p (run_with state deferred))

-- ---- the systems of a level

module _ (s : Schedule) (p : ℕ) (deferred : DeferredValue) (built : IsBuilt s) (suits : IsDeferredFor s deferred) (within : p < s.syncs) (level : List ℕ) (e : level ≡ get_or deferred.levels p []) where
  -- as they are noted
  pub level_is : level ≡ systems_of_level s p
  level_is = e ∙ suits.levels_are p within

  -- stand once each
  pub level_once : AreOnce level
  level_once = subst AreOnce (sym level_is) (once-level s p built)

  each-below : (count : ℕ) (ns : List ℕ) → ((n : ℕ) → IsIn n ns → n < count) → AllByRecursion (λ n. n < count) ns
  each-below count [] k = tt
  each-below count (n ∷ ns) k = (k n (inl refl), each-below count ns (λ m i. k m (inr i)))

  -- and are systems
  pub level_known : (count : ℕ) → count ≡ length s.systems → All (λ n. n < count) level
  level_known count same = All-from_recursion (λ n. n < count) level (each-below count level
      (λ n i. let l = built.known n (has-IsIn n s.order (from-filter (λ m. level_of s m == p) s.order n (subst (IsIn n) level_is i)).0) in omega arith))
