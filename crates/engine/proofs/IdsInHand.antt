-- What is in hand: ids that are granted and commands that are kept, as ids are granted, entities written and systems end.
use Rattle.std.proofs.Common.{◌≡◌, ◌≢◌, ℕ, ◌<◌, true, cond, ◌==◌, ◌⊎◌, inl, inr, List, [], ◌∷◌, length, map, get_or, set, Option, refl, ap, subst, sym, ◌∙◌, arith}
use Rattle.std.proofs.lemmas.Bool.{cases_eq, eq-eqb, ne_eqb, false≢true}
use Rattle.std.proofs.lemmas.List.{get_or-set_same, get_or-set_other, length-set}
use Rattle.std.proofs.lemmas.List.Elements.{recursion_from_All}
use Rattle.model.specs.Lists.{IsIn, with_at}
use Rattle.model.specs.declared.entities.Entity.{Entity}
use Rattle.model.specs.state.State.{Slot, State, fresh_slot, is_vacant}
use Rattle.model.specs.state.Ids.{granted_ids, grant, ids_of_each, grant_each}
use Rattle.model.specs.steps.Schedule.{Schedule}
use Rattle.model.specs.shown.Outcome.{Command, AreSpawns, spawned_by}
use Rattle.model.specs.shown.Overlay.{slot_after, slots_after}
use Rattle.model.specs.runs.RunState.{between, spawns_of, with_each}
use Rattle.model.proofs.lists.Lists.{get_or-map_index-view}
use Rattle.entity_table.specs.Ids.{slot_at, IsGranted}
use Rattle.entity_table.proofs.Grants.{granted-each}
use Rattle.body.proofs.Gets.{each-in}
use Rattle.engine.specs.Deferred.{DeferredValue, commands_at, grants_at, run_with, with_commands, with_grants, noted_each, with_each_grant, IsNothingDeferred, AreInHand}
use Rattle.engine.proofs.GrantedIds.{granted-grant, ids-vacant}

-- ---- lists with a place for each system

-- a list with one place replaced, as a map by number
pub set-at : {A : Type 0} (xs : List (List A)) (n : ℕ) (ys : List A) → n < length xs → (m : ℕ) → get_or (set xs n ys) m [] ≡ with_at n ys (λ j. get_or xs j []) m
set-at xs n ys within m = go (cases_eq m n)
  where
    go : (m ≡ n) ⊎ (m ≡ n → ⊥) → get_or (set xs n ys) m [] ≡ cond (m == n) ys (get_or xs m [])
    go (inl same) = ap (λ j. get_or (set xs n ys) j []) same ∙ get_or-set_same xs n ys [] within ∙ sym (ap (λ b. cond b ys (get_or xs m [])) (eq-eqb m n same))
    go (inr other) = get_or-set_other xs n m ys [] other ∙ sym (ap (λ b. cond b ys (get_or xs m [])) (ne_eqb m n other))

-- at the place that is replaced, and at another
with_at-cases : {A : Type 0} (n m : ℕ) (ys : List A) (f : ℕ → List A) → ((m ≡ n) × (with_at n ys f m ≡ ys)) ⊎ ((m ≢ n) × (with_at n ys f m ≡ f m))
with_at-cases n m ys f = go (cases_eq m n)
  where
    go : (m ≡ n) ⊎ (m ≡ n → ⊥) → ((m ≡ n) × (with_at n ys f m ≡ ys)) ⊎ ((m ≢ n) × (with_at n ys f m ≡ f m))
    go (inl same) = inl (same, ap (λ b. cond b ys (f m)) (eq-eqb m n same))
    go (inr other) = inr (other, ap (λ b. cond b ys (f m)) (ne_eqb m n other))

-- what is there after a replacement: the new elements at that place, or those of before at another
pub in-set : {A : Type 0} (xs : List (List A)) (n : ℕ) (ys : List A) → n < length xs → (m : ℕ) (x : A) → IsIn x (get_or (set xs n ys) m []) →
    ((m ≡ n) × IsIn x ys) ⊎ ((m ≢ n) × IsIn x (get_or xs m []))
in-set xs n ys within m x h = go (with_at-cases n m ys (λ j. get_or xs j []))
  where
    go : ((m ≡ n) × (with_at n ys (λ j. get_or xs j []) m ≡ ys)) ⊎ ((m ≢ n) × (with_at n ys (λ j. get_or xs j []) m ≡ get_or xs m [])) →
        ((m ≡ n) × IsIn x ys) ⊎ ((m ≢ n) × IsIn x (get_or xs m []))
    go (inl (same, e)) = inl (same, subst (IsIn x) (set-at xs n ys within m ∙ e) h)
    go (inr (other, e)) = inr (other, subst (IsIn x) (set-at xs n ys within m ∙ e) h)

-- ---- a grant

-- the ids in hand stay so, and those of the grant are in hand beside them
pub in_hand_grant : (k n : ℕ) (slots : List Slot) (deferred : DeferredValue) → AreInHand slots deferred → commands_at deferred n ≡ [] → n < length deferred.grants →
    AreInHand (grant k slots) (with_grants n (granted_ids k slots) deferred)
in_hand_grant k n slots deferred h none within = record {
  granted = λ m e i. granted-case e (in-set deferred.grants n (granted_ids k slots) within m e i);
  apart = λ m j e i l. apart-case e (in-set deferred.grants n (granted_ids k slots) within m e i) (in-set deferred.grants n (granted_ids k slots) within j e l);
  spawns = λ m. spawns-case m (cases_eq m n);
}
  where
    new : (e : Entity) → IsIn e (granted_ids k slots) → IsGranted (grant k slots) e
    new e i = each-in (IsGranted (grant k slots)) (granted_ids k slots) (recursion_from_All (IsGranted (grant k slots)) (granted_ids k slots) (granted-each k slots)) e i

    was-vacant : (e : Entity) → IsIn e (granted_ids k slots) → is_vacant (slot_at slots e.index).status ≡ true
    was-vacant e i = each-in (λ (d : Entity). is_vacant (slot_at slots d.index).status ≡ true) (granted_ids k slots) (ids-vacant k slots) e i

    clash : {X : Type 0} (e : Entity) → IsIn e (granted_ids k slots) → IsGranted slots e → X
    clash e i g = absurd (false≢true (sym (ap is_vacant g.status) ∙ was-vacant e i))

    granted-case : {m : ℕ} (e : Entity) → ((m ≡ n) × IsIn e (granted_ids k slots)) ⊎ ((m ≢ n) × IsIn e (grants_at deferred m)) → IsGranted (grant k slots) e
    granted-case e (inl (same, i)) = new e i
    granted-case {m} e (inr (other, i)) = granted-grant k slots e (h.granted m e i)

    apart-case : {m j : ℕ} (e : Entity) → ((m ≡ n) × IsIn e (granted_ids k slots)) ⊎ ((m ≢ n) × IsIn e (grants_at deferred m)) →
        ((j ≡ n) × IsIn e (granted_ids k slots)) ⊎ ((j ≢ n) × IsIn e (grants_at deferred j)) → m ≡ j
    apart-case e (inl (same, i)) (inl (also, l)) = same ∙ sym also
    apart-case {m} {j} e (inl (same, i)) (inr (other, l)) = clash e i (h.granted j e l)
    apart-case {m} {j} e (inr (other, i)) (inl (same, l)) = clash e l (h.granted m e i)
    apart-case {m} {j} e (inr (other, i)) (inr (also, l)) = h.apart m j e i l

    spawns-case : (m : ℕ) → (m ≡ n) ⊎ (m ≡ n → ⊥) → AreSpawns (get_or (set deferred.grants n (granted_ids k slots)) m []) (spawned_by (commands_at deferred m))
    spawns-case m (inl same) = subst (λ cs. AreSpawns (get_or (set deferred.grants n (granted_ids k slots)) m []) (spawned_by cs)) (sym (ap (commands_at deferred) same ∙ none)) tt
    spawns-case m (inr other) = subst (λ ids. AreSpawns ids (spawned_by (commands_at deferred m))) (sym (get_or-set_other deferred.grants n m (granted_ids k slots) [] other)) (h.spawns m)

-- so for systems one after the other
pub in_hand_each : (s : Schedule) (ns : List ℕ) (slots : List Slot) (deferred : DeferredValue) → AreInHand slots deferred → ((n : ℕ) → IsIn n ns → commands_at deferred n ≡ []) →
    ((n : ℕ) → IsIn n ns → n < length deferred.grants) → AreInHand (grant_each (map (spawns_of s) ns) slots) (with_each_grant ns (ids_of_each (map (spawns_of s) ns) slots) deferred)
unfolding grant_each ids_of_each
in_hand_each s [] slots deferred h none within = h
in_hand_each s (n ∷ ns) slots deferred h none within =
    let ids = granted_ids (spawns_of s n) slots in
    in_hand_each s ns (grant (spawns_of s n) slots) (with_grants n ids deferred)
    (in_hand_grant (spawns_of s n) n slots deferred h (none n (inl refl)) (within n (inl refl)))
    (λ m i. none m (inr i))
    (λ m i. let l = within m (inr i) in let e = length-set deferred.grants n ids in omega (arith, l, e))

-- ---- slots that are alike

-- indices of the same status and generation
pub record AreAlike (slots others : List Slot) : Type 0 where
  pub status : (i : ℕ) → (slot_at others i).status ≡ (slot_at slots i).status
  pub generation : (i : ℕ) → (slot_at others i).generation ≡ (slot_at slots i).generation

pub in_hand_alike : (slots others : List Slot) (deferred : DeferredValue) → AreAlike slots others → AreInHand slots deferred → AreInHand others deferred
in_hand_alike slots others deferred same h = record {
  granted = λ n e i. let g = h.granted n e i in record { status = same.status e.index ∙ g.status; generation = same.generation e.index ∙ g.generation };
  apart = h.apart;
  spawns = h.spawns;
}

-- slots are so after writes
pub alike_after : (tick : ℕ) (words : ℕ → ℕ → Option (List _)) (slots : List Slot) → AreAlike slots (slots_after tick words slots)
unfolding slots_after
alike_after tick words slots = record {
  status = λ i. get_or-map_index-view (λ (slot : Slot). slot.status) (λ j. slot_after tick (words j)) slots i fresh_slot (λ j slot. refl);
  generation = λ i. get_or-map_index-view (λ (slot : Slot). slot.generation) (λ j. slot_after tick (words j)) slots i fresh_slot (λ j slot. refl);
}

-- ---- a finish

pub in_hand_put : (n : ℕ) (cs : List Command) (slots : List Slot) (deferred : DeferredValue) → n < length deferred.commands → AreSpawns (grants_at deferred n) (spawned_by cs) →
    AreInHand slots deferred → AreInHand slots (with_commands n cs deferred)
in_hand_put n cs slots deferred within new h = record {
  granted = h.granted;
  apart = h.apart;
  spawns = λ m. spawns-case m (cases_eq m n);
}
  where
    spawns-case : (m : ℕ) → (m ≡ n) ⊎ (m ≡ n → ⊥) → AreSpawns (grants_at deferred m) (spawned_by (get_or (set deferred.commands n cs) m []))
    spawns-case m (inl same) = subst (λ j. AreSpawns (grants_at deferred j) (spawned_by (get_or (set deferred.commands n cs) j []))) (sym same)
        (subst (λ x. AreSpawns (grants_at deferred n) (spawned_by x)) (sym (get_or-set_same deferred.commands n cs [] within)) new)
    spawns-case m (inr other) = subst (λ x. AreSpawns (grants_at deferred m) (spawned_by x)) (sym (get_or-set_other deferred.commands n m cs [] other)) (h.spawns m)

-- ---- run states

-- the ids of systems one after the other
pub run_with_each : (ns : List ℕ) (given : List (List Entity)) (state : State) (deferred : DeferredValue) → ((n : ℕ) → IsIn n ns → n < length deferred.grants) →
    run_with state (with_each_grant ns given deferred) ≡ record { state = state; buffers = commands_at deferred; grants = with_each ns given (grants_at deferred) }
run_with_each ns given state deferred within = λ i. record { state = state; buffers = commands_at deferred; grants = λ m. go ns given deferred.grants within m i }
  where
    go : (ks : List ℕ) (xs : List (List Entity)) (grants : List (List Entity)) → ((n : ℕ) → IsIn n ks → n < length grants) → (m : ℕ) →
        get_or (noted_each ks xs grants) m [] ≡ with_each ks xs (λ j. get_or grants j []) m
    go [] xs grants known m = refl
    go (k ∷ ks) [] grants known m = refl
    go (k ∷ ks) (x ∷ xs) grants known m =
        go ks xs (set grants k x) (λ n i. let l = known n (inr i) in let e = length-set grants k x in omega (arith, l, e)) m
        ∙ ap (λ f. with_each ks xs f m) (λ i j. set-at grants k x (known k (inl refl)) j i)

pub run_with_commands : (n : ℕ) (cs : List Command) (state : State) (deferred : DeferredValue) → n < length deferred.commands →
    run_with state (with_commands n cs deferred) ≡ record { state = state; buffers = with_at n cs (commands_at deferred); grants = grants_at deferred }
run_with_commands n cs state deferred within = λ i. record { state = state; buffers = λ m. set-at deferred.commands n cs within m i; grants = grants_at deferred }

pub run_with_nothing : (state : State) (deferred : DeferredValue) → IsNothingDeferred deferred → run_with state deferred ≡ between state
run_with_nothing state deferred h = λ i. record { state = state; buffers = λ m. h.no_commands m i; grants = λ m. h.no_grants m i }
