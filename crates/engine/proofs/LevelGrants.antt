-- The grant for a level: who is granted ids, and what it makes of a run state.
use Rattle.std.proofs.Common.{◌≡◌, ◌==◌, ◌&&◌, ℕ, suc, ◌+◌, ◌<◌, ◌≤◌, true, false, Some, List, [], ◌∷◌, length, set, drop, get_or, inl, refl, sym, ap, ap₂, ◌∙◌, subst, arith, add-one, eqb-true}
use Rattle.std.proofs.Math.ListN.{get_or-map}
use Rattle.std.specs.Prelude.{All}
use Rattle.std.specs.Option.{is_some}
use Rattle.std.specs.Global.{Vec}
use Rattle.std.specs.Vec.{with_items}
use Rattle.std.proofs.lemmas.Bool.{cond_both}
use Rattle.std.proofs.lemmas.List.{drop_more, get_or_default, length-map, length-set, with_items_is}
use Rattle.std.proofs.lemmas.List.Elements.{All-from_recursion}
use Rattle.model.specs.Lists.{IsIn, provided}
use Rattle.model.specs.declared.entities.Entity.{Entity}
use Rattle.model.specs.state.State.{State}
use Rattle.model.specs.state.Ids.{grant_each, has_ids_for_each, ids_of_each}
use Rattle.model.specs.steps.Schedule.{Schedule, params_of, level_of}
use Rattle.model.specs.steps.Built.{IsBuilt}
use Rattle.model.specs.runs.RunState.{RunState, after_commands, after_grant, after_opening, after_sync, begin_run, between, can_open, can_sync, counts_of_level, has_ids_for_level, has_ids_to_open, has_ids_to_sync, has_tick, opening, spawners_of_level, systems_of_level}
use Rattle.model.proofs.lists.Lists.{has-IsIn}
use Rattle.model.proofs.lists.Members.{from-filter}
use Rattle.model.proofs.serial.Engine.{after_grant-form}
use Rattle.body.specs.Steps.{with_slots_in}
use Rattle.engine.specs.Deferred.{DeferredValue, SpawnersValue, AreInHand, IsDeferredFor, commands_at, no_spawners, noted_each, run_with, spawners_among, with_each_grant}
use Rattle.engine.proofs.IdsInHand.{in_hand_each, run_with_each}
use Rattle.model.proofs.lists.Places.{each-where}

-- a list without elements
pub no_elements : {A : Type 0} (xs : List A) → length xs ≡ 0 → xs ≡ []
no_elements [] e = refl
no_elements (x ∷ xs) e = absurd (omega (arith, e))

-- a list in which nothing is
none-in : {A : Type 0} (xs : List A) → ((x : A) → IsIn x xs → ⊥) → xs ≡ []
none-in [] h = refl
none-in (x ∷ xs) h = absurd (h x (inl refl))

module _ (s : Schedule) (k : ℕ) (built : IsBuilt s) where
  -- a system that is granted ids at a level is one of the level
  in-level : (n : ℕ) → IsIn n (spawners_of_level s k) → IsIn n (systems_of_level s k)
  in-level n i = (from-filter (λ m. is_some (params_of s m).spawns) (systems_of_level s k) n i).0

  spawner-level : (n : ℕ) → IsIn n (spawners_of_level s k) → level_of s n ≡ k
  spawner-level n i = eqb-true (level_of s n) k (from-filter (λ m. level_of s m == k) s.order n (in-level n i)).1

  -- and of the schedule
  spawner-known : (n : ℕ) → IsIn n (spawners_of_level s k) → n < length s.systems
  spawner-known n i = built.known n (has-IsIn n s.order (from-filter (λ m. level_of s m == k) s.order n (in-level n i)).0)

  -- past the last level there is none
  pub none_above : s.syncs ≤ k → spawners_of_level s k ≡ []
  none_above past = none-in (spawners_of_level s k) (λ n i. let level = spawner-level n i in let below = built.levels n (spawner-known n i) in omega (arith, level, below))

  module _ (deferred : DeferredValue) (suits : IsDeferredFor s deferred) where
    -- those that are granted have a place each
    spawner-place : (n : ℕ) → IsIn n (spawners_of_level s k) → n < length deferred.grants
    spawner-place n i = let known = spawner-known n i in let count = suits.grant_count in omega (arith, known, count)

    -- what is kept of a level
    pub spawners_there : k < s.syncs → get_or deferred.spawners k no_spawners ≡ spawners_among s (systems_of_level s k)
    spawners_there within =
        ap (λ xs. get_or xs k no_spawners) suits.spawners_are ∙ get_or-map (spawners_among s) deferred.levels k [] ∙ ap (spawners_among s) (suits.levels_are k within)

    -- as many levels are kept
    pub spawners_count : length deferred.spawners ≡ s.syncs
    spawners_count = ap length suits.spawners_are ∙ length-map deferred.levels (spawners_among s) ∙ suits.level_count

    -- where nobody is kept of a level, nobody is granted ids
    pub nobody_kept : k < s.syncs → (length (get_or deferred.spawners k no_spawners).systems == 0) ≡ true → spawners_of_level s k ≡ []
    nobody_kept within e =
        let kept = get_or deferred.spawners k no_spawners in
        sym (ap (λ (x : SpawnersValue). x.systems) (spawners_there within)) ∙ no_elements kept.systems (eqb-true (length kept.systems) 0 e)

    -- what is found of a level
    pub spawners_here : k < s.syncs → (found : SpawnersValue) → found ≡ get_or deferred.spawners k found → (found.systems ≡ spawners_of_level s k) × (found.counts ≡ counts_of_level s k)
    spawners_here within found e =
        let is : found ≡ spawners_among s (systems_of_level s k) = e ∙ get_or_default deferred.spawners k found no_spawners (omega (arith, spawners_count, within)) ∙ spawners_there within in
        (ap (λ (x : SpawnersValue). x.systems) is, ap (λ (x : SpawnersValue). x.counts) is)

    -- the systems that are kept have places for their ids
    pub spawners_known : (ns : List ℕ) → ns ≡ spawners_of_level s k → All (λ n. n < length deferred.grants) ns
    spawners_known ns e = subst (All (λ n. n < length deferred.grants)) (sym e)
        (All-from_recursion (λ n. n < length deferred.grants) (spawners_of_level s k) (each-where (λ n. n < length deferred.grants) (spawners_of_level s k) spawner-place))

    -- the run state after the grant
    pub granted_is : (ns : List ℕ) (counts : List ℕ) (given : List (List Entity)) (w : State) → ns ≡ spawners_of_level s k → counts ≡ counts_of_level s k → given ≡ ids_of_each counts w.world.slots →
        run_with (with_slots_in (grant_each counts w.world.slots) w) (with_each_grant ns given deferred) ≡ after_grant s k (run_with w deferred)
    granted_is ns counts given w e f g =
        ap (λ (xs : List (List Entity)). run_with (with_slots_in (grant_each counts w.world.slots) w) (with_each_grant ns xs deferred)) g
        ∙ ap (λ (cs : List ℕ). run_with (with_slots_in (grant_each cs w.world.slots) w) (with_each_grant ns (ids_of_each cs w.world.slots) deferred)) f
        ∙ ap (λ (ms : List ℕ). run_with (with_slots_in (grant_each (counts_of_level s k) w.world.slots) w) (with_each_grant ms (ids_of_each (counts_of_level s k) w.world.slots) deferred)) e
        ∙ run_with_each (spawners_of_level s k) (ids_of_each (counts_of_level s k) w.world.slots) (with_slots_in (grant_each (counts_of_level s k) w.world.slots) w) deferred spawner-place
        ∙ sym (after_grant-form s k (run_with w deferred))

    -- whether there were ids
    pub has_ids_there : (counts : List ℕ) (w : State) → counts ≡ counts_of_level s k → has_ids_for_level s k (run_with w deferred) ≡ has_ids_for_each counts w.world.slots
    unfolding has_ids_for_level
    has_ids_there counts w f = ap (λ (cs : List ℕ). has_ids_for_each cs w.world.slots) (sym f)

    -- what is in hand after the grant, where the systems of the level have left nothing
    pub in_hand_granted : (ns : List ℕ) (counts : List ℕ) (given : List (List Entity)) (w : State) → ns ≡ spawners_of_level s k → counts ≡ counts_of_level s k → given ≡ ids_of_each counts w.world.slots →
        AreInHand w.world.slots deferred → ((n : ℕ) → level_of s n ≡ k → commands_at deferred n ≡ []) → AreInHand (grant_each counts w.world.slots) (with_each_grant ns given deferred)
    in_hand_granted ns counts given w e f g hand fresh =
        subst (λ (xs : List (List Entity)). AreInHand (grant_each counts w.world.slots) (with_each_grant ns xs deferred)) (sym g)
        (subst (λ (cs : List ℕ). AreInHand (grant_each cs w.world.slots) (with_each_grant ns (ids_of_each cs w.world.slots) deferred)) (sym f)
        (subst (λ (ms : List ℕ). AreInHand (grant_each (counts_of_level s k) w.world.slots) (with_each_grant ms (ids_of_each (counts_of_level s k) w.world.slots) deferred)) (sym e)
        (in_hand_each s (spawners_of_level s k) w.world.slots deferred hand (λ n i. fresh n (spawner-level n i)) spawner-place)))

-- ids that are noted leave as many places
pub length-noted : (ns : List ℕ) (given : List (List Entity)) (grants : List (List Entity)) → length (noted_each ns given grants) ≡ length grants
length-noted [] given grants = refl
length-noted (n ∷ ns) [] grants = refl
length-noted (n ∷ ns) (ids ∷ given) grants = length-noted ns given (set grants n ids) ∙ length-set grants n ids

-- ---- ids that are noted one after the other

-- those of one system more
pub noted_more : (ns : List ℕ) (i d : ℕ) (ids : List Entity) (given grants : List (List Entity)) → i < length ns →
    noted_each (drop i ns) (ids ∷ given) grants ≡ noted_each (drop (i + 1) ns) given (set grants (get_or ns i d) ids)
noted_more ns i d ids given grants within = ap (λ ms. noted_each ms (ids ∷ given) grants) (drop_more ns i d within)

-- where none is left nothing is noted
pub noted_none : (ns : List ℕ) (grants : List (List Entity)) → noted_each ns [] grants ≡ grants
noted_none [] grants = refl
noted_none (n ∷ ns) grants = refl

-- the ids of each system, as they are noted in their places
pub noted_items : (ns : List ℕ) (given : List (List Entity)) (v : Vec (List Entity)) (was now : List (List Entity)) → was ≡ v.items → now ≡ noted_each ns given was → (with_items v now).items ≡ noted_each ns given v.items
noted_items ns given v was now e f =
    let g = f ∙ ap (noted_each ns given) e in
    with_items_is v now (ap length g ∙ length-noted ns given v.items ∙ sym v.ok.0) ∙ g

-- ---- a sync point: the commands of its level, and then the grant for the level above it

module _ (s : Schedule) (p : ℕ) (run mid : RunState) (commanded : mid ≡ after_commands s p run) where
  pub synced_is : (end : RunState) → end ≡ after_grant s (p + 1) mid → end ≡ after_sync s p run
  unfolding after_sync
  synced_is end granted = granted ∙ ap (λ k. after_grant s k mid) (add-one p) ∙ ap (after_grant s (suc p)) commanded

  ids_above : has_ids_to_sync s p run ≡ has_ids_for_level s (p + 1) mid
  unfolding has_ids_to_sync
  ids_above = ap (has_ids_for_level s (suc p)) (sym commanded) ∙ ap (λ k. has_ids_for_level s k mid) (sym (add-one p))

  pub can_sync_is : has_tick run.state ≡ true → has_ids_for_level s (p + 1) mid ≡ true → can_sync s p run ≡ true
  unfolding can_sync
  can_sync_is tick ids = ap₂ ◌&&◌ tick (ids_above ∙ ids)

  pub no_ids_above : has_ids_for_level s (p + 1) mid ≡ false → has_ids_to_sync s p run ≡ false
  no_ids_above none = ids_above ∙ none

  -- a system that has left nothing has left nothing still
  pub fresh_after : (n : ℕ) → run.buffers n ≡ [] → mid.buffers n ≡ []
  unfolding after_commands
  fresh_after n none = ap (λ (r : RunState). r.buffers n) commanded ∙ cond_both (level_of s n == p) [] (run.buffers n) (λ cs. cs ≡ []) (λ e. refl) (λ e. none)

-- at the opening
pub opened_is : (s : Schedule) (start : State) (run : RunState) → has_tick start ≡ true → has_ids_for_level s 0 (between (opening start)) ≡ true → run ≡ after_grant s 0 (between (opening start)) →
    begin_run s start ≡ Some run
unfolding can_open has_ids_to_open after_opening
opened_is s start run tick ids granted = ap₂ (λ can r. provided can r) (ap₂ ◌&&◌ tick ids) (sym granted)

pub no_ids_to_open : (s : Schedule) (start : State) → has_ids_for_level s 0 (between (opening start)) ≡ false → has_ids_to_open s start ≡ false
unfolding has_ids_to_open
no_ids_to_open s start none = none

pub ids_to_open : (s : Schedule) (start : State) → has_ids_to_open s start ≡ has_ids_for_level s 0 (between (opening start))
unfolding has_ids_to_open
ids_to_open s start = refl

-- the systems of each level are systems of the schedule
pub levels_known : (s : Schedule) → IsBuilt s → (levels : List (List ℕ)) → length levels ≡ s.syncs → ((k : ℕ) → k < s.syncs → get_or levels k [] ≡ systems_of_level s k) → All (All (λ n. n < length s.systems)) levels
levels_known s built levels count each = λ k d within.
    subst (All (λ n. n < length s.systems)) (sym (get_or_default levels k d [] within ∙ each k (omega (arith, count, within))))
    (All-from_recursion (λ n. n < length s.systems) (systems_of_level s k) (each-where (λ n. n < length s.systems) (systems_of_level s k)
    (λ n i. built.known n (has-IsIn n s.order (from-filter (λ m. level_of s m == k) s.order n i).0))))
