-- What systems are given: after a lawful history each system whose level is open has as many ids as it declares, none twice.
use Rattle.std.proofs.Common.{◌≡◌, ◌≢◌, ◌⊎◌, inl, inr, ℕ, zero, suc, ◌-◌, ◌<◌, ◌≤◌, true, false, cond, ◌==◌, ◌||◌, List, [], ◌∷◌, ◌++◌, length, map, take, get_or, filter, Option, Some, None, Result, Ok, Err, refl, sym, ap, subst, ◌∙◌, arith, eqb-true, eq-eqb, ne_eqb}
use Rattle.std.specs.List.{AllByRecursion, AllPairs}
use Rattle.std.specs.Option.{is_some, unwrap_or}
use Rattle.std.proofs.lemmas.Bool.{false≢true, true≢false, cond_both, both_ways, cases_Bool, cases_lt}
use Rattle.std.proofs.lemmas.List.{length-map, length-take-le}
use Rattle.model.specs.declared.steps.Step.{Step}
use Rattle.model.specs.declared.steps.Step.TheVariants.{Cond, Start, Skip, Finish, Sync}
use Rattle.model.specs.Lists.{IsIn, with_at, provided}
use Rattle.model.specs.state.State.{Entity, Slot, State, is_vacant}
use Rattle.model.specs.state.Ids.{vacant_from, vacant_indices, with_room, id_at, least_vacant, granted_ids, grant, ids_of_each}
use Rattle.model.specs.shown.Outcome.{Outcome, BodyMeaning}
use Rattle.model.specs.steps.Schedule.{Schedule, params_of, level_of}
use Rattle.model.specs.steps.Built.{IsBuilt}
use Rattle.model.specs.steps.Lawful.{IsLawful, IsFree, May, MaySync, synced, begun}
use Rattle.model.specs.runs.RunState.{RunState, RunningSystem, between, opening, has_tick, spawns_of, systems_of_level, spawners_of_level, counts_of_level, with_each, after_grant, can_open, after_opening, begin_run, can_start, started_system, after_start, can_finish, overlaid, body_of, finish_with, finish, after_condition, after_commands, can_sync, after_sync}
use Rattle.model.specs.runs.Meaning.{Interleaved, running_system, without_system, interleaved, interleaved_step, serial, serial_step, serial_start, with_running_systems}
use Rattle.model.specs.state.Shape.{AreIdsFor}
use Rattle.model.proofs.lists.Lists.{provided-Some, IsIn_from_has, with_at_other}
use Rattle.model.proofs.lists.Each.{each-map, each-at}
use Rattle.model.proofs.lists.Members.{in-filter, from-filter}
use Rattle.model.proofs.order.Histories.{lower_synced, level_ended, ended_begun}
use Rattle.model.proofs.faults.Causes.{then-parts, with_running_systems-parts}
use Rattle.model.proofs.shape.Slots.{length-vacant_room}

-- a level is open: all lower sync points are done, and its own isn't
pub record IsOpenLevel (h : List Step) (k : ℕ) : Type 0 where
  pub over : (j : ℕ) → j < k → synced h j ≡ true
  pub own : synced h k ≡ false

-- each system whose level is open has what it can be given, and one without commands has no id
pub record HasIds (s : Schedule) (h : List Step) (run : RunState) : Type 0 where
  pub given : (n : ℕ) → n < length s.systems → IsOpenLevel h (level_of s n) → AreIdsFor s n (run.grants n)
  pub none : (n : ℕ) → is_some (params_of s n).spawns ≡ false → run.grants n ≡ []

-- ---- the ids of one grant

-- numbers that rise
abbrev Rise : List ℕ → Type 0
Rise [] = Unit {0}
Rise (n ∷ ns) = AllByRecursion (λ m. suc n ≤ m) ns × Rise ns

-- the vacant indices are at least the first
pub vacant-above : (low first : ℕ) (slots : List Slot) → low ≤ first → AllByRecursion (λ i. low ≤ i) (vacant_from first slots)
vacant-above low first [] le = tt
vacant-above low first (slot ∷ slots) le = cond_both (is_vacant slot.status) (first ∷ vacant_from (suc first) slots) (vacant_from (suc first) slots)
    (AllByRecursion (λ i. low ≤ i)) (λ e. (le, vacant-above low (suc first) slots (omega arith))) (λ e. vacant-above low (suc first) slots (omega arith))

-- they rise
vacant-rise : (first : ℕ) (slots : List Slot) → Rise (vacant_from first slots)
vacant-rise first [] = tt
vacant-rise first (slot ∷ slots) = cond_both (is_vacant slot.status) (first ∷ vacant_from (suc first) slots) (vacant_from (suc first) slots) Rise
    (λ e. (vacant-above (suc first) (suc first) slots (omega arith), vacant-rise (suc first) slots)) (λ e. vacant-rise (suc first) slots)

-- what is true of each element is true of each of the first ones
take-each : {A : Type 0} (P : A → Type 0) (n : ℕ) (xs : List A) → AllByRecursion P xs → AllByRecursion P (take n xs)
take-each P zero xs h = tt
take-each P (suc n) [] h = tt
take-each P (suc n) (x ∷ xs) h = (h.0, take-each P n xs h.1)

-- the first of them rise
take-rise : (n : ℕ) (xs : List ℕ) → Rise xs → Rise (take n xs)
take-rise zero xs h = tt
take-rise (suc n) [] h = tt
take-rise (suc n) (x ∷ xs) h = (take-each (λ m. suc x ≤ m) n xs h.0, take-rise n xs h.1)

-- an id before others with greater indices
once-cons : (e : Entity) (es : List Entity) → AllByRecursion (λ (x : Entity). suc e.index ≤ x.index) es → AllPairs (λ a b. a ≢ b) es → AllPairs (λ a b. a ≢ b) (e ∷ es)
once-cons e es above h j zero d before within same = absurd (omega arith)
once-cons e es above h zero (suc k) d before within same =
    let later : suc e.index ≤ (get_or es k d).index = each-at (λ (x : Entity). suc e.index ≤ x.index) es k d (omega arith) above in
    absurd (omega (arith, ap (λ (x : Entity). x.index) same))
once-cons e es above h (suc j) (suc k) d before within same = h j k d (omega arith) (omega arith) same

-- the ids of rising indices are apart
once-rising : (slots : List Slot) (ns : List ℕ) → Rise ns → AllPairs (λ a b. a ≢ b) (map (id_at slots) ns)
once-rising slots [] h = λ j k d before within same. absurd (omega arith)
once-rising slots (n ∷ ns) h = once-cons (id_at slots n) (map (id_at slots) ns)
    (each-map (λ m. suc n ≤ m) (λ (x : Entity). suc n ≤ x.index) (id_at slots) (λ m above. above) ns h.0) (once-rising slots ns h.1)

-- a grant gives no id twice
pub once-granted : (n : ℕ) (slots : List Slot) → AllPairs (λ a b. a ≢ b) (granted_ids n slots)
unfolding granted_ids
once-granted n slots = once-rising (with_room n slots) (least_vacant n slots) (take-rise n (vacant_indices (with_room n slots)) (vacant-rise 0 (with_room n slots)))

-- where there is room made for n, n are vacant
room-vacant : (n : ℕ) (slots : List Slot) → n ≤ length (vacant_indices (with_room n slots))
unfolding with_room
room-vacant n slots = let room = length-vacant_room 0 (n - length (vacant_indices slots)) slots in omega (arith, room)

-- a grant gives as many ids as asked
pub length-granted : (n : ℕ) (slots : List Slot) → length (granted_ids n slots) ≡ n
unfolding granted_ids
length-granted n slots = length-map (least_vacant n slots) (id_at (with_room n slots)) ∙ length-take-le n (vacant_indices (with_room n slots)) (room-vacant n slots)

-- so it gives what a system can be given
ids-granted : (s : Schedule) (n : ℕ) (slots : List Slot) → AreIdsFor s n (granted_ids (spawns_of s n) slots)
ids-granted s n slots = record { count = length-granted (spawns_of s n) slots; once = once-granted (spawns_of s n) slots }

-- a system without commands can be given nothing
ids-nothing : (s : Schedule) (n : ℕ) (ids : List Entity) → is_some (params_of s n).spawns ≡ false → ids ≡ [] → AreIdsFor s n ids
ids-nothing s n ids none e = subst (AreIdsFor s n) (sym e) (record { count = sym (go (params_of s n).spawns none); once = λ i j d before within. absurd (omega arith) })
  where
    go : (o : Option ℕ) → is_some o ≡ false → unwrap_or o 0 ≡ 0
    go None f = refl
    go (Some m) f = absurd (true≢false f)

-- ---- the ids of a level

-- a system among those that are granted has what it can be given, and so has one that had it before
given-each : (s : Schedule) (ns : List ℕ) (slots : List Slot) (f : ℕ → List Entity) (m : ℕ) → IsIn m ns ⊎ AreIdsFor s m (f m)
    → AreIdsFor s m (with_each ns (ids_of_each (map (spawns_of s) ns) slots) f m)
unfolding ids_of_each
given-each s [] slots f m (inl i) = absurd i
given-each s [] slots f m (inr h) = h
given-each s (n ∷ ns) slots f m h = given-each s ns (grant (spawns_of s n) slots) (with_at n (granted_ids (spawns_of s n) slots) f) m (go h (cases_Bool (m == n)))
  where
    here : (m == n) ≡ true → AreIdsFor s m (with_at n (granted_ids (spawns_of s n) slots) f m)
    here e = subst (AreIdsFor s m) (sym (ap (λ b. cond b (granted_ids (spawns_of s n) slots) (f m)) e))
        (subst (λ j. AreIdsFor s m (granted_ids (spawns_of s j) slots)) (eqb-true m n e) (ids-granted s m slots))

    there : (m == n) ≡ false → AreIdsFor s m (f m) → AreIdsFor s m (with_at n (granted_ids (spawns_of s n) slots) f m)
    there e k = subst (AreIdsFor s m) (sym (ap (λ b. cond b (granted_ids (spawns_of s n) slots) (f m)) e)) k

    go : IsIn m (n ∷ ns) ⊎ AreIdsFor s m (f m) → ((m == n) ≡ true) ⊎ ((m == n) ≡ false) → IsIn m ns ⊎ AreIdsFor s m (with_at n (granted_ids (spawns_of s n) slots) f m)
    go k (inl e) = inr (here e)
    go (inl (inl same)) (inr e) = absurd (true≢false (sym (eq-eqb m n same) ∙ e))
    go (inl (inr i)) (inr e) = inl i
    go (inr k) (inr e) = inr (there e k)

-- the map at a number that is none of these stays
with_each-other : {A : Type 0} (ns : List ℕ) (xs : List A) (f : ℕ → A) (m : ℕ) → (IsIn m ns → ⊥) → with_each ns xs f m ≡ f m
with_each-other [] xs f m h = refl
with_each-other (n ∷ ns) [] f m h = refl
with_each-other (n ∷ ns) (x ∷ xs) f m h = with_each-other ns xs (with_at n x f) m (λ i. h (inr i)) ∙ with_at_other n m x f (λ e. h (inl (sym e)))

-- a system with commands is among the spawners of its level
spawner-listed : (s : Schedule) (n : ℕ) → IsBuilt s → n < length s.systems → is_some (params_of s n).spawns ≡ true → IsIn n (spawners_of_level s (level_of s n))
spawner-listed s n built known some =
    in-filter (λ m. is_some (params_of s m).spawns) (systems_of_level s (level_of s n)) n
    (in-filter (λ m. level_of s m == level_of s n) s.order n (IsIn_from_has n s.order (built.listed n known)) (eq-eqb (level_of s n) (level_of s n) refl)) some

-- a spawner has commands
spawner-some : (s : Schedule) (k n : ℕ) → IsIn n (spawners_of_level s k) → is_some (params_of s n).spawns ≡ true
spawner-some s k n i = go (systems_of_level s k) i
  where
    go : (ns : List ℕ) → IsIn n (filter (λ m. is_some (params_of s m).spawns) ns) → is_some (params_of s n).spawns ≡ true
    go ns j = (from-filter (λ m. is_some (params_of s m).spawns) ns n j).1

-- after a grant each system of the level has what it can be given
given-grant : (s : Schedule) (k : ℕ) (run : RunState) (n : ℕ) → IsBuilt s → n < length s.systems → level_of s n ≡ k
    → (is_some (params_of s n).spawns ≡ false → run.grants n ≡ []) → AreIdsFor s n ((after_grant s k run).grants n)
unfolding after_grant
given-grant s k run n built known level none = go (cases_Bool (is_some (params_of s n).spawns))
  where
    go : (is_some (params_of s n).spawns ≡ true) ⊎ (is_some (params_of s n).spawns ≡ false)
        → AreIdsFor s n (with_each (spawners_of_level s k) (ids_of_each (counts_of_level s k) run.state.world.slots) run.grants n)
    go (inl some) = given-each s (spawners_of_level s k) run.state.world.slots run.grants n
        (inl (subst (λ j. IsIn n (spawners_of_level s j)) level (spawner-listed s n built known some)))
    go (inr bare) = given-each s (spawners_of_level s k) run.state.world.slots run.grants n (inr (ids-nothing s n (run.grants n) bare (none bare)))

-- a system without commands has no id after a grant
pub none-grant : (s : Schedule) (k : ℕ) (run : RunState) (n : ℕ) → is_some (params_of s n).spawns ≡ false → run.grants n ≡ [] → (after_grant s k run).grants n ≡ []
unfolding after_grant
none-grant s k run n bare e = with_each-other (spawners_of_level s k) (ids_of_each (counts_of_level s k) run.state.world.slots) run.grants n
    (λ i. true≢false (sym (spawner-some s k n i) ∙ bare)) ∙ e

-- ---- the steps

-- the opening
ids-opening : (s : Schedule) (start : State) → IsBuilt s → HasIds s [] (after_opening s start)
unfolding after_opening
ids-opening s start built = record {
  given = λ n known opened. given-grant s 0 (between (opening start)) n built known (level-zero n opened) (λ bare. refl);
  none = λ n bare. none-grant s 0 (between (opening start)) n bare refl;
}
  where
    level-zero : (n : ℕ) → IsOpenLevel [] (level_of s n) → level_of s n ≡ 0
    level-zero n opened = go (level_of s n) opened.over
      where
        go : (k : ℕ) → ((j : ℕ) → j < k → synced [] j ≡ true) → k ≡ 0
        go zero over = refl
        go (suc k) over = absurd (false≢true (over 0 (omega arith)))

-- a step that leaves the ids, and no sync point
ids-same : (s : Schedule) (h g : List Step) (run next : RunState) → ((k : ℕ) → synced g k ≡ synced h k) → ((n : ℕ) → next.grants n ≡ run.grants n) → HasIds s h run → HasIds s g next
ids-same s h g run next syncs same ids = record {
  given = λ n known opened. subst (AreIdsFor s n) (sym (same n))
      (ids.given n known (record { over = λ j l. sym (syncs j) ∙ opened.over j l; own = sym (syncs (level_of s n)) ∙ opened.own }));
  none = λ n bare. same n ∙ ids.none n bare;
}

-- after a sync point the level above it alone is open
level-above : (s : Schedule) (h : List Step) (k j : ℕ) → IsLawful s h → MaySync s h k → IsOpenLevel (Sync k ∷ h) j → j ≡ suc k
level-above s h k j lawful may opened = omega (arith, above, most)
  where
    differ : (k ≡ j) → ⊥
    differ e = true≢false (sym (ap (λ b. b || synced h j) (eq-eqb k j e)) ∙ opened.own)

    unsynced : synced h j ≡ false
    unsynced = sym (ap (λ b. b || synced h j) (ne_eqb k j differ)) ∙ opened.own

    above : k < j
    above = go (cases_lt j k)
      where
        go : (j < k) ⊎ (k ≤ j) → k < j
        go (inl l) = absurd (true≢false (sym (may.lower j l) ∙ unsynced))
        go (inr l) = omega (arith, differ)

    most : j ≤ suc k
    most = go (cases_lt (suc k) j)
      where
        go : (suc k < j) ⊎ (j ≤ suc k) → j ≤ suc k
        go (inr l) = l
        go (inl l) =
            let over : synced (Sync k ∷ h) (suc k) ≡ true = opened.over (suc k) l in
            let before : synced h (suc k) ≡ true = sym (ap (λ b. b || synced h (suc k)) (ne_eqb k (suc k) (λ e. omega (arith, e)))) ∙ over in
            absurd (true≢false (sym (lower_synced s h k (suc k) lawful before (omega arith)) ∙ may.fresh))

-- a sync point
ids-sync : (s : Schedule) (h : List Step) (k : ℕ) (run : RunState) → IsBuilt s → IsLawful s h → MaySync s h k → HasIds s h run → HasIds s (Sync k ∷ h) (after_sync s k run)
unfolding after_sync
ids-sync s h k run built lawful may ids = record {
  given = λ n known opened. given-grant s (suc k) (after_commands s k run) n built known (level-above s h k (level_of s n) lawful may opened) (released n);
  none = λ n bare. none-grant s (suc k) (after_commands s k run) n bare (released n bare);
}
  where
    released : (n : ℕ) → is_some (params_of s n).spawns ≡ false → (after_commands s k run).grants n ≡ []
    released n bare = unfold after_commands in cond_both (level_of s n == k) [] (run.grants n) (λ ids. ids ≡ []) (λ e. refl) (λ e. ids.none n bare)

-- a finish leaves the ids
grants-finish : (s : Schedule) (bodies : List BodyMeaning) (p : RunningSystem) (run next : RunState) → finish s bodies p run ≡ Some next → (n : ℕ) → next.grants n ≡ run.grants n
grants-finish s bodies p run next e n = go (body_of bodies p.system p.shown) e
  where
    go : (answer : Result Outcome ℕ) → finish_with s answer p run ≡ Some next → next.grants n ≡ run.grants n
    go (Err refusal) f = absurd (let g = f in cc)
    go (Ok o) f = let q = provided-Some (can_finish s p.system o run) (overlaid s p o run) next f in
        ap (λ (x : RunState). x.grants n) (sym q.1) ∙ unfold overlaid in refl

-- ---- runs

-- a step that leaves the ids, interleaved
grants-interleaved : (s : Schedule) (bodies : List BodyMeaning) (n : ℕ) (v w : Interleaved) → interleaved_step s bodies (Finish n) v ≡ Some w → (m : ℕ) → w.run.grants m ≡ v.run.grants m
grants-interleaved s bodies n v w e m =
    let p = then-parts (running_system n v.running_systems) (λ p. with_running_systems (without_system n v.running_systems) (finish s bodies p v.run)) w e in
    let q = with_running_systems-parts (without_system n v.running_systems) (finish s bodies p.0 v.run) w p.2 in
    ap (λ (x : Interleaved). x.run.grants m) q.2 ∙ grants-finish s bodies p.0 v.run q.0 q.1 m

-- a step that may come, interleaved
interleaved-ids : (s : Schedule) (bodies : List BodyMeaning) (h : List Step) (step : Step) (v w : Interleaved) → IsBuilt s → IsLawful s h → May s h step
    → interleaved_step s bodies step v ≡ Some w → HasIds s h v.run → HasIds s (step ∷ h) w.run
unfolding after_condition after_start
interleaved-ids s bodies h (Cond c answer) v w built lawful may e ids =
    let p = provided-Some (has_tick v.run.state) (record { run = after_condition s c v.run; running_systems = v.running_systems }) w e in
    subst (λ (x : Interleaved). HasIds s (Cond c answer ∷ h) x.run) p.1 (ids-same s h (Cond c answer ∷ h) v.run (after_condition s c v.run) (λ k. refl) (λ n. refl) ids)
interleaved-ids s bodies h (Start m) v w built lawful may e ids =
    let p = provided-Some (can_start v.run) (record { run = after_start s m v.run; running_systems = v.running_systems ++ started_system s m v.run ∷ [] }) w e in
    subst (λ (x : Interleaved). HasIds s (Start m ∷ h) x.run) p.1 (ids-same s h (Start m ∷ h) v.run (after_start s m v.run) (λ k. refl) (λ n. refl) ids)
interleaved-ids s bodies h (Skip m) v w built lawful may e ids =
    let same : v ≡ w = cc in subst (λ (x : Interleaved). HasIds s (Skip m ∷ h) x.run) same (ids-same s h (Skip m ∷ h) v.run v.run (λ k. refl) (λ n. refl) ids)
interleaved-ids s bodies h (Finish m) v w built lawful may e ids = ids-same s h (Finish m ∷ h) v.run w.run (λ k. refl) (grants-interleaved s bodies m v w e) ids
interleaved-ids s bodies h (Sync k) v w built lawful may e ids =
    let p = provided-Some (can_sync s k v.run) (record { run = after_sync s k v.run; running_systems = v.running_systems }) w e in
    subst (λ (x : Interleaved). HasIds s (Sync k ∷ h) x.run) p.1 (ids-sync s h k v.run built lawful may ids)

-- after an interleaved run
pub ids-interleaved : (s : Schedule) (bodies : List BodyMeaning) (start : State) (h : List Step) (w : Interleaved) → IsBuilt s → IsLawful s h
    → interleaved s bodies start h ≡ Some w → HasIds s h w.run
ids-interleaved s bodies start [] w built lawful e =
    let p = with_running_systems-parts [] (begin_run s start) w e in
    let q = provided-Some (can_open s start) (after_opening s start) p.0 p.1 in
    subst (λ (x : Interleaved). HasIds s [] x.run) (sym p.2) (subst (HasIds s []) q.1 (ids-opening s start built))
ids-interleaved s bodies start (step ∷ h) w built lawful e =
    let p = then-parts (interleaved s bodies start h) (interleaved_step s bodies step) w e in
    interleaved-ids s bodies h step p.0 w built lawful.1 lawful.0 p.2 (ids-interleaved s bodies start h p.0 built lawful.1 p.1)

-- a whole start leaves the ids
grants-start : (s : Schedule) (bodies : List BodyMeaning) (m : ℕ) (run next : RunState) → serial_start s bodies m run ≡ Some next → (n : ℕ) → next.grants n ≡ run.grants n
unfolding after_start
grants-start s bodies m run next e n =
    let p = then-parts (provided (can_start run) (after_start s m run)) (finish s bodies (started_system s m run)) next e in
    let q = provided-Some (can_start run) (after_start s m run) p.0 p.1 in
    grants-finish s bodies (started_system s m run) p.0 next p.2 n ∙ ap (λ (x : RunState). x.grants n) (sym q.1)

-- a step that may come, on one thread
serial-ids : (s : Schedule) (bodies : List BodyMeaning) (h : List Step) (step : Step) (run next : RunState) → IsBuilt s → IsLawful s h → May s h step
    → serial_step s bodies step run ≡ Some next → HasIds s h run → HasIds s (step ∷ h) next
unfolding after_condition
serial-ids s bodies h (Cond c answer) run next built lawful may e ids =
    let p = provided-Some (has_tick run.state) (after_condition s c run) next e in
    subst (HasIds s (Cond c answer ∷ h)) p.1 (ids-same s h (Cond c answer ∷ h) run (after_condition s c run) (λ k. refl) (λ n. refl) ids)
serial-ids s bodies h (Start m) run next built lawful may e ids = ids-same s h (Start m ∷ h) run next (λ k. refl) (grants-start s bodies m run next e) ids
serial-ids s bodies h (Skip m) run next built lawful may e ids =
    let same : run ≡ next = cc in subst (HasIds s (Skip m ∷ h)) same (ids-same s h (Skip m ∷ h) run run (λ k. refl) (λ n. refl) ids)
serial-ids s bodies h (Finish m) run next built lawful may e ids =
    let same : run ≡ next = cc in subst (HasIds s (Finish m ∷ h)) same (ids-same s h (Finish m ∷ h) run run (λ k. refl) (λ n. refl) ids)
serial-ids s bodies h (Sync k) run next built lawful may e ids =
    let p = provided-Some (can_sync s k run) (after_sync s k run) next e in
    subst (HasIds s (Sync k ∷ h)) p.1 (ids-sync s h k run built lawful may ids)

-- after a serial run
pub ids-serial : (s : Schedule) (bodies : List BodyMeaning) (start : State) (h : List Step) (run : RunState) → IsBuilt s → IsLawful s h
    → serial s bodies start h ≡ Some run → HasIds s h run
ids-serial s bodies start [] run built lawful e =
    let q = provided-Some (can_open s start) (after_opening s start) run e in subst (HasIds s []) q.1 (ids-opening s start built)
ids-serial s bodies start (step ∷ h) run built lawful e =
    let p = then-parts (serial s bodies start h) (serial_step s bodies step) run e in
    serial-ids s bodies h step p.0 run built lawful.1 lawful.0 p.2 (ids-serial s bodies start h p.0 built lawful.1 p.1)

-- a system that is free has what it can be given
pub ids-free : (s : Schedule) (h : List Step) (n : ℕ) (run : RunState) → IsLawful s h → IsFree s h n → HasIds s h run → AreIdsFor s n (run.grants n)
ids-free s h n run lawful free ids = ids.given n free.known (record { over = free.over; own = own (cases_Bool (synced h (level_of s n))) })
  where
    own : (synced h (level_of s n) ≡ true) ⊎ (synced h (level_of s n) ≡ false) → synced h (level_of s n) ≡ false
    own (inr e) = e
    own (inl e) = absurd (both_ways (begun h n) free.waits (ended_begun s h n lawful (level_ended s h (level_of s n) n lawful e free.known refl)))
