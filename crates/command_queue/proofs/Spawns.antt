-- Ids that can be spawned, and what commands leave of them.
use Rattle.std.proofs.Common.{◌≡◌, ◌≢◌, ℕ, zero, suc, Bool, true, false, cond, ◌==◌, List, [], ◌∷◌, ◌++◌, None, min, refl, sym, ap, subst, ◌∙◌, arith}
use Rattle.std.specs.Prelude.{All}
use Rattle.std.specs.List.{AllByRecursion}
use Rattle.std.proofs.lemmas.Bool.{and_parts, and_from, or_right, eq-eqb, false≢true}
use Rattle.std.proofs.lemmas.List.Elements.{recursion_from_All}
use Rattle.model.specs.Lists.{update_at}
use Rattle.model.specs.declared.entities.Entity.{Entity}
use Rattle.model.specs.state.State.{Slot, World, is_living, is_granted, most_passed_over}
use Rattle.model.specs.state.State.Status.{Living}
use Rattle.kinds.specs.Components.{widths}
use Rattle.model.specs.state.Rows.{IsRising, insert_component, remove_component}
use Rattle.model.specs.state.Shape.{IsComponent}
use Rattle.model.specs.state.Commands.{CommandTarget, is_alive, spawned, freed, with_row, if_alive, apply_command, apply_buffer}
use Rattle.model.specs.shown.Outcome.{Command, spawned_by}
use Rattle.model.specs.shown.Outcome.Command.{Spawn, Insert, Remove, Despawn}
use Rattle.entity_table.specs.Ids.{slot_at, IsGranted, AreApart}
use Rattle.entity_table.proofs.Releases.{granted-lives, granted-other, same_granted}
use Rattle.archetype_store.specs.declared.change.Fate.{Fate}
use Rattle.archetype_store.specs.declared.change.Fate.TheVariants as the
use Rattle.archetype_store.specs.declared.change.EntityChange.{EntityChange}
use Rattle.archetype_store.specs.Changes.{components_left, slot_left, changed}
use Rattle.command_queue.specs.Pending.{is_left_alive, place_of, put_change, AreChanges, CanSpawn}
use Rattle.command_queue.proofs.Puts.{change_none}
use Rattle.command_queue.proofs.Targets.{slot_changed, granted_unchanged, changes_put, slots_put}

-- ---- a granted id is spawned

module _ (w : World) (cs : List EntityChange) (valid : AreChanges w cs) (e : Entity) (granted : IsGranted (changed cs w.slots) e) where
  first : place_of e.index cs ≡ None
  first = granted_unchanged w cs valid e granted

  slot_before : slot_at (changed cs w.slots) e.index ≡ slot_at w.slots e.index
  slot_before = slot_changed w cs valid e.index ∙ change_none e.index (slot_at w.slots e.index) cs first

  status_before : is_granted (slot_at w.slots e.index).status ≡ true
  status_before = sym (ap (λ (s : Slot). is_granted s.status) slot_before) ∙ ap is_granted granted.status

  generation_before : (slot_at w.slots e.index).generation ≡ e.generation
  generation_before = sym (ap (λ (s : Slot). s.generation) slot_before) ∙ granted.generation

  module _ (fate : Fate) (lasts : is_left_alive fate ≡ true) (bare : components_left fate ≡ []) where
    pub spawned_changes : AreChanges w (put_change (record { entity = e; fate = fate }) cs)
    spawned_changes = changes_put w cs valid (record { entity = e; fate = fate }) (record {
      held = or_right (is_living (slot_at w.slots e.index).status) (is_granted (slot_at w.slots e.index).status) status_before;
      generation = generation_before;
      rising = subst IsRising (sym bare) tt;
      components = subst (AllByRecursion (IsComponent widths w.clock)) (sym bare) tt;
    })

    pub spawned_slots : changed (put_change (record { entity = e; fate = fate }) cs) w.slots ≡ update_at e.index (spawned e.generation) (changed cs w.slots)
    spawned_slots = slots_put w.slots cs (record { entity = e; fate = fate }) (spawned e.generation)
        (made fate lasts bare ∙ ap (spawned e.generation) (sym (change_none e.index (slot_at w.slots e.index) cs first)))
      where
        made : (f : Fate) → is_left_alive f ≡ true → components_left f ≡ [] → slot_left f (slot_at w.slots e.index) ≡ spawned e.generation (slot_at w.slots e.index)
        made (the.Lives components) l b =
            ap (λ r. let s : Slot = record { generation = (slot_at w.slots e.index).generation; status = Living; row = r } in s) b
            ∙ sym (ap (λ test. cond test (let s : Slot = record { generation = (slot_at w.slots e.index).generation; status = Living; row = [] } in s) (slot_at w.slots e.index))
            (and_from (is_granted (slot_at w.slots e.index).status) ((slot_at w.slots e.index).generation == e.generation) status_before (eq-eqb (slot_at w.slots e.index).generation e.generation generation_before)))
        made the.Dies l b = absurd (false≢true l)

-- ---- ids that stay granted

-- while the slot of another index changes
can_spawn-other : (f : Slot → Slot) (i : ℕ) (slots : List Slot) (es : List Entity) → AllByRecursion (λ d. i ≢ d.index) es → CanSpawn slots es → CanSpawn (update_at i f slots) es
can_spawn-other f i slots [] apart h = tt
can_spawn-other f i slots (e ∷ es) apart h = (granted-other f i slots e apart.0 h.0, h.1, can_spawn-other f i slots es apart.1 h.2)

apart_granted : (slots : List Slot) (e : Entity) (es : List Entity) → IsGranted slots e → AllByRecursion (λ d. e ≢ d) es → CanSpawn slots es → AllByRecursion (λ d. e.index ≢ d.index) es
apart_granted slots e [] g apart h = tt
apart_granted slots e (d ∷ ds) g apart h = ((λ same. apart.0 (same_granted slots e d g h.0 same)), apart_granted slots e ds g apart.1 h.2)

apart_living : (slots : List Slot) (i : ℕ) (es : List Entity) → is_living (slot_at slots i).status ≡ true → CanSpawn slots es → AllByRecursion (λ d. i ≢ d.index) es
apart_living slots i [] l h = tt
apart_living slots i (d ∷ ds) l h =
    ((λ same. false≢true (sym (granted-lives slots d.index (ap is_granted h.0.status)) ∙ ap (λ j. is_living (slot_at slots j).status) (sym same) ∙ l)), apart_living slots i ds l h.2)

can_spawn-if_alive : (e : Entity) (f : Slot → Slot) (target : CommandTarget) (es : List Entity) → CanSpawn target.slots es → CanSpawn (if_alive e f target).slots es
can_spawn-if_alive e f target es h = go (is_alive target.slots e) refl
  where
    go : (b : Bool) → is_alive target.slots e ≡ b → CanSpawn (cond b (let t : CommandTarget = record { slots = update_at e.index f target.slots; passed_over = target.passed_over } in t) (record { slots = target.slots; passed_over = min (suc target.passed_over) most_passed_over })).slots es
    go true k = can_spawn-other f e.index target.slots es (apart_living target.slots e.index es (and_parts (is_living (slot_at target.slots e.index).status) ((slot_at target.slots e.index).generation == e.generation) k).0 h) h
    go false k = h

-- what a command leaves
pub can_spawn-next : (tick : ℕ) (target : CommandTarget) (c : Command) (cs : List Command) → CanSpawn target.slots (spawned_by (c ∷ cs)) → CanSpawn (apply_command tick target c).slots (spawned_by cs)
can_spawn-next tick target (Spawn e) cs h = can_spawn-other (spawned e.generation) e.index target.slots (spawned_by cs) (apart_granted target.slots e (spawned_by cs) h.0 h.1 h.2) h.2
can_spawn-next tick target (Insert e kind words) cs h = can_spawn-if_alive e (with_row (insert_component tick kind words)) target (spawned_by cs) h
can_spawn-next tick target (Remove e kind) cs h = can_spawn-if_alive e (with_row (remove_component kind)) target (spawned_by cs) h
can_spawn-next tick target (Despawn e) cs h = can_spawn-if_alive e freed target (spawned_by cs) h

-- ---- commands joined

each_front : (P : Entity → Type 0) (xs ys : List Command) → AllByRecursion P (spawned_by (xs ++ ys)) → AllByRecursion P (spawned_by xs)
each_front P [] ys h = tt
each_front P (Spawn e ∷ xs) ys h = (h.0, each_front P xs ys h.1)
each_front P (Insert e kind words ∷ xs) ys h = each_front P xs ys h
each_front P (Remove e kind ∷ xs) ys h = each_front P xs ys h
each_front P (Despawn e ∷ xs) ys h = each_front P xs ys h

pub can_spawn-front : (slots : List Slot) (xs ys : List Command) → CanSpawn slots (spawned_by (xs ++ ys)) → CanSpawn slots (spawned_by xs)
can_spawn-front slots [] ys h = tt
can_spawn-front slots (Spawn e ∷ xs) ys h = (h.0, each_front (λ d. e ≢ d) xs ys h.1, can_spawn-front slots xs ys h.2)
can_spawn-front slots (Insert e kind words ∷ xs) ys h = can_spawn-front slots xs ys h
can_spawn-front slots (Remove e kind ∷ xs) ys h = can_spawn-front slots xs ys h
can_spawn-front slots (Despawn e ∷ xs) ys h = can_spawn-front slots xs ys h

pub can_spawn-rest : (tick : ℕ) (target : CommandTarget) (xs ys : List Command) → CanSpawn target.slots (spawned_by (xs ++ ys)) → CanSpawn (apply_buffer tick target xs).slots (spawned_by ys)
can_spawn-rest tick target [] ys h = h
can_spawn-rest tick target (x ∷ xs) ys h = can_spawn-rest tick (apply_command tick target x) xs ys (can_spawn-next tick target x (xs ++ ys) h)

-- ---- granted ids, none named twice

pub can_spawn_granted : (slots : List Slot) (es : List Entity) → All (IsGranted slots) es → AreApart es → CanSpawn slots es
can_spawn_granted slots [] granted apart = tt
can_spawn_granted slots (e ∷ es) granted apart = (
  granted zero e (omega arith),
  recursion_from_All (λ d. e ≢ d) es (λ k d l. apart zero (suc k) d (omega arith) (omega arith)),
  can_spawn_granted slots es (λ k d l. granted (suc k) d (omega arith)) (λ i j d before l. apart (suc i) (suc j) d (omega arith) (omega arith)),
)
