-- What is in hand as a system starts.
use Rattle.std.proofs.Common.{ℕ, zero, suc, ◌<◌, ◌≡◌, ◌⊎◌, inl, inr, List, [], ◌∷◌, ◌++◌, length, get_or, refl, sym, ◌∙◌, ap, subst, arith}
use Rattle.std.proofs.lemmas.List.{length-map}
use Rattle.model.specs.Lists.{IsIn}
use Rattle.model.specs.declared.entities.Entity.{Entity}
use Rattle.model.specs.state.State.{Memory, State, no_memory, register_count}
use Rattle.model.specs.state.Shape.{AreIdsFor}
use Rattle.model.specs.access.Access.{Params}
use Rattle.model.specs.shown.Input.{Shown, rows_of, shown}
use Rattle.model.specs.steps.Schedule.{Schedule, params_of}
use Rattle.model.specs.runs.RunState.{memory_of_system}
use Rattle.model.proofs.lists.Lists.{IsIn-append}
use Rattle.body.specs.Keeps.{CanBeShown}
use Rattle.body.specs.Steps.{StateValue, AreInTime, IsInTime}
use Rattle.worker_pool.specs.JobOut.{JobOut}
use Rattle.engine.specs.Jobs.{InHand}
use Rattle.engine.specs.Deferred.{DeferredValue, AreInHand, grants_at}
use Rattle.engine.specs.Meanings.{HasMemories}
use Rattle.engine.proofs.JobsOut.{IsHanded}

pub registers_at : (clock : ℕ) (ms : List Memory) (n : ℕ) → n < length ms → IsInTime clock ms → length (get_or ms n no_memory).registers ≡ register_count
registers_at clock [] n known h = absurd (omega (arith, known))
registers_at clock (m ∷ ms) zero known h = h.0.registers
registers_at clock (m ∷ ms) (suc n) known h = registers_at clock ms n (omega (arith, known)) h.1

-- what is shown at a start can be shown, with ids that the system can be given
pub can_be_shown : (s : Schedule) (n : ℕ) (memory : Memory) (w : State) (ids : List Entity) → length memory.registers ≡ register_count → AreIdsFor s n ids →
    CanBeShown (params_of s n) (shown (params_of s n) memory w ids)
unfolding shown
can_be_shown s n memory w ids registers given = record {
  rows = length-map (params_of s n).queries (λ query. rows_of query memory.last_run w.world.slots);
  registers = registers;
  ids = given.count;
  once = given.once;
}

shown-granted : (params : Params) (memory : Memory) (w : State) (ids : List Entity) → (shown params memory w ids).granted ≡ ids
unfolding shown
shown-granted params memory w ids = refl

module _ {B : Type 0} (s : Schedule) (n : ℕ) (w later : StateValue) (deferred : DeferredValue) (out : List (JobOut B)) (job : JobOut B) (known : n < length s.systems) (memories : HasMemories s w.state)
    (in_time : AreInTime w.state.world.clock w.state.systems w.state.conditions) (hand : InHand s deferred out w) (given : AreIdsFor s n (grants_at deferred n)) (handed : IsHanded s n (grants_at deferred n) w later job) where
  granted-one : (j : JobOut B) → IsIn j out ⊎ IsIn j (job ∷ []) → j.view.shown.granted ≡ grants_at deferred j.system
  granted-one j (inl i) = hand.granted j i
  granted-one j (inr (inl same)) =
      ap (λ (x : JobOut B). x.view.shown.granted) same ∙ ap (λ (x : Shown). x.granted) handed.shown_there ∙ shown-granted (params_of s n) (memory_of_system w.state n) w.state (grants_at deferred n)
      ∙ ap (grants_at deferred) (sym handed.system ∙ ap (λ (x : JobOut B). x.system) (sym same))
  granted-one j (inr (inr none)) = absurd none

  shown-one : (j : JobOut B) → IsIn j out ⊎ IsIn j (job ∷ []) → CanBeShown (params_of s j.system) j.view.shown
  shown-one j (inl i) = hand.showing j i
  shown-one j (inr (inl same)) =
      subst (λ (x : JobOut B). CanBeShown (params_of s x.system) x.view.shown) (sym same)
      (subst (λ m. CanBeShown (params_of s m) job.view.shown) (sym handed.system)
      (subst (CanBeShown (params_of s n)) (sym handed.shown_there)
      (can_be_shown s n (memory_of_system w.state n) w.state (grants_at deferred n) (registers_at w.state.world.clock w.state.systems n (let e = memories.systems in omega (arith, e, known)) in_time.systems_in) given)))
  shown-one j (inr (inr none)) = absurd none

  pub in_hand_start : InHand s deferred (out ++ job ∷ []) later
  in_hand_start = record {
    suits = hand.suits;
    ids = subst (λ (x : StateValue). AreInHand x.state.world.slots deferred) (sym handed.is_later) hand.ids;
    granted = λ j i. granted-one j (IsIn-append j out (job ∷ []) i);
    showing = λ j i. shown-one j (IsIn-append j out (job ∷ []) i);
  }
