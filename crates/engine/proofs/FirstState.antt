-- The state with which a schedule begins has its memories, each with its registers and no last run above the clock.
use Rattle.std.proofs.Common.{ℕ, zero, suc, ◌<◌, ◌≡◌, inl, inr, List, [], ◌∷◌, length, get_or, map, pos, Option, sym, subst, arith}
use Rattle.std.proofs.lemmas.List.{length-map, length-replicate}
use Rattle.model.specs.access.Condition.{access_of_condition}
use Rattle.model.specs.state.Loaded.{first_memory}
use Rattle.model.specs.state.State.{State, World, no_memory, register_count}
use Rattle.model.specs.steps.Schedule.{Schedule, ScheduledCondition, ScheduledSystem}
use Rattle.body.specs.Steps.{AreInTime, IsInTime}
use Rattle.engine.specs.FirstState.{first_conditions, first_state, first_systems}
use Rattle.engine.specs.Meanings.{HasMemories, LacksMemories, Miscounts}

-- as many cursors as readers
first-readers : {A : Type 0} (reads : A → List ℕ) (xs : List A) (d : A) (n : ℕ) → n < length xs →
    length (get_or (map (λ x. first_memory (reads x)) xs) n no_memory).cursors ≡ length (reads (get_or xs n d))
first-readers reads [] d n known = absurd (omega arith)
first-readers reads (x ∷ xs) d zero known = length-map (reads x) (λ kind. 0)
first-readers reads (x ∷ xs) d (suc n) known = first-readers reads xs d n (omega arith)

pub has_first : (s : Schedule) (w : World) → HasMemories s (first_state s w)
has_first s w = record {
  systems = length-map s.systems (λ (system : ScheduledSystem). first_memory system.params.reads);
  conditions = length-map s.conditions (λ (condition : ScheduledCondition). first_memory (access_of_condition condition.condition).reads);
  system_readers = λ n known. first-readers (λ (x : ScheduledSystem). x.params.reads) s.systems _ n known;
  condition_readers = λ c known. first-readers (λ (x : ScheduledCondition). (access_of_condition x.condition).reads) s.conditions _ c known;
}

-- a state has them or lacks them
pub lacks-none : (s : Schedule) (state : State) → HasMemories s state → LacksMemories s state → ⊥
lacks-none s state has (inl differ) = differ has.systems
lacks-none s state has (inr (inl differ)) = differ has.conditions
lacks-none s state has (inr (inr (inl found))) = found.2 (has.system_readers found.0 found.1)
lacks-none s state has (inr (inr (inr found))) = found.2 (has.condition_readers found.0 found.1)

-- so the numbers are right
pub counts_right : {B : Type 0} (s : Schedule) (slots : List (Option B)) (state : State) → length slots ≡ length s.systems → HasMemories s state → Miscounts s slots state → ⊥
counts_right s slots state count has (inl differ) = differ count
counts_right s slots state count has (inr lacks) = lacks-none s state has lacks

-- so it doesn't lack them
pub no_first_lacks : (s : Schedule) (state : State) (w : World) → state ≡ first_state s w → LacksMemories s state → ⊥
no_first_lacks s state w is lacks = lacks-none s state (subst (HasMemories s) (sym is) (has_first s w)) lacks

never-ran : {A : Type 0} (reads : A → List ℕ) (clock : ℕ) (xs : List A) → IsInTime clock (map (λ x. first_memory (reads x)) xs)
never-ran reads clock [] = tt
never-ran reads clock (x ∷ xs) = (record { last_run = omega arith; registers = length-replicate register_count (pos 0) }, never-ran reads clock xs)

pub first_in_time : (s : Schedule) (clock : ℕ) → AreInTime clock (first_systems s) (first_conditions s)
first_in_time s clock = record {
  systems_in = never-ran (λ (x : ScheduledSystem). x.params.reads) clock s.systems;
  conditions_in = never-ran (λ (x : ScheduledCondition). (access_of_condition x.condition).reads) clock s.conditions;
}
