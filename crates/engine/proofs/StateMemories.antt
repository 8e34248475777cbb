-- A state keeps the memories of its schedule: as a system starts or ends, as a condition is asked, as the clock goes on.
use Rattle.std.proofs.Common.{ℕ, ◌<◌, Bool, true, false, ◌≡◌, ◌==◌, List, length, get_or, refl, sym, ◌∙◌, ap, subst, arith}
use Rattle.std.proofs.lemmas.Bool.{eq-eqb, eqb-true, false≢true}
use Rattle.std.proofs.lemmas.List.{length-map}
use Rattle.entity_table.proofs.Edits.{get_or-update_at}
use Rattle.model.specs.Lists.{update_at}
use Rattle.model.specs.state.State.{EventQueue, Memory, State, no_memory}
use Rattle.model.specs.state.Events.{queue_of}
use Rattle.model.specs.steps.Schedule.{Schedule, params_of, access_of}
use Rattle.model.specs.runs.RunState.{RunState, after_opening, after_grant, after_commands, after_sync, memory_after_run, with_registers}
use Rattle.model.proofs.lists.Lists.{length-update_at, get_or-update_at_other, get_or-update_at-view}
use Rattle.body.specs.Seen.{Seen}
use Rattle.body.specs.Steps.{asked_at, at_clock, laid, noted}
use Rattle.engine.specs.Deferred.{DeferredValue, run_with}
use Rattle.engine.specs.Meanings.{HasMemories}

-- there is a cursor for each reader after a run was noted, whose readers these are
readers-noted : (count n tick : ℕ) (reads : ℕ → List ℕ) (queues : List EventQueue) (memories : List Memory) → length memories ≡ count →
    ((k : ℕ) → k < count → length (get_or memories k no_memory).cursors ≡ length (reads k)) → (k : ℕ) → k < count →
    length (get_or (update_at n (memory_after_run tick (reads n) queues) memories) k no_memory).cursors ≡ length (reads k)
readers-noted count n tick reads queues memories same cursors k known = go (n == k) refl
  where
    go : (b : Bool) → (n == k) ≡ b → length (get_or (update_at n (memory_after_run tick (reads n) queues) memories) k no_memory).cursors ≡ length (reads k)
    go true e =
        let is = eqb-true n k e in
        subst (λ m. length (get_or (update_at n (memory_after_run tick (reads n) queues) memories) m no_memory).cursors ≡ length (reads m)) is
        (ap (λ (m : Memory). length m.cursors) (get_or-update_at (memory_after_run tick (reads n) queues) memories n no_memory (omega arith))
        ∙ length-map (reads n) (λ kind. (queue_of queues kind).next))
    go false e =
        ap (λ (m : Memory). length m.cursors) (get_or-update_at_other n k (memory_after_run tick (reads n) queues) memories no_memory (λ is. false≢true (sym e ∙ eq-eqb n k is)))
        ∙ cursors k known

module _ (s : Schedule) (state : State) (has : HasMemories s state) where
  -- at another tick
  pub memories_at : (clock : ℕ) → HasMemories s (at_clock clock state)
  memories_at clock = record { systems = has.systems; conditions = has.conditions; system_readers = has.system_readers; condition_readers = has.condition_readers }

  -- after the opening of a run
  pub memories_opened : (deferred : DeferredValue) (later : State) → run_with later deferred ≡ after_opening s state → HasMemories s later
  unfolding after_opening after_grant
  memories_opened deferred later opened = subst (HasMemories s) (sym (ap (λ (run : RunState). run.state) opened)) (record {
    systems = has.systems;
    conditions = has.conditions;
    system_readers = has.system_readers;
    condition_readers = has.condition_readers;
  })

  -- after a start
  pub memories_noted : (n tick : ℕ) → HasMemories s (noted n (params_of s n).reads tick state)
  memories_noted n tick = record {
    systems = length-update_at n (memory_after_run tick (params_of s n).reads state.events) state.systems ∙ has.systems;
    conditions = has.conditions;
    system_readers = readers-noted (length s.systems) n tick (λ k. (params_of s k).reads) state.events state.systems has.systems has.system_readers;
    condition_readers = has.condition_readers;
  }

  -- after a condition was asked
  pub memories_asked : (c tick : ℕ) → HasMemories s (asked_at c (access_of s c).reads tick state)
  memories_asked c tick = record {
    systems = has.systems;
    conditions = length-update_at c (memory_after_run tick (access_of s c).reads state.events) state.conditions ∙ has.conditions;
    system_readers = has.system_readers;
    condition_readers = readers-noted (length s.conditions) c tick (λ k. (access_of s k).reads) state.events state.conditions has.conditions has.condition_readers;
  }

  -- after an outcome was laid over it
  pub memories_laid : (n tick : ℕ) (seen : Seen) → HasMemories s (laid n tick seen state)
  memories_laid n tick seen = record {
    systems = length-update_at n (with_registers seen.outcome.registers) state.systems ∙ has.systems;
    conditions = has.conditions;
    system_readers = λ k known. get_or-update_at-view (λ (m : Memory). length m.cursors) n k (with_registers seen.outcome.registers) state.systems no_memory (λ m. refl) ∙ has.system_readers k known;
    condition_readers = has.condition_readers;
  }

  -- after a sync point
  pub memories_synced : (k : ℕ) (deferred deferred_later : DeferredValue) (later : State) → run_with later deferred_later ≡ after_sync s k (run_with state deferred) → HasMemories s later
  unfolding after_sync after_grant after_commands
  memories_synced k deferred deferred_later later synced = subst (HasMemories s) (sym (ap (λ (run : RunState). run.state) synced)) (record {
    systems = has.systems;
    conditions = has.conditions;
    system_readers = has.system_readers;
    condition_readers = has.condition_readers;
  })
