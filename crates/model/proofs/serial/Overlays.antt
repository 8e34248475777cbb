-- An outcome laid over a run state, beside what doesn't meet its system: another outcome, a start, a condition.
use Rattle.std.proofs.Common.{ℕ, nat_lt, ℤ, ◌≡◌, ◌≢◌, ◌⊎◌, List, get_or, Option, refl, sym, ap, ap₂, ◌∙◌, inl, inr}
use Rattle.std.proofs.lemmas.Bool.{or_left, or_right}
use Rattle.model.specs.Lists.{IsIn, has, head_or, update_at, with_at}
use Rattle.model.specs.state.State.{Entity, Slot, Resource, EventQueue, Memory, State, no_resource, no_memory}
use Rattle.model.specs.state.Rows.{row_at, kinds_of}
use Rattle.model.specs.state.Events.{queue_of, unread}
use Rattle.model.specs.access.Query.{Term}
use Rattle.model.specs.access.Access.{Params}
use Rattle.model.specs.shown.Input.{shown, rows_of, end_cursors}
use Rattle.model.specs.shown.Outcome.{Outcome, words_written, value_written, events_sent}
use Rattle.model.specs.shown.Overlay.{slots_after, resources_after, queues_after}
use Rattle.model.specs.access.Condition.{Condition, asked, queries_of, resources_of, events_of, cursors_after}
use Rattle.model.specs.access.Condition.Condition.{RunOnce, ResourceEquals, ResourceAtLeast, ResourceChanged, AnyWith, OnEvent, Not, And, Or}
use Rattle.model.specs.access.Condition.Asked.{Value, IsNewer, Rows, Unread, Both}
use Rattle.model.specs.steps.Schedule.{Schedule, params_of, condition_of, access_of}
use Rattle.model.specs.runs.RunState.{RunState, RunningSystem, has_tick, next_tick, memory_of_system, memory_of_condition, memory_after_run, started_system, after_start, can_finish, with_registers, overlaid, asked_of, after_condition}
use Rattle.model.proofs.lists.Lists.{update_at-comm, with_at-comm, get_or-update_at_other, map-same, has-IsIn, IsIn_left, IsIn_right}
use Rattle.model.proofs.serial.Conflicts.{ApartBy, WritesWithin, unseen, one_writer, unread_resource, one_setter, unread_event, one_sender}
use Rattle.model.proofs.serial.Within.{AllAmong, rows_of_each-match, words_written-within}
use Rattle.model.proofs.serial.Writes.{kinds_of-slots_after, within_same, slots_after-comm, rows_of-slots_after}
use Rattle.model.proofs.serial.Uses.{resources_after-comm, get_or-resources_after, values-same, queues_after-comm, queue_of-queues_after, has_event_numbers-queues_after, unread_of-same, end_cursors-same}

-- ---- what fits

-- whatever the body of a running system answers is written within, on these slots
pub record Fits (there : Option (List ℕ)) (s : Schedule) (p : RunningSystem) (slots : List Slot) : Type 0 where
  pub at : (cells : List (List (List (Option (List ℤ))))) → WritesWithin there (params_of s p.system).queries slots (words_written (params_of s p.system).queries p.shown.rows cells)

-- what fits still fits where the kinds are the same
pub fits_same : (there : Option (List ℕ)) (s : Schedule) (p : RunningSystem) (slots others : List Slot) → ((index : ℕ) → kinds_of (row_at others index) ≡ kinds_of (row_at slots index)) →
    Fits there s p slots → Fits there s p others
fits_same there s p slots others h f = record {
  at = λ cells.
      within_same there (params_of s p.system).queries slots others (words_written (params_of s p.system).queries p.shown.rows cells) h (f.at cells);
}

-- a system that starts fits
pub fits-started_system : (there : Option (List ℕ)) (s : Schedule) (n : ℕ) (run : RunState) → AllAmong there run.state.world.slots →
    Fits there s (started_system s n run) run.state.world.slots
unfolding started_system shown
fits-started_system there s n run all = record {
  at = λ cells.
      words_written-within there run.state.world.slots (params_of s n).queries (started_system s n run).shown.rows cells
      (rows_of_each-match there (params_of s n).queries (memory_of_system run.state n).last_run run.state.world.slots all);
}

-- what fits still fits after an overlay
pub fits-overlaid : (there : Option (List ℕ)) (s : Schedule) (p q : RunningSystem) (o : Outcome) (run : RunState) → Fits there s p run.state.world.slots →
    Fits there s p (overlaid s q o run).state.world.slots
unfolding overlaid
fits-overlaid there s p q o run f = fits_same there s p run.state.world.slots (overlaid s q o run).state.world.slots
    (kinds_of-slots_after q.tick (words_written (params_of s q.system).queries q.shown.rows o.cells) run.state.world.slots) f

-- after a start
pub fits-after_start : (there : Option (List ℕ)) (s : Schedule) (p : RunningSystem) (n : ℕ) (run : RunState) → Fits there s p run.state.world.slots → Fits there s p (after_start s n run).state.world.slots
unfolding after_start
fits-after_start there s p n run f = f

-- after a condition
pub fits-after_condition : (there : Option (List ℕ)) (s : Schedule) (p : RunningSystem) (c : ℕ) (run : RunState) → Fits there s p run.state.world.slots → Fits there s p (after_condition s c run).state.world.slots
unfolding after_condition
fits-after_condition there s p c run f = f

-- ---- two outcomes

-- two outcomes of systems that don't meet can be laid over in either order
pub overlaid-comm : (there : Option (List ℕ)) (s : Schedule) (p q : RunningSystem) (o r : Outcome) (run : RunState) → p.system ≢ q.system → ApartBy there (params_of s p.system) (params_of s q.system) →
    Fits there s p run.state.world.slots → Fits there s q run.state.world.slots → overlaid s p o (overlaid s q r run) ≡ overlaid s q r (overlaid s p o run)
unfolding overlaid
overlaid-comm there s p q o r run d a f g = λ i. record {
  state = record {
    world = record {
      slots = slots_after-comm p.tick q.tick
          (words_written (params_of s p.system).queries p.shown.rows o.cells) (words_written (params_of s q.system).queries q.shown.rows r.cells) run.state.world.slots
          (one_writer there (params_of s p.system) (params_of s q.system) run.state.world.slots
          (words_written (params_of s p.system).queries p.shown.rows o.cells) (words_written (params_of s q.system).queries q.shown.rows r.cells) a (f.at o.cells) (g.at r.cells)) i;
      resources = resources_after-comm p.tick q.tick
          (value_written (params_of s p.system).res_mut o.res_mut) (value_written (params_of s q.system).res_mut r.res_mut) run.state.world.resources
          (λ n. one_setter there (params_of s p.system) (params_of s q.system) o.res_mut r.res_mut n a) i;
      clock = run.state.world.clock;
    };
    events = queues_after-comm (events_sent (params_of s p.system).writes o.events) (events_sent (params_of s q.system).writes r.events) run.state.events
        (λ k. one_sender there (params_of s p.system) (params_of s q.system) o.events r.events k a) i;
    systems = update_at-comm p.system q.system (with_registers o.registers) (with_registers r.registers) run.state.systems d i;
    conditions = run.state.conditions;
    passed_over = run.state.passed_over;
  };
  buffers = with_at-comm p.system q.system o.commands r.commands run.buffers d i;
  grants = run.grants;
}

-- whether the events of one get numbers stays
pub can_finish-overlaid : (there : Option (List ℕ)) (s : Schedule) (p q : RunningSystem) (o r : Outcome) (run : RunState) → ApartBy there (params_of s p.system) (params_of s q.system) →
    can_finish s p.system o (overlaid s q r run) ≡ can_finish s p.system o run
unfolding can_finish overlaid
can_finish-overlaid there s p q o r run a =
    has_event_numbers-queues_after (events_sent (params_of s p.system).writes o.events) (events_sent (params_of s q.system).writes r.events) run.state.events
    (λ k. one_sender there (params_of s p.system) (params_of s q.system) o.events r.events k a)

-- ---- what another sees

-- the rows of a query of another access
pub rows_of-overlaid : (there : Option (List ℕ)) (s : Schedule) (p : RunningSystem) (o : Outcome) (run : RunState) (b : Params) (query : List Term) (last : ℕ) → ApartBy there (params_of s p.system) b →
    Fits there s p run.state.world.slots → IsIn query b.queries → rows_of query last (overlaid s p o run).state.world.slots ≡ rows_of query last run.state.world.slots
unfolding overlaid
rows_of-overlaid there s p o run b query last a f i =
    rows_of-slots_after query last p.tick (words_written (params_of s p.system).queries p.shown.rows o.cells) run.state.world.slots
    (unseen there (params_of s p.system) b run.state.world.slots (words_written (params_of s p.system).queries p.shown.rows o.cells) query a (f.at o.cells) i)

-- a resource that another access reads
pub resource-overlaid : (there : Option (List ℕ)) (s : Schedule) (p : RunningSystem) (o : Outcome) (run : RunState) (b : Params) (n : ℕ) → ApartBy there (params_of s p.system) b →
    IsIn n b.res ⊎ IsIn n b.res_mut → get_or (overlaid s p o run).state.world.resources n no_resource ≡ get_or run.state.world.resources n no_resource
unfolding overlaid
resource-overlaid there s p o run b n a (inl i) =
    get_or-resources_after p.tick (value_written (params_of s p.system).res_mut o.res_mut) run.state.world.resources n
    (unread_resource there (params_of s p.system) b o.res_mut n a (or_left (has n b.res) (has n b.res_mut) (has-IsIn n b.res i)))
resource-overlaid there s p o run b n a (inr i) =
    get_or-resources_after p.tick (value_written (params_of s p.system).res_mut o.res_mut) run.state.world.resources n
    (unread_resource there (params_of s p.system) b o.res_mut n a (or_right (has n b.res) (has n b.res_mut) (has-IsIn n b.res_mut i)))

-- the queue of an event kind that another access reads
pub queue-overlaid : (there : Option (List ℕ)) (s : Schedule) (p : RunningSystem) (o : Outcome) (run : RunState) (b : Params) (k : ℕ) → ApartBy there (params_of s p.system) b →
    IsIn k b.reads → queue_of (overlaid s p o run).state.events k ≡ queue_of run.state.events k
unfolding overlaid
queue-overlaid there s p o run b k a i =
    queue_of-queues_after (events_sent (params_of s p.system).writes o.events) run.state.events k
    (unread_event there (params_of s p.system) b o.events k a (or_left (has k b.reads) (has k b.writes) (has-IsIn k b.reads i)))

-- the ends of its readers' queues
pub end_cursors-overlaid : (there : Option (List ℕ)) (s : Schedule) (p : RunningSystem) (o : Outcome) (run : RunState) (b : Params) → ApartBy there (params_of s p.system) b →
    end_cursors (overlaid s p o run).state.events b.reads ≡ end_cursors run.state.events b.reads
end_cursors-overlaid there s p o run b a =
    end_cursors-same (overlaid s p o run).state.events run.state.events b.reads (λ k i. queue-overlaid there s p o run b k a i)

-- what is shown to another access
pub shown-overlaid : (there : Option (List ℕ)) (s : Schedule) (p : RunningSystem) (o : Outcome) (run : RunState) (b : Params) (memory : Memory) (ids : List Entity) → ApartBy there (params_of s p.system) b →
    Fits there s p run.state.world.slots → shown b memory (overlaid s p o run).state ids ≡ shown b memory run.state ids
unfolding shown
shown-overlaid there s p o run b memory ids a f = λ i. record {
  rows = map-same (λ query. rows_of query memory.last_run (overlaid s p o run).state.world.slots) (λ query. rows_of query memory.last_run run.state.world.slots) b.queries
      (λ query j. rows_of-overlaid there s p o run b query memory.last_run a f j) i;
  res = values-same (overlaid s p o run).state.world.resources run.state.world.resources b.res (λ n j. resource-overlaid there s p o run b n a (inl j)) i;
  res_mut = values-same (overlaid s p o run).state.world.resources run.state.world.resources b.res_mut (λ n j. resource-overlaid there s p o run b n a (inr j)) i;
  unread = unread_of-same (overlaid s p o run).state.events run.state.events b.reads memory.cursors (λ k j. queue-overlaid there s p o run b k a j) i;
  registers = memory.registers;
  granted = ids;
}

-- ---- a start beside an outcome

-- the memory of another system
memory_of_system-overlaid : (s : Schedule) (n : ℕ) (p : RunningSystem) (o : Outcome) (run : RunState) → p.system ≢ n →
    memory_of_system (overlaid s p o run).state n ≡ memory_of_system run.state n
unfolding overlaid
memory_of_system-overlaid s n p o run d = get_or-update_at_other p.system n (with_registers o.registers) run.state.systems no_memory d

-- the ids of another system
grants-overlaid : (s : Schedule) (n : ℕ) (p : RunningSystem) (o : Outcome) (run : RunState) → (overlaid s p o run).grants n ≡ run.grants n
unfolding overlaid
grants-overlaid s n p o run = refl

-- the tick stays
next_tick-overlaid : (s : Schedule) (p : RunningSystem) (o : Outcome) (run : RunState) → next_tick (overlaid s p o run).state ≡ next_tick run.state
unfolding overlaid
next_tick-overlaid s p o run = refl

-- whether there is a next tick stays
pub has_tick-overlaid : (s : Schedule) (p : RunningSystem) (o : Outcome) (run : RunState) → has_tick (overlaid s p o run).state ≡ has_tick run.state
unfolding overlaid
has_tick-overlaid s p o run = refl

-- another system starts with the same
pub started_system-overlaid : (there : Option (List ℕ)) (s : Schedule) (n : ℕ) (p : RunningSystem) (o : Outcome) (run : RunState) → p.system ≢ n → ApartBy there (params_of s p.system) (params_of s n) →
    Fits there s p run.state.world.slots → started_system s n (overlaid s p o run) ≡ started_system s n run
unfolding started_system
started_system-overlaid there s n p o run d a f = λ i. record {
  system = n;
  tick = next_tick-overlaid s p o run i;
  shown = (ap₂ (λ memory ids. shown (params_of s n) memory (overlaid s p o run).state ids) (memory_of_system-overlaid s n p o run d) (grants-overlaid s n p o run)
      ∙ shown-overlaid there s p o run (params_of s n) (memory_of_system run.state n) (run.grants n) a f) i;
}

-- the memories after a start and an outcome
systems-after_start : (tick m n : ℕ) (registers : List ℤ) (reads : List ℕ) (queues others : List EventQueue) (systems : List Memory) → n ≢ m →
    end_cursors queues reads ≡ end_cursors others reads →
    update_at n (memory_after_run tick reads queues) (update_at m (with_registers registers) systems)
    ≡ update_at m (with_registers registers) (update_at n (memory_after_run tick reads others) systems)
systems-after_start tick m n registers reads queues others systems d e =
    ap (λ (cursors : List ℕ). update_at n (λ (memory : Memory). record { last_run = tick; cursors = cursors; registers = memory.registers }) (update_at m (with_registers registers) systems)) e
    ∙ update_at-comm n m (memory_after_run tick reads others) (with_registers registers) systems d

-- an outcome laid over before a start is laid over after it
pub after_start-overlaid : (there : Option (List ℕ)) (s : Schedule) (n : ℕ) (p : RunningSystem) (o : Outcome) (run : RunState) → p.system ≢ n → ApartBy there (params_of s p.system) (params_of s n) →
    after_start s n (overlaid s p o run) ≡ overlaid s p o (after_start s n run)
unfolding after_start overlaid
after_start-overlaid there s n p o run d a = λ i. record {
  state = record {
    world = record {
      slots = slots_after p.tick (words_written (params_of s p.system).queries p.shown.rows o.cells) run.state.world.slots;
      resources = resources_after p.tick (value_written (params_of s p.system).res_mut o.res_mut) run.state.world.resources;
      clock = next_tick run.state;
    };
    events = queues_after (events_sent (params_of s p.system).writes o.events) run.state.events;
    systems = systems-after_start (next_tick run.state) p.system n o.registers (params_of s n).reads (overlaid s p o run).state.events run.state.events run.state.systems
        (λ e. d (sym e)) (end_cursors-overlaid there s p o run (params_of s n) a) i;
    conditions = run.state.conditions;
    passed_over = run.state.passed_over;
  };
  buffers = with_at p.system o.commands run.buffers;
  grants = run.grants;
}

-- whether the events of an outcome get numbers stays after a start
pub can_finish-after_start : (s : Schedule) (n m : ℕ) (o : Outcome) (run : RunState) → can_finish s m o (after_start s n run) ≡ can_finish s m o run
unfolding can_finish after_start
can_finish-after_start s n m o run = refl

-- ---- a condition beside an outcome

-- what a condition is asked about, where what it reads is the same
pub asked-same : (c : Condition) (last : ℕ) (cursors : List ℕ) (w v : State) →
    ((query : List Term) → IsIn query (queries_of c) → rows_of query last w.world.slots ≡ rows_of query last v.world.slots) →
    ((n : ℕ) → IsIn n (resources_of c) → get_or w.world.resources n no_resource ≡ get_or v.world.resources n no_resource) →
    ((k : ℕ) → IsIn k (events_of c) → queue_of w.events k ≡ queue_of v.events k) → asked c last cursors w ≡ asked c last cursors v
asked-same RunOnce last cursors w v f g h = refl
asked-same (ResourceEquals n x) last cursors w v f g h = ap (λ (r : Resource). Value r.value) (g n (inl refl))
asked-same (ResourceAtLeast n x) last cursors w v f g h = ap (λ (r : Resource). Value r.value) (g n (inl refl))
asked-same (ResourceChanged n) last cursors w v f g h = ap (λ (r : Resource). IsNewer (nat_lt last r.changed)) (g n (inl refl))
asked-same (AnyWith q) last cursors w v f g h = ap Rows (f q (inl refl))
asked-same (OnEvent k) last cursors w v f g h = ap (λ q. Unread (unread q (head_or 0 cursors))) (h k (inl refl))
asked-same (Not c) last cursors w v f g h = asked-same c last cursors w v f g h
asked-same (And c d) last cursors w v f g h = ap₂ Both
    (asked-same c last cursors w v (λ q i. f q (IsIn_left q (queries_of c) (queries_of d) i)) (λ n i. g n (IsIn_left n (resources_of c) (resources_of d) i))
    (λ k i. h k (IsIn_left k (events_of c) (events_of d) i)))
    (asked-same d last (cursors_after c cursors) w v (λ q i. f q (IsIn_right q (queries_of c) (queries_of d) i)) (λ n i. g n (IsIn_right n (resources_of c) (resources_of d) i))
    (λ k i. h k (IsIn_right k (events_of c) (events_of d) i)))
asked-same (Or c d) last cursors w v f g h = ap₂ Both
    (asked-same c last cursors w v (λ q i. f q (IsIn_left q (queries_of c) (queries_of d) i)) (λ n i. g n (IsIn_left n (resources_of c) (resources_of d) i))
    (λ k i. h k (IsIn_left k (events_of c) (events_of d) i)))
    (asked-same d last (cursors_after c cursors) w v (λ q i. f q (IsIn_right q (queries_of c) (queries_of d) i)) (λ n i. g n (IsIn_right n (resources_of c) (resources_of d) i))
    (λ k i. h k (IsIn_right k (events_of c) (events_of d) i)))

-- a condition is asked about the same
pub asked_of-overlaid : (there : Option (List ℕ)) (s : Schedule) (c : ℕ) (p : RunningSystem) (o : Outcome) (run : RunState) → ApartBy there (params_of s p.system) (access_of s c) →
    Fits there s p run.state.world.slots → asked_of s c (overlaid s p o run) ≡ asked_of s c run
unfolding asked_of overlaid
asked_of-overlaid there s c p o run a f =
    asked-same (condition_of s c) (memory_of_condition run.state c).last_run (memory_of_condition run.state c).cursors (overlaid s p o run).state run.state
    (λ query i. rows_of-overlaid there s p o run (access_of s c) query (memory_of_condition run.state c).last_run a f i)
    (λ n i. resource-overlaid there s p o run (access_of s c) n a (inl i))
    (λ k i. queue-overlaid there s p o run (access_of s c) k a i)

-- an outcome laid over before a condition is laid over after it
pub after_condition-overlaid : (there : Option (List ℕ)) (s : Schedule) (c : ℕ) (p : RunningSystem) (o : Outcome) (run : RunState) → ApartBy there (params_of s p.system) (access_of s c) →
    after_condition s c (overlaid s p o run) ≡ overlaid s p o (after_condition s c run)
unfolding after_condition overlaid
after_condition-overlaid there s c p o run a = λ i. record {
  state = record {
    world = record {
      slots = slots_after p.tick (words_written (params_of s p.system).queries p.shown.rows o.cells) run.state.world.slots;
      resources = resources_after p.tick (value_written (params_of s p.system).res_mut o.res_mut) run.state.world.resources;
      clock = next_tick run.state;
    };
    events = queues_after (events_sent (params_of s p.system).writes o.events) run.state.events;
    systems = update_at p.system (with_registers o.registers) run.state.systems;
    conditions = update_at c
        (λ (memory : Memory). record { last_run = next_tick run.state; cursors = end_cursors-overlaid there s p o run (access_of s c) a i; registers = memory.registers }) run.state.conditions;
    passed_over = run.state.passed_over;
  };
  buffers = with_at p.system o.commands run.buffers;
  grants = run.grants;
}

-- whether the events of an outcome get numbers stays after a condition
pub can_finish-after_condition : (s : Schedule) (c m : ℕ) (o : Outcome) (run : RunState) → can_finish s m o (after_condition s c run) ≡ can_finish s m o run
unfolding can_finish after_condition
can_finish-after_condition s c m o run = refl
