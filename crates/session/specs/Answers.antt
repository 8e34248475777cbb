-- The session as a machine: what a request may be replied, and what it leaves.
use Rattle.std.specs.Prelude.{ℕ, ◌≡◌, ◌⊎◌, Bool, true, false, List, [], Some}
use Rattle.model.specs.access.Access.{Params}
use Rattle.model.specs.shown.Outcome.{BodyMeaning}
use Rattle.model.specs.state.State.{State}
use Rattle.model.specs.steps.Schedule.{Recorded}
use Rattle.model.specs.state.Commands.{is_alive}
use Rattle.model.specs.runs.Causes.Cause.{NoTick, NoIds, NoEventNumber}
use Rattle.model.specs.sessions.Inputs as inputs
use Rattle.model.specs.sessions.Inputs.{after_input, can_input, cause_of_input, next_id}
use Rattle.model.specs.sessions.Inputs.{Input as input}
use Rattle.engine.specs.EngineValue.{mended_with, with_state}
use Rattle.engine.specs.RunsAs.{RunsAs}
use Rattle.engine.specs.Stops.{StopsAs}
use Rattle.engine.specs.declared.faults.RunFault.{RunFault}
use Rattle.requests.specs.Asked.{Asked}
use Rattle.requests.specs.Asked.Asked.{Hello, Run, Put, Mark, Back, Forget, Quit, Save}
use Rattle.session.specs.Live.{Live, with_engine, with_marks, is_lost, state_in, clock_in, meant_in}
use Rattle.session.specs.Looks.{seen_by}
use Rattle.session.specs.Marks.{can_keep, is_kept, kept_at, with_mark, without}
use Rattle.session.specs.Saved.{saved_text}
use Rattle.session.specs.Replies.{shown_text, id_line, changed_line}
use Rattle.session.specs.declared.reply.Refusal.{Refusal}
use Rattle.session.specs.declared.reply.Refusal.TheVariants as refusal
use Rattle.session.specs.declared.reply.Reply.{Reply}
use Rattle.session.specs.declared.reply.Reply.TheVariants.{Done, Refused, Failed, Lost}

-- ---- inputs

-- the lines of an input that a state takes: the id of a new entity, and whether an entity that is named lives
abbrev pub lines_of_input : inputs.Input → State → List ℕ
lines_of_input (input.Spawn given) w = id_line (next_id w.world.slots)
lines_of_input (input.Insert e kind words) w = changed_line (is_alive w.world.slots e)
lines_of_input (input.Remove e kind) w = changed_line (is_alive w.world.slots e)
lines_of_input (input.Despawn e) w = changed_line (is_alive w.world.slots e)
lines_of_input _ w = []

-- ---- runs

-- nothing but the state is another, and the bodies mean what they meant
pub record Stays {B : Type 0} (meaning : B → Params → BodyMeaning) (old new : Live B) : Type 0 where
  pub schedule : new.engine.schedule ≡ old.engine.schedule
  pub meant : meant_in meaning new ≡ meant_in meaning old
  pub marks : new.marks ≡ old.marks
  pub file : new.file ≡ old.file
  pub greeting : new.greeting ≡ old.greeting

-- so many runs lead from the one state to the other
pub record HasRun {B : Type 0} (meaning : B → Params → BodyMeaning) (width times : ℕ) (old new : Live B) : Type 0 where
  pub there : is_lost old ≡ false
  pub traces : List Recorded
  pub runs : RunsAs width old.engine.schedule (meant_in meaning old) times (state_in old) (state_in new) traces
  pub sound : is_lost new ≡ false
  pub stays : Stays meaning old new

-- so many runs stop for a fault, and the state is lost
pub record HasLost {B : Type 0} (meaning : B → Params → BodyMeaning) (scope : Bool) (width times : ℕ) (old : Live B) (fault : RunFault) (new : Live B) : Type 0 where
  pub there : is_lost old ≡ false
  pub reason : StopsAs scope width old.engine.schedule (meant_in meaning old) times (state_in old) fault
  pub lost : is_lost new ≡ true
  pub stays : Stays meaning old new

-- ---- what is done

-- a look at the state shows some lines, and changes nothing
pub record HasLooked {B : Type 0} (old new : Live B) (shown seen : List ℕ) : Type 0 where
  pub there : is_lost old ≡ false
  pub lines : shown ≡ seen
  pub same : new ≡ old

-- an input was taken
pub record HasPut {B : Type 0} (put : inputs.Input) (old new : Live B) (shown : List ℕ) : Type 0 where
  pub there : is_lost old ≡ false
  pub can : can_input put (state_in old) ≡ true
  pub lines : shown ≡ lines_of_input put (state_in old)
  pub taken : new ≡ with_engine (with_state (after_input put (state_in old)) old.engine) old

-- the state was kept under a name
pub record HasMarked {B : Type 0} (name : List ℕ) (old new : Live B) : Type 0 where
  pub there : is_lost old ≡ false
  pub room : can_keep name old.marks ≡ true
  pub kept : new ≡ with_marks (with_mark name (state_in old) old.marks) old

-- the state is the one that is kept under a name
pub record HasGoneBack {B : Type 0} (name : List ℕ) (old new : Live B) : Type 0 where
  pub state : State
  pub kept : kept_at name old.marks ≡ Some state
  pub back : new ≡ with_engine (mended_with state old.engine) old

-- what a request does, with the lines that it shows
abbrev pub IsDone : {B : Type 0} → (B → Params → BodyMeaning) → ℕ → Live B → Asked → List ℕ → Live B → Type 0
IsDone meaning width old Hello shown new = (shown ≡ old.greeting) × (new ≡ old)
IsDone meaning width old (Run times) shown new = (shown ≡ []) × HasRun meaning width times old new
IsDone meaning width old (Put put) shown new = HasPut put old new shown
IsDone meaning width old (Mark name) shown new = (shown ≡ []) × HasMarked name old new
IsDone meaning width old (Back name) shown new = (shown ≡ []) × HasGoneBack name old new
IsDone meaning width old (Forget name) shown new = (shown ≡ []) × (is_kept name old.marks ≡ true) × (new ≡ with_marks (without name old.marks) old)
IsDone meaning width old Quit shown new = (shown ≡ []) × (new ≡ old)
IsDone meaning width old Save shown new = HasLooked old new shown (saved_text old.file (state_in old))
IsDone meaning width old look shown new = HasLooked old new shown (seen_by look (state_in old))

-- ---- what is refused

-- whether a request asks for a state
abbrev pub needs_state : Asked → Bool
needs_state Hello = false
needs_state (Back name) = false
needs_state (Forget name) = false
needs_state Quit = false
needs_state _ = true

-- an input isn't taken
abbrev pub IsUntaken : {B : Type 0} → Live B → inputs.Input → Refusal → Type 0
IsUntaken old put refusal.ClockSpent = (cause_of_input put (state_in old) ≡ Some NoTick) ⊎ (cause_of_input put (state_in old) ≡ Some NoEventNumber)
IsUntaken old put refusal.IdsSpent = cause_of_input put (state_in old) ≡ Some NoIds
IsUntaken old put _ = ⊥

-- why a request is refused where the state is there, or isn't asked for
abbrev pub IsRefused : {B : Type 0} → Live B → Asked → Refusal → Type 0
IsRefused old (Put put) why = IsUntaken old put why
IsRefused old (Mark name) refusal.ManyMarks = can_keep name old.marks ≡ false
IsRefused old (Back name) refusal.NoMark = is_kept name old.marks ≡ false
IsRefused old (Forget name) refusal.NoMark = is_kept name old.marks ≡ false
IsRefused old _ _ = ⊥

-- why a request is refused
abbrev pub IsRefusedFor : {B : Type 0} → Live B → Asked → Refusal → Type 0
IsRefusedFor old request refusal.Lost = (is_lost old ≡ true) × (needs_state request ≡ true)
IsRefusedFor old request why = IsRefused old request why

-- ---- replies

-- a run is lost
abbrev pub IsLostBy : {B : Type 0} → (B → Params → BodyMeaning) → Bool → ℕ → Live B → Asked → RunFault → Live B → Type 0
IsLostBy meaning scope width old (Run times) fault new = HasLost meaning scope width times old fault new
IsLostBy meaning scope width old _ fault new = ⊥

-- whether a request may be refused memory, and then changes nothing: where a run is, its state is lost
abbrev pub takes_memory : Asked → Bool
takes_memory (Run times) = false
takes_memory (Forget name) = false
takes_memory Quit = false
takes_memory _ = true

-- what a request may be replied by a session, with room for so many running systems, in threads or not, and what it leaves. An allocation may
-- fail at any time, and nothing has changed then
abbrev pub IsAnswer : {B : Type 0} → (B → Params → BodyMeaning) → Bool → ℕ → Live B → Asked → Reply → Live B → Type 0
IsAnswer meaning scope width old request (Done clock shown) new = (clock ≡ clock_in new) × IsDone meaning width old request (shown_text shown) new
IsAnswer meaning scope width old request (Refused why) new = (new ≡ old) × IsRefusedFor old request why
IsAnswer meaning scope width old request Failed new = (takes_memory request ≡ true) × (new ≡ old)
IsAnswer meaning scope width old request (Lost fault) new = IsLostBy meaning scope width old request fault new
