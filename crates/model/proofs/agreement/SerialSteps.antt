-- What each step does to a run state on one thread, with no test; and two steps that are apart.
use Rattle.std.proofs.Common.{ℕ, Bool, false, cond, ◌==◌, ◌≡◌, List, [], None, Result, Ok, Err, refl, sym, ap, ap₂, ◌∙◌, subst, subst₂}
use Rattle.std.specs.Option.{is_some}
use Rattle.std.proofs.lemmas.Bool.{cond_both, eqb-true}
use Rattle.model.specs.declared.steps.Step.{Step}
use Rattle.model.specs.declared.steps.Step.TheVariants.{Cond, Start, Skip, Finish, Sync}
use Rattle.model.specs.Lists.{with_at}
use Rattle.model.specs.state.State.{Entity, State}
use Rattle.model.specs.shown.Input.{Shown, shown}
use Rattle.model.specs.shown.Outcome.{Command, Outcome, BodyMeaning, words_written}
use Rattle.model.specs.access.Condition.{means}
use Rattle.model.specs.steps.Schedule.{Schedule, params_of, condition_of}
use Rattle.model.specs.steps.Ambiguity.{Settled}
use Rattle.model.specs.runs.RunState.{RunState, body_of, memory_of_system, after_sync}
use Rattle.model.specs.state.Agreement.{Observer, Agrees}
use Rattle.model.specs.state.Agreement.Observer.{OfSystem, OfCondition}
use Rattle.model.proofs.lists.Lists.{with_at-comm}
use Rattle.model.proofs.serial.Within.{words_written-within, rows_of_each-match}
use Rattle.model.proofs.agreement.Marks.{Marks, Can}
use Rattle.model.proofs.agreement.Swaps.{AreApart, StepsApart, are_apart_swap}
use Rattle.model.proofs.agreement.Visits.{Effect, Fits, come}
use Rattle.model.proofs.agreement.Stamps.{IsKnown, IsTimed, timed-visit}
use Rattle.model.proofs.agreement.Agreement.{agrees-visit, agrees-swap}
use Rattle.model.proofs.agreement.ShownAlike.{LooksSame, shown_at, asked_at, shown-same, asked_at-same, looks-agree, looks-visit}
use Rattle.model.proofs.agreement.Levels.{RunsAlike, IsQuiet, alike_refl, alike-sync, timed-sync, quiet-sync}

-- ---- effects

-- nothing is written
abbrev pub no_effect : Effect
no_effect = record { words = λ e k. None; values = []; sent = []; commands = []; registers = [] }

-- the commands that a system leaves: none where it has none to leave
abbrev pub commands_left : Schedule → ℕ → List Command → List Command
commands_left s n commands = cond (is_some (params_of s n).spawns) commands []

-- what an answer of a body writes, on what it was shown. A refusal writes nothing
abbrev pub effect_of : Schedule → ℕ → Shown → Result Outcome ℕ → Effect
effect_of s n sh (Err refusal) = no_effect
effect_of s n sh (Ok o) = record {
  words = words_written (params_of s n).queries sh.rows o.cells;
  values = o.res_mut;
  sent = o.events;
  commands = commands_left s n o.commands;
  registers = o.registers;
}

-- what an observer writes in a state, where systems are given these ids
abbrev pub effect_by : Schedule → List BodyMeaning → (ℕ → List Entity) → Observer → State → Effect
effect_by s bodies given (OfSystem n) w = effect_of s n (shown_at s n (given n) w) (body_of bodies n (shown_at s n (given n) w))
effect_by s bodies given (OfCondition c) w = no_effect

-- a state after an observer ran whole
abbrev pub enter : Schedule → List BodyMeaning → (ℕ → List Entity) → Observer → State → State
enter s bodies given a w = come s a (effect_by s bodies given a w) w

-- nothing fits
no_effect-fits : (s : Schedule) (a : Observer) (w : State) → Fits s a no_effect w.world.slots
no_effect-fits s a w = record { at = λ e k x h. absurd (cc); among = λ e k x h. absurd (cc) }

-- what an answer writes fits
answer-fits : (s : Schedule) (n : ℕ) (ids : List Entity) (w : State) (answer : Result Outcome ℕ)
    → Fits s (OfSystem n) (effect_of s n (shown_at s n ids w) answer) w.world.slots
unfolding shown
answer-fits s n ids w (Err refusal) = no_effect-fits s (OfSystem n) w
answer-fits s n ids w (Ok o) = words_written-within None w.world.slots (params_of s n).queries _ o.cells
    (rows_of_each-match None (params_of s n).queries (memory_of_system w n).last_run w.world.slots (λ index l. tt))

-- what an observer writes fits
pub effect-fits : (s : Schedule) (bodies : List BodyMeaning) (given : ℕ → List Entity) (a : Observer) (w : State)
    → Fits s a (effect_by s bodies given a w) w.world.slots
effect-fits s bodies given (OfSystem n) w = answer-fits s n (given n) w (body_of bodies n (shown_at s n (given n) w))
effect-fits s bodies given (OfCondition c) w = no_effect-fits s (OfCondition c) w

-- in states that look the same an observer writes the same
pub effect-same : (s : Schedule) (bodies : List BodyMeaning) (given : ℕ → List Entity) (a : Observer) (v w : State) → LooksSame s a v w
    → effect_by s bodies given a v ≡ effect_by s bodies given a w
effect-same s bodies given (OfSystem n) v w h = ap (λ sh. effect_of s n sh (body_of bodies n sh)) (shown-same s n (given n) v w h)
effect-same s bodies given (OfCondition c) v w h = refl

-- an observer writes the same after a turn that is apart
effect-enter : (s : Schedule) (bodies : List BodyMeaning) (given : ℕ → List Entity) (a b : Observer) (w : State) → AreApart s a b
    → effect_by s bodies given b (enter s bodies given a w) ≡ effect_by s bodies given b w
effect-enter s bodies given a b w h = effect-same s bodies given b (enter s bodies given a w) w
    (looks-visit s a b (effect_by s bodies given a w) w h (effect-fits s bodies given a w))

-- a system without commands leaves none
effect-quiet : (s : Schedule) (n : ℕ) (sh : Shown) (answer : Result Outcome ℕ) → is_some (params_of s n).spawns ≡ false → (effect_of s n sh answer).commands ≡ []
effect-quiet s n sh (Err refusal) none = refl
effect-quiet s n sh (Ok o) none = ap (λ b. cond b o.commands []) none

-- ---- an observer's turn

-- the commands left after a turn
abbrev pub buffers_after : Observer → Effect → (ℕ → List Command) → ℕ → List Command
buffers_after (OfSystem n) e buffers = with_at n e.commands buffers
buffers_after (OfCondition c) e buffers = buffers

-- a run state after an observer ran whole
abbrev pub turn : Schedule → List BodyMeaning → Observer → RunState → RunState
turn s bodies a run = record {
  state = enter s bodies run.grants a run.state;
  buffers = buffers_after a (effect_by s bodies run.grants a run.state) run.buffers;
  grants = run.grants;
}

-- run states that are alike stay so after a turn
alike-turn : (s : Schedule) (bodies : List BodyMeaning) (a : Observer) (v w : RunState) → IsKnown s a → IsTimed s v.state → IsTimed s w.state → RunsAlike s v w
    → RunsAlike s (turn s bodies a v) (turn s bodies a w)
alike-turn s bodies a v w known tv tw h = record {
  states = subst (λ e. Agrees s (enter s bodies v.grants a v.state) (come s a e w.state)) same
      (agrees-visit s a (effect_by s bodies v.grants a v.state) v.state w.state known tv tw h.states);
  buffers = ap₂ (buffers_after a) same h.buffers;
  grants = h.grants;
}
  where
    same : effect_by s bodies v.grants a v.state ≡ effect_by s bodies w.grants a w.state
    same = effect-same s bodies v.grants a v.state w.state (looks-agree s v.state w.state a h.states)
        ∙ ap (λ given. effect_by s bodies given a w.state) h.grants

-- two turns are two visits
two-turns : (s : Schedule) (bodies : List BodyMeaning) (given : ℕ → List Entity) (a b : Observer) (w : State) → AreApart s a b
    → come s b (effect_by s bodies given b w) (enter s bodies given a w) ≡ enter s bodies given b (enter s bodies given a w)
two-turns s bodies given a b w h = ap (λ e. come s b e (enter s bodies given a w)) (sym (effect-enter s bodies given a b w h))

-- the states after two turns that are apart, in either order
enter-swap : (s : Schedule) (bodies : List BodyMeaning) (given : ℕ → List Entity) (a b : Observer) (w : State) → IsKnown s a → IsKnown s b → IsTimed s w
    → AreApart s a b → Agrees s (enter s bodies given b (enter s bodies given a w)) (enter s bodies given a (enter s bodies given b w))
enter-swap s bodies given a b w ka kb timed h =
    subst₂ (Agrees s) (two-turns s bodies given a b w h) (two-turns s bodies given b a w (are_apart_swap s a b h))
    (agrees-swap s a b (effect_by s bodies given a w) (effect_by s bodies given b w) w ka kb timed h (are_apart_swap s a b h)
    (effect-fits s bodies given a w) (effect-fits s bodies given b w))

-- the commands left by two who are two, in either order
buffers-swap : (a b : Observer) (e f : Effect) (buffers : ℕ → List Command) → (a ≡ b → ⊥)
    → buffers_after b f (buffers_after a e buffers) ≡ buffers_after a e (buffers_after b f buffers)
buffers-swap (OfSystem m) (OfSystem n) e f buffers d = with_at-comm n m f.commands e.commands buffers (λ q. d (ap OfSystem (sym q)))
buffers-swap (OfSystem m) (OfCondition c) e f buffers d = refl
buffers-swap (OfCondition c) (OfSystem n) e f buffers d = refl
buffers-swap (OfCondition c) (OfCondition d) e f buffers q = refl

-- two turns that are apart lead to run states that are alike in either order
turn-swap : (s : Schedule) (bodies : List BodyMeaning) (a b : Observer) (run : RunState) → IsKnown s a → IsKnown s b → IsTimed s run.state → AreApart s a b
    → RunsAlike s (turn s bodies b (turn s bodies a run)) (turn s bodies a (turn s bodies b run))
turn-swap s bodies a b run ka kb timed h = record {
  states = enter-swap s bodies run.grants a b run.state ka kb timed h;
  buffers = ap (λ e. buffers_after b e (buffers_after a first run.buffers)) (effect-enter s bodies run.grants a b run.state h)
      ∙ (buffers-swap a b first second run.buffers h.differ
      ∙ ap (λ e. buffers_after a e (buffers_after b second run.buffers)) (sym (effect-enter s bodies run.grants b a run.state (are_apart_swap s a b h))));
  grants = refl;
}
  where
    first : Effect
    first = effect_by s bodies run.grants a run.state

    second : Effect
    second = effect_by s bodies run.grants b run.state

-- a turn leaves nothing of a system without commands
quiet-turn : (s : Schedule) (bodies : List BodyMeaning) (a : Observer) (run : RunState) → IsQuiet s run → IsQuiet s (turn s bodies a run)
quiet-turn s bodies (OfSystem n) run quiet = record {
  buffers = λ m none. cond_both (m == n) (effect_by s bodies run.grants (OfSystem n) run.state).commands (run.buffers m) (λ commands. commands ≡ [])
      (λ same. effect-quiet s n (shown_at s n (run.grants n) run.state) (body_of bodies n (shown_at s n (run.grants n) run.state))
      (subst (λ i. is_some (params_of s i).spawns ≡ false) (eqb-true m n same) none))
      (λ other. quiet.buffers m none);
  grants = quiet.grants;
}
quiet-turn s bodies (OfCondition c) run quiet = record { buffers = quiet.buffers; grants = quiet.grants }

-- ---- steps

-- the run state after a step
abbrev pub after : Schedule → List BodyMeaning → Step → RunState → RunState
after s bodies (Cond c answer) run = turn s bodies (OfCondition c) run
after s bodies (Start n) run = turn s bodies (OfSystem n) run
after s bodies (Skip n) run = run
after s bodies (Finish n) run = run
after s bodies (Sync k) run = after_sync s k run

-- a step tells a condition's answer
abbrev pub Tells : Schedule → Step → State → Type 0
Tells s (Cond c answer) w = answer ≡ means (condition_of s c) (asked_at s c w)
Tells s step w = Unit {0}

-- a step keeps the time
pub timed-after : (s : Schedule) (bodies : List BodyMeaning) (m : Marks) (x : Step) (run : RunState) → Can s m x → IsTimed s run.state
    → IsTimed s (after s bodies x run).state
timed-after s bodies m (Cond c answer) run can timed = timed-visit s (OfCondition c) no_effect run.state can.known timed
timed-after s bodies m (Start n) run can timed =
    timed-visit s (OfSystem n) (effect_by s bodies run.grants (OfSystem n) run.state) run.state can.free.known timed
timed-after s bodies m (Skip n) run can timed = timed
timed-after s bodies m (Finish n) run can timed = timed
timed-after s bodies m (Sync k) run can timed = timed-sync s k run timed

-- a step leaves and grants nothing to a system without commands
pub quiet-after : (s : Schedule) (bodies : List BodyMeaning) (x : Step) (run : RunState) → IsQuiet s run → IsQuiet s (after s bodies x run)
quiet-after s bodies (Cond c answer) run quiet = quiet-turn s bodies (OfCondition c) run quiet
quiet-after s bodies (Start n) run quiet = quiet-turn s bodies (OfSystem n) run quiet
quiet-after s bodies (Skip n) run quiet = quiet
quiet-after s bodies (Finish n) run quiet = quiet
quiet-after s bodies (Sync k) run quiet = quiet-sync s k run quiet

-- run states that are alike stay so after a step
pub alike-after : (s : Schedule) (bodies : List BodyMeaning) (m : Marks) (x : Step) (v w : RunState) → Settled s → Can s m x → IsTimed s v.state → IsTimed s w.state
    → IsQuiet s v → IsQuiet s w → RunsAlike s v w → RunsAlike s (after s bodies x v) (after s bodies x w)
alike-after s bodies m (Cond c answer) v w settled can tv tw qv qw h = alike-turn s bodies (OfCondition c) v w can.known tv tw h
alike-after s bodies m (Start n) v w settled can tv tw qv qw h = alike-turn s bodies (OfSystem n) v w can.free.known tv tw h
alike-after s bodies m (Skip n) v w settled can tv tw qv qw h = h
alike-after s bodies m (Finish n) v w settled can tv tw qv qw h = h
alike-after s bodies m (Sync k) v w settled can tv tw qv qw h = alike-sync s k v w settled qv qw h

-- an answer is the same in states that agree
pub tells-agree : (s : Schedule) (x : Step) (v w : State) → Agrees s v w → Tells s x v → Tells s x w
tells-agree s (Cond c answer) v w h told = told ∙ ap (means (condition_of s c)) (asked_at-same s c v w (looks-agree s v w (OfCondition c) h))
tells-agree s (Start n) v w h told = tt
tells-agree s (Skip n) v w h told = tt
tells-agree s (Finish n) v w h told = tt
tells-agree s (Sync k) v w h told = tt

-- an answer is the same after a turn that is apart
tells-enter : (s : Schedule) (bodies : List BodyMeaning) (given : ℕ → List Entity) (a : Observer) (c : ℕ) (answer : Bool) (w : State) → AreApart s a (OfCondition c)
    → Tells s (Cond c answer) w → Tells s (Cond c answer) (enter s bodies given a w)
tells-enter s bodies given a c answer w h told = told ∙ ap (means (condition_of s c))
    (sym (asked_at-same s c (enter s bodies given a w) w
    (looks-visit s a (OfCondition c) (effect_by s bodies given a w) w h (effect-fits s bodies given a w))))

-- an answer is the same after a step that is apart
pub tells-after : (s : Schedule) (bodies : List BodyMeaning) (x y : Step) (run : RunState) → StepsApart s x y → Tells s y run.state → Tells s y (after s bodies x run).state
tells-after s bodies (Start i) (Cond c answer) run h told = tells-enter s bodies run.grants (OfSystem i) c answer run.state h told
tells-after s bodies (Cond d b) (Cond c answer) run h told = tells-enter s bodies run.grants (OfCondition d) c answer run.state h told
tells-after s bodies (Skip i) (Cond c answer) run h told = told
tells-after s bodies (Finish i) (Cond c answer) run h told = absurd h
tells-after s bodies (Sync k) (Cond c answer) run h told = absurd h
tells-after s bodies x (Start n) run h told = tt
tells-after s bodies x (Skip n) run h told = tt
tells-after s bodies x (Finish n) run h told = tt
tells-after s bodies x (Sync k) run h told = tt

-- two steps that are apart lead to run states that are alike in either order
pub after-swap : (s : Schedule) (bodies : List BodyMeaning) (m : Marks) (x y : Step) (run : RunState) → Can s m x → Can s m y → StepsApart s x y → IsTimed s run.state
    → RunsAlike s (after s bodies y (after s bodies x run)) (after s bodies x (after s bodies y run))
after-swap s bodies m (Start i) (Start j) run can could h timed = turn-swap s bodies (OfSystem i) (OfSystem j) run can.free.known could.free.known timed h
after-swap s bodies m (Start i) (Cond d b) run can could h timed = turn-swap s bodies (OfSystem i) (OfCondition d) run can.free.known could.known timed h
after-swap s bodies m (Start i) (Skip j) run can could h timed = alike_refl s _
after-swap s bodies m (Start i) (Finish j) run can could h timed = absurd h
after-swap s bodies m (Start i) (Sync j) run can could h timed = absurd h
after-swap s bodies m (Cond c a) (Start j) run can could h timed = turn-swap s bodies (OfCondition c) (OfSystem j) run can.known could.free.known timed h
after-swap s bodies m (Cond c a) (Cond d b) run can could h timed = turn-swap s bodies (OfCondition c) (OfCondition d) run can.known could.known timed h
after-swap s bodies m (Cond c a) (Skip j) run can could h timed = alike_refl s _
after-swap s bodies m (Cond c a) (Finish j) run can could h timed = absurd h
after-swap s bodies m (Cond c a) (Sync j) run can could h timed = absurd h
after-swap s bodies m (Skip i) (Start j) run can could h timed = alike_refl s _
after-swap s bodies m (Skip i) (Cond d b) run can could h timed = alike_refl s _
after-swap s bodies m (Skip i) (Skip j) run can could h timed = alike_refl s _
after-swap s bodies m (Skip i) (Finish j) run can could h timed = absurd h
after-swap s bodies m (Skip i) (Sync j) run can could h timed = absurd h
after-swap s bodies m (Finish i) y run can could h timed = absurd h
after-swap s bodies m (Sync k) y run can could h timed = absurd h
