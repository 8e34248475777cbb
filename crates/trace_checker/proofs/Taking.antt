-- The steps of a replay, one after the other.
use Rattle.std.proofs.Common.{◌≡◌, ◌<◌, ◌≤◌, ◌+◌, ℕ, suc, Bool, true, false, refl, List, [], ◌∷◌, ◌++◌, length, Some, drop, take, get_or, reverse, sym, ap, subst, ◌∙◌, append-nil, arith}
use Rattle.std.specs.Prelude.{◌≢◌}
use Rattle.std.proofs.lemmas.Bool.{false≢true, false_from_ne_true}
use Rattle.std.proofs.lemmas.List.{length-reverse, length-take-le, take_all}
use Rattle.model.specs.declared.steps.Step.{Step}
use Rattle.model.specs.declared.steps.Step.TheVariants.{Cond, Start, Skip, Finish, Sync}
use Rattle.model.specs.state.State.{State}
use Rattle.model.specs.shown.Outcome.{BodyMeaning}
use Rattle.model.specs.steps.Schedule.{Schedule, Recorded, level_of, recording}
use Rattle.model.specs.steps.Lawful.{syncs_in, IsLawful, IsComplete, May, begun}
use Rattle.model.specs.runs.RunState.{RunState, answer_of, can_ask}
use Rattle.model.specs.state.Shape.{AreIdsFor}
use Rattle.model.specs.steps.Built.{IsBuilt}
use Rattle.model.specs.runs.Causes.{Cause, serial_cause_of}
use Rattle.model.specs.runs.Causes.{Cause as cause}
use Rattle.engine.specs.declared.faults.RunFault.{RunFault}
use Rattle.engine.specs.declared.faults.RunFault.TheVariants.{Memory, ClockSpent, IdsSpent, Spoiled, NoWorker, BodyFault as Refusal}
use Rattle.engine.specs.Stops.{CannotOpen, StopsBy, fault_of}
use Rattle.engine.specs.declared.stop.Stop.{Stop}
use Rattle.engine.specs.declared.stop.Stop.TheVariants as stop
use Rattle.engine.proofs.BeforeStart.{serial_fresh}
use Rattle.trace_checker.specs.declared.replay.ReplayFault.{ReplayFault}
use Rattle.trace_checker.specs.declared.replay.ReplayFault.TheVariants as replay
use Rattle.model.specs.runs.Replays.{IsReplayed, IsWrongAnswer, IsReplayStopped}
use Rattle.model.specs.runs.Replays.{IsListAfter, IsReached, IsStepTaken}
use Rattle.trace_checker.specs.ReplayFaults.{AreWrongHere, IsFaultOf, IsKnown, IsStepFault, IsStoppedHere, list_at}
use Rattle.trace_checker.proofs.StepsRecording.{wrong_after}
use Rattle.trace_checker.proofs.Verdicts.{around_at, cut_at, history_next, lawful_at, may_at}
use Rattle.model.proofs.order.Histories.{above_waits}
use Rattle.model.proofs.shape.GivenIds.{ids-free, ids-serial}
use Rattle.model.proofs.serial.Replaying.{reached_more, reached_end, wrong_at, stopped_at, stopped_open}

-- what is told of a step that stops
pub step_told : (s : Schedule) (bodies : List BodyMeaning) (run : RunState) (step : Step) (Meets : Cause → Type 0) (told : Stop) → ((met : Cause) → Meets met → serial_cause_of s bodies step run ≡ Some met) →
    StopsBy false Meets told → IsStoppedHere s bodies run step (fault_of told)
step_told s bodies run step Meets stop.Memory is h = tt
step_told s bodies run step Meets stop.NoWorker is h = absurd (false≢true h)
step_told s bodies run step Meets stop.NoTick is h = (cause.NoTick, tt, is cause.NoTick h)
step_told s bodies run step Meets stop.NoIds is h = (cause.NoIds, tt, is cause.NoIds h)
step_told s bodies run step Meets stop.NoEventNumber is h = (cause.NoEventNumber, tt, is cause.NoEventNumber h)
step_told s bodies run step Meets (stop.Refused n) is h = (cause.Refused n, refl, is (cause.Refused n) h)

-- what is told of a step whose recorded answer is wrong
pub answer_told : (s : Schedule) (bodies : List BodyMeaning) (run : RunState) (n : ℕ) (answer recorded : Bool) (number : ℕ) (told : ReplayFault) → can_ask run ≡ true → answer ≡ answer_of s n run
    → (told ≡ replay.WrongAnswer number) × (answer ≢ recorded) → IsStepFault s bodies run (Cond n recorded) number told
answer_told s bodies run n answer recorded number told can is wrong =
    subst (IsStepFault s bodies run (Cond n recorded) number) (sym wrong.0) (refl, (can, λ same. wrong.1 (is ∙ sym same)))

known-of : (s : Schedule) (h : List Step) (step : Step) → May s h step → IsKnown s step
known-of s h (Cond c answer) may = may.known
known-of s h (Start n) may = may.free.known
known-of s h (Skip n) may = tt
known-of s h (Finish n) may = tt
known-of s h (Sync k) may = may.known

module _ (s : Schedule) (bodies : List BodyMeaning) (start : State) (steps : List Step) where
  module _ (i : ℕ) (d : Step) (below : i < length steps) where
    around : reverse steps ≡ reverse (drop (suc i) steps) ++ get_or steps i d ∷ reverse (take i steps)
    around = around_at steps i d below

    -- a step of a lawful list is of the schedule
    pub known_at : IsLawful s (reverse steps) → IsKnown s (get_or steps i d)
    known_at lawful = known-of s (reverse (take i steps)) (get_or steps i d) (may_at s steps (take i steps) (get_or steps i d) (drop (suc i) steps) (cut_at steps i d below) lawful)

    -- one step more
    pub reached_next : (run later : RunState) → IsReached s bodies start (reverse (take i steps)) run → IsStepTaken s bodies run (get_or steps i d) later →
        IsListAfter s (reverse (take i steps)) (get_or steps i d) later → IsReached s bodies start (reverse (take (i + 1) steps)) later
    reached_next run later is taken right =
        subst (λ h. IsReached s bodies start h later) (history_next steps i d below) (reached_more s bodies start (reverse (take i steps)) (get_or steps i d) run later is taken right)

    -- the buffer of a system at whose start it stands has no commands
    pub fresh_at : (n : ℕ) (run : RunState) → IsLawful s (reverse steps) → IsReached s bodies start (reverse (take i steps)) run → get_or steps i d ≡ Start n → run.buffers n ≡ []
    fresh_at n run lawful is e =
        let may = subst (May s (reverse (take i steps))) e (may_at s steps (take i steps) (get_or steps i d) (drop (suc i) steps) (cut_at steps i d below) lawful) in
        serial_fresh s bodies start (reverse (take i steps)) run is.meaning n may.free.waits

    -- the system that starts there was granted what it can be given
    pub given_at : (n : ℕ) (run : RunState) → IsBuilt s → IsLawful s (reverse steps) → IsReached s bodies start (reverse (take i steps)) run → get_or steps i d ≡ Start n → AreIdsFor s n (run.grants n)
    given_at n run built lawful is e =
        let front = lawful_at s steps (take i steps) (get_or steps i d) (drop (suc i) steps) (cut_at steps i d below) lawful in
        let may = subst (May s (reverse (take i steps))) e (may_at s steps (take i steps) (get_or steps i d) (drop (suc i) steps) (cut_at steps i d below) lawful) in
        ids-free s (reverse (take i steps)) n run front may.free (ids-serial s bodies start (reverse (take i steps)) run built front is.meaning)

    -- before a sync point the systems of the level above it have left nothing
    pub waits_at : (k n : ℕ) (run : RunState) → IsLawful s (reverse steps) → IsReached s bodies start (reverse (take i steps)) run → get_or steps i d ≡ Sync k → level_of s n ≡ suc k → run.buffers n ≡ []
    waits_at k n run lawful is e above =
        let front = lawful_at s steps (take i steps) (get_or steps i d) (drop (suc i) steps) (cut_at steps i d below) lawful in
        let may = subst (May s (reverse (take i steps))) e (may_at s steps (take i steps) (get_or steps i d) (drop (suc i) steps) (cut_at steps i d below) lawful) in
        serial_fresh s bodies start (reverse (take i steps)) run is.meaning n
        (false_from_ne_true (begun (reverse (take i steps)) n) (above_waits s (reverse (take i steps)) k n front may.fresh (omega (arith, above))))

    stopped-by : (run : RunState) (cause : Cause) → IsReached s bodies start (reverse (take i steps)) run → serial_cause_of s bodies (get_or steps i d) run ≡ Some cause → IsReplayStopped s bodies start (reverse steps) cause
    stopped-by run cause is e =
        subst (λ x. IsReplayStopped s bodies start x cause) (sym around) (stopped_at s bodies start (reverse (take i steps)) (reverse (drop (suc i) steps)) (get_or steps i d) run cause is e)

    stopped-here : (run : RunState) (fault : RunFault) → IsLawful s (reverse steps) → IsComplete s (reverse steps) → IsReached s bodies start (reverse (take i steps)) run
        → IsStepFault s bodies run (get_or steps i d) (i + 1) (replay.Run fault) → IsFaultOf s bodies start (reverse steps) (replay.Run fault)
    stopped-here run Memory lawful complete is h = tt
    stopped-here run ClockSpent lawful complete is h = ((lawful, complete), (h.0, h.1, stopped-by run h.0 is h.2))
    stopped-here run IdsSpent lawful complete is h = ((lawful, complete), (h.0, h.1, stopped-by run h.0 is h.2))
    stopped-here run Spoiled lawful complete is h = ((lawful, complete), (h.0, h.1, stopped-by run h.0 is h.2))
    stopped-here run NoWorker lawful complete is h = ((lawful, complete), (h.0, h.1, stopped-by run h.0 is h.2))
    stopped-here run (Refusal n) lawful complete is h = ((lawful, complete), (h.0, h.1, stopped-by run h.0 is h.2))

    -- a fault of a step is one of the replay
    pub fault_at : (run : RunState) (number : ℕ) (fault : ReplayFault) → number ≡ i + 1 → IsLawful s (reverse steps) → IsComplete s (reverse steps) → IsReached s bodies start (reverse (take i steps)) run
        → IsStepFault s bodies run (get_or steps i d) number fault → IsFaultOf s bodies start (reverse steps) fault
    fault_at run number (replay.WrongAnswer n) count lawful complete is h =
        let place : n ≡ length (reverse (take i steps)) + 1 = let a = h.0 in let b = length-reverse (take i steps) in let c = length-take-le i steps (omega arith) in omega arith in
        ((lawful, complete), subst (λ x. IsWrongAnswer s bodies start x n) (sym around) (wrong_at s bodies start (reverse (take i steps)) (reverse (drop (suc i) steps)) (get_or steps i d) run n is h.1 place))
    fault_at run number (replay.Run fault) count lawful complete is h =
        stopped-here run fault lawful complete is (subst (λ m. IsStepFault s bodies run (get_or steps i d) m (replay.Run fault)) count h)
    fault_at run number (replay.Bad n fault) count lawful complete is h = absurd h
    fault_at run number replay.Unfinished count lawful complete is h = absurd h
    fault_at run number (replay.WrongSets n) count lawful complete is h = absurd h

  -- all steps
  pub reached_all : (i : ℕ) (run : RunState) → length steps ≤ i → IsLawful s (reverse steps) → IsComplete s (reverse steps) → IsReached s bodies start (reverse (take i steps)) run → IsReplayed s bodies start (reverse steps) run.state
  reached_all i run over lawful complete is =
      reached_end s bodies start (reverse steps) run lawful complete (subst (λ x. IsReached s bodies start (reverse x) run) (take_all i steps over) is)

module _ (s : Schedule) (bodies : List BodyMeaning) (start : State) (h : List Step) where
  at-once : (met : Cause) → CannotOpen s start met → IsReplayStopped s bodies start h met
  at-once met e = subst (λ x. IsReplayStopped s bodies start x met) (append-nil h) (stopped_open s bodies start h met e)

  -- what stops the opening
  pub opening_told : (told : Stop) → IsLawful s h → IsComplete s h → StopsBy false (CannotOpen s start) told → IsFaultOf s bodies start h (replay.Run (fault_of told))
  opening_told stop.Memory lawful complete e = tt
  opening_told stop.NoWorker lawful complete e = absurd (false≢true e)
  opening_told stop.NoTick lawful complete e = ((lawful, complete), (cause.NoTick, tt, at-once cause.NoTick e))
  opening_told stop.NoIds lawful complete e = ((lawful, complete), (cause.NoIds, tt, at-once cause.NoIds e))
  opening_told stop.NoEventNumber lawful complete e = ((lawful, complete), (cause.NoEventNumber, tt, at-once cause.NoEventNumber e))
  opening_told (stop.Refused n) lawful complete e = ((lawful, complete), (cause.Refused n, refl, at-once (cause.Refused n) e))

-- wrong kind sets after a step that is taken
pub compared_wrong : (s : Schedule) (r : Recorded) (bodies : List BodyMeaning) (start : State) (steps : List Step) (i : ℕ) (d : Step) (run after : RunState) (place number : ℕ) (fault : ReplayFault) →
    r.steps ≡ reverse steps → i < length steps → IsLawful (recording s r.sets) r.steps → IsComplete (recording s r.sets) r.steps → IsReached (recording s r.sets) bodies start (reverse (take i steps)) run →
    IsStepTaken s bodies run (get_or steps i d) after → place ≡ syncs_in (get_or steps i d ∷ reverse (take i steps)) → number ≡ i + 1 →
    ((k : ℕ) × (get_or steps i d ≡ Sync k)) × AreWrongHere (list_at r.sets place) after.state.world.slots number fault → IsFaultOf (recording s r.sets) bodies start r.steps fault
compared_wrong s r bodies start steps i d run after place number fault whole below lawful complete is taken e count wrong =
    let S = recording s r.sets in
    let k = wrong.0.0 in
    let here = wrong.0.1 in
    let front = reverse (take i steps) in
    let later = reverse (drop (suc i) steps) in
    let all : r.steps ≡ later ++ Sync k ∷ front = whole ∙ around_at steps i d below ∙ ap (λ (x : Step). later ++ x ∷ front) here in
    let place_k : number ≡ length front + 1 = let a = length-reverse (take i steps) in let b = length-take-le i steps (omega (arith, below)) in omega (arith, a, b, count) in
    subst (λ h. IsFaultOf S bodies start h fault) (sym all)
    (wrong_after s r.sets bodies start later front k run after place number fault (subst (IsLawful S) all lawful) (subst (IsComplete S) all complete) is
    (subst (λ (x : Step). IsStepTaken s bodies run x after) here taken) (e ∙ ap (λ (x : Step). syncs_in (x ∷ front)) here) place_k wrong.1)
