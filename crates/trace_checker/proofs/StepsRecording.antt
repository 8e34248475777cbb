-- What is said of a step of a replay is said whatever kind sets the run records; and what comes of comparing those.
use Rattle.std.proofs.Common.{ℕ, ◌≡◌, ◌+◌, List, [], ◌∷◌, ◌++◌, length, Option, Some, Result, Ok, Err, refl, sym, ap, ap₂, subst, ◌∙◌, append-nil}
use Rattle.model.specs.declared.steps.Step.{Step}
use Rattle.model.specs.declared.steps.Step.TheVariants.{Cond, Start, Skip, Finish, Sync}
use Rattle.model.specs.Lists.{first_some}
use Rattle.model.specs.state.State.{State}
use Rattle.model.specs.shown.Outcome.{Outcome, BodyMeaning}
use Rattle.model.specs.steps.Schedule.{Schedule, recording}
use Rattle.model.specs.steps.Lawful.{syncs_in, IsLawful, IsComplete}
use Rattle.model.specs.runs.RunState.{RunState, RunningSystem, after_start, answer_of, begin_run, body_of, can_finish, has_ids_for_level, has_ids_to_sync, has_tick, after_commands, started_system}
use Rattle.model.specs.runs.Causes.{unless, cause_of_answer, cause_of_finish, cause_of_start, serial_cause_of}
use Rattle.model.specs.runs.Causes.Cause.{NoTick, NoIds, NoEventNumber}
use Rattle.model.specs.runs.Replays.{AreWrongSets, IsAnswerOf, IsListAfter, IsListOf, IsReached, IsStepTaken, IsWrongHere}
use Rattle.model.proofs.serial.Recording.{serial-recording, serial_step-recording}
use Rattle.model.proofs.serial.Replaying.{reached_open, wrong_open, wrong_sets_at}
use Rattle.engine.specs.declared.faults.RunFault.{RunFault}
use Rattle.engine.specs.declared.faults.RunFault.TheVariants.{Memory, ClockSpent, IdsSpent, Spoiled, NoWorker, BodyFault as Refusal}
use Rattle.trace_checker.specs.declared.replay.ReplayFault.{ReplayFault}
use Rattle.trace_checker.specs.declared.replay.ReplayFault.TheVariants as replay
use Rattle.trace_checker.specs.ReplayFaults.{AreWrongHere, IsFaultOf, IsKnown, IsStepFault, IsStoppedHere, list_at}

-- ---- a step

module _ (s : Schedule) (sets : Option (List (List ℕ))) where
  -- the numbers of a step
  pub known_by : (step : Step) → IsKnown (recording s sets) step → IsKnown s step
  known_by (Cond c answer) known = known
  known_by (Start n) known = known
  known_by (Skip n) known = known
  known_by (Finish n) known = known
  known_by (Sync k) known = known

  -- the answer of a condition
  same-answer : (c : ℕ) (run : RunState) → answer_of (recording s sets) c run ≡ answer_of s c run
  unfolding answer_of
  same-answer c run = refl

  -- a started system
  same-started : (n : ℕ) (run : RunState) → started_system (recording s sets) n run ≡ started_system s n run
  unfolding started_system
  same-started n run = refl

  -- the state after a start
  same-start : (n : ℕ) (run : RunState) → after_start (recording s sets) n run ≡ after_start s n run
  unfolding after_start
  same-start n run = refl

  -- the numbers of the commands of an outcome
  same-numbers : (n : ℕ) (o : Outcome) (run : RunState) → can_finish (recording s sets) n o run ≡ can_finish s n o run
  unfolding can_finish
  same-numbers n o run = refl

  -- whether there are ids for a level
  same-ids : (k : ℕ) (run : RunState) → has_ids_to_sync (recording s sets) k run ≡ has_ids_to_sync s k run
  unfolding has_ids_to_sync has_ids_for_level after_commands
  same-ids k run = refl

  -- the cause why a body refuses
  answer-cause : (p : RunningSystem) (answer : Result Outcome ℕ) (run : RunState) → cause_of_answer (recording s sets) p answer run ≡ cause_of_answer s p answer run
  answer-cause p (Err refusal) run = refl
  answer-cause p (Ok o) run = ap (λ b. unless b NoEventNumber) (same-numbers p.system o run)

  -- the cause why a step stops
  step-cause : (bodies : List BodyMeaning) (step : Step) (run : RunState) → serial_cause_of (recording s sets) bodies step run ≡ serial_cause_of s bodies step run
  step-cause bodies (Cond c answer) run = refl
  step-cause bodies (Start n) run =
      ap₂ (λ (p : RunningSystem) (r : RunState). first_some (cause_of_start run) (cause_of_finish (recording s sets) bodies p r)) (same-started n run) (same-start n run)
      ∙ ap (first_some (cause_of_start run)) (answer-cause (started_system s n run) (body_of bodies (started_system s n run).system (started_system s n run).shown) (after_start s n run))
  step-cause bodies (Skip n) run = refl
  step-cause bodies (Finish n) run = refl
  step-cause bodies (Sync k) run = ap (λ b. first_some (unless (has_tick run.state) NoTick) (unless b NoIds)) (same-ids k run)

  -- a recorded answer
  answer-by : (step : Step) (run : RunState) → IsAnswerOf s step (Some run) → IsAnswerOf (recording s sets) step (Some run)
  answer-by (Cond c answer) run told = λ asked. told asked ∙ sym (same-answer c run)
  answer-by (Start n) run told = tt
  answer-by (Skip n) run told = tt
  answer-by (Finish n) run told = tt
  answer-by (Sync k) run told = tt

  module _ (bodies : List BodyMeaning) where
    -- a step that is taken
    pub taken_by : (run : RunState) (step : Step) (later : RunState) → IsStepTaken s bodies run step later → IsStepTaken (recording s sets) bodies run step later
    taken_by run step later taken = record {
      meaning = serial_step-recording s sets bodies step run ∙ taken.meaning;
      answer = answer-by step run taken.answer;
    }

    -- the opening
    pub begun_by : (start : State) (run : RunState) → begin_run s start ≡ Some run → begin_run (recording s sets) start ≡ Some run
    begun_by start run e = serial-recording s sets bodies start [] ∙ e

    stopped-by : (run : RunState) (step : Step) (fault : RunFault) → IsStoppedHere s bodies run step fault → IsStoppedHere (recording s sets) bodies run step fault
    stopped-by run step Memory h = tt
    stopped-by run step ClockSpent h = (h.0, h.1, step-cause bodies step run ∙ h.2)
    stopped-by run step IdsSpent h = (h.0, h.1, step-cause bodies step run ∙ h.2)
    stopped-by run step Spoiled h = (h.0, h.1, step-cause bodies step run ∙ h.2)
    stopped-by run step NoWorker h = (h.0, h.1, step-cause bodies step run ∙ h.2)
    stopped-by run step (Refusal n) h = (h.0, h.1, step-cause bodies step run ∙ h.2)

    wrong-by : (run : RunState) (step : Step) → IsWrongHere s run step → IsWrongHere (recording s sets) run step
    wrong-by run (Cond c answer) wrong = (wrong.0, λ e. wrong.1 (e ∙ same-answer c run))
    wrong-by run (Start n) wrong = absurd wrong
    wrong-by run (Skip n) wrong = absurd wrong
    wrong-by run (Finish n) wrong = absurd wrong
    wrong-by run (Sync k) wrong = absurd wrong

    -- a fault of a step
    pub step_fault_by : (run : RunState) (step : Step) (number : ℕ) (fault : ReplayFault) → IsStepFault s bodies run step number fault → IsStepFault (recording s sets) bodies run step number fault
    step_fault_by run step number (replay.WrongAnswer n) h = (h.0, wrong-by run step h.1)
    step_fault_by run step number (replay.Run fault) h = stopped-by run step fault h
    step_fault_by run step number (replay.Bad n fault) h = absurd h
    step_fault_by run step number replay.Unfinished h = absurd h
    step_fault_by run step number (replay.WrongSets n) h = absurd h

    -- ---- kind sets at a place

    -- right ones at the opening
    pub opened_right : (start : State) (run : RunState) → begin_run s start ≡ Some run → IsListOf (list_at sets 0) (Some run) → IsReached (recording s sets) bodies start [] run
    opened_right start run e right = reached_open (recording s sets) bodies start run (begun_by start run e) right

    -- wrong ones at the opening
    pub opened_wrong : (start : State) (h : List Step) (run : RunState) (fault : ReplayFault) → IsLawful (recording s sets) h → IsComplete (recording s sets) h → begin_run s start ≡ Some run →
        AreWrongHere (list_at sets 0) run.state.world.slots 0 fault → IsFaultOf (recording s sets) bodies start h fault
    opened_wrong start h run (replay.WrongSets n) lawful complete e wrong = (
      (lawful, complete),
      subst (AreWrongSets (recording s sets) bodies start h) (sym wrong.0)
          (subst (λ x. AreWrongSets (recording s sets) bodies start x 0) (append-nil h)
          (wrong_open (recording s sets) bodies start h run wrong.1 (begun_by start run e) wrong.2 wrong.3)),
    )
    opened_wrong start h run (replay.Run Memory) lawful complete e wrong = tt
    opened_wrong start h run (replay.Run ClockSpent) lawful complete e wrong = absurd wrong
    opened_wrong start h run (replay.Run IdsSpent) lawful complete e wrong = absurd wrong
    opened_wrong start h run (replay.Run Spoiled) lawful complete e wrong = absurd wrong
    opened_wrong start h run (replay.Run NoWorker) lawful complete e wrong = absurd wrong
    opened_wrong start h run (replay.Run (Refusal n)) lawful complete e wrong = absurd wrong
    opened_wrong start h run (replay.WrongAnswer n) lawful complete e wrong = absurd wrong
    opened_wrong start h run (replay.Bad n fault) lawful complete e wrong = absurd wrong
    opened_wrong start h run replay.Unfinished lawful complete e wrong = absurd wrong

    -- right ones after a step
    pub right_after : (h : List Step) (step : Step) (later : RunState) (place : ℕ) → place ≡ syncs_in (step ∷ h) → ((k : ℕ) → step ≡ Sync k → IsListOf (list_at sets place) (Some later)) →
        IsListAfter (recording s sets) h step later
    right_after h (Cond c answer) later place e right = tt
    right_after h (Start n) later place e right = tt
    right_after h (Skip n) later place e right = tt
    right_after h (Finish n) later place e right = tt
    right_after h (Sync k) later place e right = subst (λ p. IsListOf (list_at sets p) (Some later)) e (right k refl)

    -- wrong ones after a sync point
    pub wrong_after : (start : State) (later h : List Step) (k : ℕ) (run after : RunState) (place number : ℕ) (fault : ReplayFault) →
        IsLawful (recording s sets) (later ++ Sync k ∷ h) → IsComplete (recording s sets) (later ++ Sync k ∷ h) → IsReached (recording s sets) bodies start h run → IsStepTaken s bodies run (Sync k) after →
        place ≡ syncs_in (Sync k ∷ h) → number ≡ length h + 1 → AreWrongHere (list_at sets place) after.state.world.slots number fault → IsFaultOf (recording s sets) bodies start (later ++ Sync k ∷ h) fault
    wrong_after start later h k run after place number (replay.WrongSets n) lawful complete is taken e count wrong = (
      (lawful, complete),
      wrong_sets_at (recording s sets) bodies start h later k run after wrong.1 n is (taken_by run (Sync k) after taken).meaning
          (ap (list_at sets) (sym e) ∙ wrong.2) wrong.3 (wrong.0 ∙ count),
    )
    wrong_after start later h k run after place number (replay.Run Memory) lawful complete is taken e count wrong = tt
    wrong_after start later h k run after place number (replay.Run ClockSpent) lawful complete is taken e count wrong = absurd wrong
    wrong_after start later h k run after place number (replay.Run IdsSpent) lawful complete is taken e count wrong = absurd wrong
    wrong_after start later h k run after place number (replay.Run Spoiled) lawful complete is taken e count wrong = absurd wrong
    wrong_after start later h k run after place number (replay.Run NoWorker) lawful complete is taken e count wrong = absurd wrong
    wrong_after start later h k run after place number (replay.Run (Refusal n)) lawful complete is taken e count wrong = absurd wrong
    wrong_after start later h k run after place number (replay.WrongAnswer n) lawful complete is taken e count wrong = absurd wrong
    wrong_after start later h k run after place number (replay.Bad n fault) lawful complete is taken e count wrong = absurd wrong
    wrong_after start later h k run after place number replay.Unfinished lawful complete is taken e count wrong = absurd wrong
