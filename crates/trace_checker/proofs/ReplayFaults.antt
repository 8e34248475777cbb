-- One result is that of a replay, a failed allocation aside.
use Rattle.std.proofs.Common.{◌≡◌, ◌⊎◌, inl, inr, ℕ, false, List, Result, Ok, Err, IsErrAnd, refl, sym, ap, subst, ◌∙◌}
use Rattle.std.proofs.lemmas.Bool.{false≢true}
use Rattle.model.specs.declared.steps.Step.{Step}
use Rattle.model.specs.state.State.{State}
use Rattle.model.specs.shown.Outcome.{BodyMeaning}
use Rattle.model.specs.steps.Schedule.{Schedule}
use Rattle.model.specs.runs.Causes.{Cause}
use Rattle.model.specs.runs.Causes.Cause.{NoTick, NoIds, Refused, NoEventNumber}
use Rattle.engine.specs.declared.faults.RunFault.{RunFault}
use Rattle.engine.specs.declared.faults.RunFault.TheVariants.{Memory, ClockSpent, IdsSpent, Spoiled, NoWorker, BodyFault as Refusal}
use Rattle.trace_checker.specs.declared.check.Verdict.{Verdict}
use Rattle.trace_checker.specs.declared.check.Verdict.TheVariants.{Complete, Unfinished, Bad}
use Rattle.trace_checker.specs.declared.replay.ReplayFault.{ReplayFault}
use Rattle.trace_checker.specs.declared.replay.ReplayFault.TheVariants as replay
use Rattle.trace_checker.specs.Verdicts.{IsSaidOf, is_complete}
use Rattle.model.specs.runs.Replays.{IsReplayed, IsWrongAnswer, AreWrongSets, IsReplayStopped}
use Rattle.engine.specs.Stops.{IsReportedAs}
use Rattle.trace_checker.specs.ReplayFaults.{IsReplayOf, IsFaultOf}
use Rattle.trace_checker.proofs.Verdicts.{same_verdict}
use Rattle.model.proofs.serial.Replaying.{replayed_stopped, replayed_wrong, replayed_sets, replayed_replayed, stopped_stopped, wrong_stopped, wrong_wrong, sets_stopped, sets_wrong, sets_sets}

-- one fault tells of a cause
same_fault : (cause : Cause) (f g : RunFault) → IsReportedAs cause f → IsReportedAs cause g → f ≡ g
same_fault NoTick ClockSpent ClockSpent a b = refl
same_fault NoIds IdsSpent IdsSpent a b = refl
same_fault NoEventNumber ClockSpent ClockSpent a b = refl
same_fault (Refused n) (Refusal m) (Refusal k) a b = ap Refusal (sym a ∙ b)
same_fault NoTick Memory g a b = absurd a
same_fault NoTick IdsSpent g a b = absurd a
same_fault NoTick Spoiled g a b = absurd a
same_fault NoTick NoWorker g a b = absurd a
same_fault NoTick (Refusal m) g a b = absurd a
same_fault NoTick ClockSpent Memory a b = absurd b
same_fault NoTick ClockSpent IdsSpent a b = absurd b
same_fault NoTick ClockSpent Spoiled a b = absurd b
same_fault NoTick ClockSpent NoWorker a b = absurd b
same_fault NoTick ClockSpent (Refusal m) a b = absurd b
same_fault NoIds Memory g a b = absurd a
same_fault NoIds ClockSpent g a b = absurd a
same_fault NoIds Spoiled g a b = absurd a
same_fault NoIds NoWorker g a b = absurd a
same_fault NoIds (Refusal m) g a b = absurd a
same_fault NoIds IdsSpent Memory a b = absurd b
same_fault NoIds IdsSpent ClockSpent a b = absurd b
same_fault NoIds IdsSpent Spoiled a b = absurd b
same_fault NoIds IdsSpent NoWorker a b = absurd b
same_fault NoIds IdsSpent (Refusal m) a b = absurd b
same_fault NoEventNumber Memory g a b = absurd a
same_fault NoEventNumber IdsSpent g a b = absurd a
same_fault NoEventNumber Spoiled g a b = absurd a
same_fault NoEventNumber NoWorker g a b = absurd a
same_fault NoEventNumber (Refusal m) g a b = absurd a
same_fault NoEventNumber ClockSpent Memory a b = absurd b
same_fault NoEventNumber ClockSpent IdsSpent a b = absurd b
same_fault NoEventNumber ClockSpent Spoiled a b = absurd b
same_fault NoEventNumber ClockSpent NoWorker a b = absurd b
same_fault NoEventNumber ClockSpent (Refusal m) a b = absurd b
same_fault (Refused n) Memory g a b = absurd a
same_fault (Refused n) ClockSpent g a b = absurd a
same_fault (Refused n) IdsSpent g a b = absurd a
same_fault (Refused n) Spoiled g a b = absurd a
same_fault (Refused n) NoWorker g a b = absurd a
same_fault (Refused n) (Refusal m) Memory a b = absurd b
same_fault (Refused n) (Refusal m) ClockSpent a b = absurd b
same_fault (Refused n) (Refusal m) IdsSpent a b = absurd b
same_fault (Refused n) (Refusal m) Spoiled a b = absurd b
same_fault (Refused n) (Refusal m) NoWorker a b = absurd b

-- the fault of a verdict that isn't complete
abbrev fault_of : Verdict → ReplayFault
fault_of Complete = replay.Unfinished
fault_of Unfinished = replay.Unfinished
fault_of (Bad n fault) = replay.Bad n fault

module _ (s : Schedule) (bodies : List BodyMeaning) (w : State) (h : List Step) where
  -- a result, in one of five forms
  record Ended (r : Result State ReplayFault) : Type 0 where
    end : State
    is : r ≡ Ok end
    replayed : IsReplayed s bodies w h end

  record Refuted (r : Result State ReplayFault) : Type 0 where
    verdict : Verdict
    is : r ≡ Err (fault_of verdict)
    says : IsSaidOf s h verdict
    open_yet : is_complete verdict ≡ false

  record WrongOne (r : Result State ReplayFault) : Type 0 where
    step : ℕ
    is : r ≡ Err (replay.WrongAnswer step)
    complete : IsSaidOf s h Complete
    wrong : IsWrongAnswer s bodies w h step

  record WrongLists (r : Result State ReplayFault) : Type 0 where
    step : ℕ
    is : r ≡ Err (replay.WrongSets step)
    complete : IsSaidOf s h Complete
    wrong : AreWrongSets s bodies w h step

  record Stopped (r : Result State ReplayFault) : Type 0 where
    fault : RunFault
    cause : Cause
    is : r ≡ Err (replay.Run fault)
    complete : IsSaidOf s h Complete
    told : IsReportedAs cause fault
    stopped : IsReplayStopped s bodies w h cause

  abbrev Came : Result State ReplayFault → Type 0
  Came r = Ended r ⊎ (Refuted r ⊎ (WrongOne r ⊎ (WrongLists r ⊎ Stopped r)))

  came : (r : Result State ReplayFault) → IsReplayOf s bodies w h r → (r ≡ Err (replay.Run Memory)) ⊎ Came r
  came (Ok end) is = inr (inl (record { end = end; is = refl; replayed = is }))
  came (Err (replay.Bad n fault)) is = inr (inr (inl (record { verdict = Bad n fault; is = refl; says = is; open_yet = refl })))
  came (Err replay.Unfinished) is = inr (inr (inl (record { verdict = Unfinished; is = refl; says = is; open_yet = refl })))
  came (Err (replay.WrongAnswer n)) is = inr (inr (inr (inl (record { step = n; is = refl; complete = is.0; wrong = is.1 }))))
  came (Err (replay.WrongSets n)) is = inr (inr (inr (inr (inl (record { step = n; is = refl; complete = is.0; wrong = is.1 })))))
  came (Err (replay.Run Memory)) is = inl refl
  came (Err (replay.Run ClockSpent)) is = inr (inr (inr (inr (inr (record { fault = ClockSpent; cause = is.1.0; is = refl; complete = is.0; told = is.1.1; stopped = is.1.2 })))))
  came (Err (replay.Run IdsSpent)) is = inr (inr (inr (inr (inr (record { fault = IdsSpent; cause = is.1.0; is = refl; complete = is.0; told = is.1.1; stopped = is.1.2 })))))
  came (Err (replay.Run Spoiled)) is = inr (inr (inr (inr (inr (record { fault = Spoiled; cause = is.1.0; is = refl; complete = is.0; told = is.1.1; stopped = is.1.2 })))))
  came (Err (replay.Run NoWorker)) is = inr (inr (inr (inr (inr (record { fault = NoWorker; cause = is.1.0; is = refl; complete = is.0; told = is.1.1; stopped = is.1.2 })))))
  came (Err (replay.Run (Refusal n))) is = inr (inr (inr (inr (inr (record { fault = Refusal n; cause = is.1.0; is = refl; complete = is.0; told = is.1.1; stopped = is.1.2 })))))

  -- steps that are said to be complete aren't refuted
  no-refuted : {r : Result State ReplayFault} → Refuted r → IsSaidOf s h Complete → ⊥
  no-refuted x complete = false≢true (sym x.open_yet ∙ ap is_complete (same_verdict s h x.verdict Complete x.says complete))

  module _ (r t : Result State ReplayFault) where
    ended-other : Ended r → Came t → r ≡ t
    ended-other x (inl y) = x.is ∙ ap Ok (replayed_replayed s bodies w h x.end y.end x.replayed y.replayed) ∙ sym y.is
    ended-other x (inr (inl y)) = absurd (no-refuted y (x.replayed.run.lawful, x.replayed.run.complete))
    ended-other x (inr (inr (inl y))) = absurd (replayed_wrong s bodies w h x.end y.step x.replayed y.wrong)
    ended-other x (inr (inr (inr (inl y)))) = absurd (replayed_sets s bodies w h x.end y.step x.replayed y.wrong)
    ended-other x (inr (inr (inr (inr y)))) = absurd (replayed_stopped s bodies w h x.end y.cause x.replayed y.stopped)

    refuted-other : Refuted r → Came t → r ≡ t
    refuted-other x (inl y) = absurd (no-refuted x (y.replayed.run.lawful, y.replayed.run.complete))
    refuted-other x (inr (inl y)) = x.is ∙ ap (λ v. Err (fault_of v)) (same_verdict s h x.verdict y.verdict x.says y.says) ∙ sym y.is
    refuted-other x (inr (inr (inl y))) = absurd (no-refuted x y.complete)
    refuted-other x (inr (inr (inr (inl y)))) = absurd (no-refuted x y.complete)
    refuted-other x (inr (inr (inr (inr y)))) = absurd (no-refuted x y.complete)

    wrong-other : WrongOne r → Came t → r ≡ t
    wrong-other x (inl y) = absurd (replayed_wrong s bodies w h y.end x.step y.replayed x.wrong)
    wrong-other x (inr (inl y)) = absurd (no-refuted y x.complete)
    wrong-other x (inr (inr (inl y))) = x.is ∙ ap (λ n. Err (replay.WrongAnswer n)) (wrong_wrong s bodies w h x.step y.step x.wrong y.wrong) ∙ sym y.is
    wrong-other x (inr (inr (inr (inl y)))) = absurd (sets_wrong s bodies w h y.step x.step y.wrong x.wrong)
    wrong-other x (inr (inr (inr (inr y)))) = absurd (wrong_stopped s bodies w h x.step y.cause x.wrong y.stopped)

    lists-other : WrongLists r → Came t → r ≡ t
    lists-other x (inl y) = absurd (replayed_sets s bodies w h y.end x.step y.replayed x.wrong)
    lists-other x (inr (inl y)) = absurd (no-refuted y x.complete)
    lists-other x (inr (inr (inl y))) = absurd (sets_wrong s bodies w h x.step y.step x.wrong y.wrong)
    lists-other x (inr (inr (inr (inl y)))) = x.is ∙ ap (λ n. Err (replay.WrongSets n)) (sets_sets s bodies w h x.step y.step x.wrong y.wrong) ∙ sym y.is
    lists-other x (inr (inr (inr (inr y)))) = absurd (sets_stopped s bodies w h x.step y.cause x.wrong y.stopped)

    stopped-other : Stopped r → Came t → r ≡ t
    stopped-other x (inl y) = absurd (replayed_stopped s bodies w h y.end x.cause y.replayed x.stopped)
    stopped-other x (inr (inl y)) = absurd (no-refuted y x.complete)
    stopped-other x (inr (inr (inl y))) = absurd (wrong_stopped s bodies w h y.step x.cause y.wrong x.stopped)
    stopped-other x (inr (inr (inr (inl y)))) = absurd (sets_stopped s bodies w h y.step x.cause y.wrong x.stopped)
    stopped-other x (inr (inr (inr (inr y)))) =
        let cause = stopped_stopped s bodies w h x.cause y.cause x.stopped y.stopped in
        x.is ∙ ap (λ f. Err (replay.Run f)) (same_fault y.cause x.fault y.fault (subst (λ c. IsReportedAs c x.fault) cause x.told) y.told) ∙ sym y.is

    same-came : Came r → Came t → r ≡ t
    same-came (inl x) y = ended-other x y
    same-came (inr (inl x)) y = refuted-other x y
    same-came (inr (inr (inl x))) y = wrong-other x y
    same-came (inr (inr (inr (inl x)))) y = lists-other x y
    same-came (inr (inr (inr (inr x)))) y = stopped-other x y

    pub one_replay : IsReplayOf s bodies w h r → IsReplayOf s bodies w h t → (t ≡ Err (replay.Run Memory)) ⊎ ((r ≡ Err (replay.Run Memory)) ⊎ (r ≡ t))
    one_replay a b = go (came r a) (came t b)
      where
        go : (r ≡ Err (replay.Run Memory)) ⊎ Came r → (t ≡ Err (replay.Run Memory)) ⊎ Came t → (t ≡ Err (replay.Run Memory)) ⊎ ((r ≡ Err (replay.Run Memory)) ⊎ (r ≡ t))
        go x (inl none) = inl none
        go (inl none) (inr y) = inr (inl none)
        go (inr x) (inr y) = inr (inr (same-came x y))

  -- so it is where a fault is handed on
  pub one_fault : (r : Result State ReplayFault) (fault : ReplayFault) → IsErrAnd r (λ told. told ≡ fault) → IsFaultOf s bodies w h fault → (t : Result State ReplayFault) → IsReplayOf s bodies w h t
      → (t ≡ Err (replay.Run Memory)) ⊎ ((r ≡ Err (replay.Run Memory)) ⊎ (r ≡ t))
  one_fault (Ok end) fault told is t other = absurd told
  one_fault (Err e) fault told is t other = one_replay (Err e) t (subst (IsFaultOf s bodies w h) (sym told) is) other
