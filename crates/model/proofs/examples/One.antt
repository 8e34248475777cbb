-- The run of a schedule whose condition answers no is one; on a false answer its list would go another way, and stop.
use Rattle.std.proofs.Common.{◌≡◌, Bool, false, true, pos, List, [], ◌∷◌, Some, None, Err, inl, inr, refl, arith, true≢false}
use Rattle.std.proofs.lemmas.Bool.{both_ways}
use Rattle.model.specs.declared.steps.Step.{Step}
use Rattle.model.specs.declared.steps.Step.TheVariants.{Cond, Start, Skip, Sync}
use Rattle.model.specs.declared.steps.Ready.TheVariants as ready
use Rattle.model.specs.state.State.{State}
use Rattle.model.specs.access.Access.{no_params}
use Rattle.model.specs.shown.Outcome.{BodyMeaning}
use Rattle.model.specs.access.Condition.Condition.{ResourceEquals}
use Rattle.model.specs.steps.Schedule.{Schedule}
use Rattle.model.specs.steps.Lawful.{IsFree, MayAsk, MaySkip, MayStart, MaySync, IsLawful, IsComplete}
use Rattle.model.specs.steps.Widths.{IsChosen, IsSingle}
use Rattle.model.specs.runs.RunState.{RunState, between, opening, after_condition, after_sync}
use Rattle.model.specs.runs.Meaning.{serial, HasTrueAnswers}
use Rattle.model.specs.runs.Causes.{Cause, serial_cause}
use Rattle.model.specs.runs.Causes.Cause.{Refused}
use Rattle.model.specs.state.Loaded.{loaded}
use Rattle.model.specs.runs.Runs.{IsSingleRun, IsStopped}
use Rattle.model.proofs.faults.Judging.{lists_are_computed}
use Rattle.model.proofs.progress.Determinism.{single_run_is_one, defined_runs_go_through}
use Rattle.model.proofs.progress.Unrecorded.{none_told}
use Rattle.model.proofs.examples.Bodies.{round, system, condition, zeros, computed}

-- a system whose body refuses with 7, where Round is 9
abbrev guarded : Schedule
guarded = record { systems = system no_params ∷ []; conditions = condition (ResourceEquals round (pos 9)) (0 ∷ []) ∷ []; syncs = 1; order = 0 ∷ []; silences = []; sets = None }

abbrev refusing : List BodyMeaning
refusing = (λ shown. Err 7) ∷ []

-- Round is 0
abbrev start : State
start = loaded guarded [] zeros

-- the whole list, the latest step first
abbrev whole : List Step
whole = Sync 0 ∷ Skip 0 ∷ Cond 0 false ∷ []

lawful : IsLawful guarded whole
lawful = (lists_are_computed guarded whole).0 refl

complete : IsComplete guarded whole
complete = (lists_are_computed guarded whole).1 refl

-- the system is free at once
free : IsFree guarded [] 0
free = record { known = omega arith; waits = refl; after = λ m e. absurd (both_ways false refl e); over = λ k l. absurd (omega (arith, l)) }

-- so its condition is asked first, whatever it answers
asked : (answer : Bool) → IsChosen guarded [] (Cond 0 answer)
asked answer = (ready.Ask 0, answer, inl (ready.Ask 0, refl, (free, ((refl, refl, may_ask.apart), λ j l askable. omega (arith, l)))), refl)
  where
    may_ask : MayAsk guarded [] 0
    may_ask = lawful.1.1.0

may_skip : MaySkip guarded (Cond 0 false ∷ []) 0
may_skip = lawful.1.0

may_sync : MaySync guarded (Skip 0 ∷ Cond 0 false ∷ []) 0
may_sync = lawful.0

single : IsSingle guarded whole
single = (
  (ready.Sync 0, false, inr ((λ offer offers. true≢false offers.0.waits), may_sync), refl),
  ((ready.Skip 0, false, inl (ready.Skip 0, refl, (may_skip.free, (refl, may_skip))), refl), (asked false, tt)),
)

-- the answer is true
answers : HasTrueAnswers guarded refusing start whole
unfolding computed
answers = (tt, (tt, (refl, tt)))

-- what the run leaves: the opening, the condition and the sync point took a tick each
abbrev end : RunState
end = after_sync guarded 0 (after_condition guarded 0 (between (opening start)))

meaning : serial guarded refusing start whole ≡ Some end
unfolding computed
meaning = refl

clock : end.state.world.clock ≡ 4
unfolding computed
clock = refl

run : IsSingleRun guarded refusing start whole end.state
run = record { single = single; lawful = lawful; complete = complete; answers = answers; sets = none_told guarded refusing start whole; end = end; meaning = meaning; leaves = refl }

-- every run from there has these steps
same_steps : (h : List Step) (w' : State) → IsSingleRun guarded refusing start h w' → h ≡ whole
same_steps h w' other = (single_run_is_one guarded refusing start h whole w' end.state other run).0

-- and none stops
none_stops : (cause : Cause) → IsStopped guarded refusing 1 start cause → ⊥
none_stops cause = defined_runs_go_through guarded refusing 1 start cause
    (record { runs = record { steps = whole; sets = None } ∷ []; count = refl; end = end.state; ran = (end.state, run, refl) })

-- ---- on a false answer

-- with the answer yes the system starts
abbrev astray : List Step
astray = Start 0 ∷ Cond 0 true ∷ []

lawful_astray : IsLawful guarded astray
lawful_astray = (lists_are_computed guarded astray).0 refl

may_start : MayStart guarded (Cond 0 true ∷ []) 0
may_start = lawful_astray.0

single_astray : IsSingle guarded astray
single_astray = ((ready.Start 0, false, inl (ready.Start 0, refl, (may_start.free, (refl, may_start))), refl), (asked true, tt))

-- and its body refuses: so what stops is asked of true answers alone
stops_astray : serial_cause guarded refusing start astray ≡ Some (Refused 7)
unfolding computed
stops_astray = refl
