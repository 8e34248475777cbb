-- Recorded runs that are taken again, one after the other.
use Rattle.std.proofs.Common.{◌≡◌, ◌≤◌, ◌<◌, ◌^◌, ℕ, zero, suc, ◌+◌, List, [], ◌∷◌, ◌++◌, length, take, drop, get_or, refl, sym, ap, subst, arith}
use Rattle.std.proofs.lemmas.List.{length-take-le}
use Rattle.model.proofs.lists.Turns.{seen_next}
use Rattle.std.specs.List.{AllByRecursion}
use Rattle.model.specs.shown.Outcome.{BodyMeaning}
use Rattle.model.specs.state.State.{State}
use Rattle.model.specs.steps.Schedule.{Schedule, Recorded, recording}
use Rattle.engine.specs.Stops.{IsReportedAs}
use Rattle.engine.specs.declared.faults.RunFault.TheVariants as stop
use Rattle.trace_checker.specs.ReplayFaults.{IsReplayFault}
use Rattle.trace_checker.specs.declared.replay.ReplayFault.{ReplayFault}
use Rattle.trace_checker.specs.declared.replay.ReplayFault.TheVariants as replay
use Rattle.trace_checker.specs.declared.line.Line.{Line}
use Rattle.trace_checker.specs.Grammar.{AreFitting, IsFitting, history_lines, lines_from}
use Rattle.model.specs.runs.Causes.{Cause}
use Rattle.model.specs.runs.Causes.{Cause as cause}
use Rattle.model.specs.runs.Replays.{IsReplayed}
use Rattle.program.specs.declared.fault.Fault.{Fault}
use Rattle.program.specs.Replayed.{AreReplayed, IsOfReplay, IsRefusedAmong, IsRefusedRun, fault_of_replay}

-- ---- one run more

replayed-next : (s : Schedule) (bodies : List BodyMeaning) (start middle w' : State) (runs : List Recorded) (r : Recorded)
    → AreReplayed s bodies start runs middle → IsReplayed (recording s r.sets) bodies middle r.steps w' → AreReplayed s bodies start (runs ++ r ∷ []) w'
replayed-next s bodies start middle w' [] r ran next = (w', subst (λ w. IsReplayed (recording s r.sets) bodies w r.steps w') (sym ran) next, refl)
replayed-next s bodies start middle w' (x ∷ runs) r ran next = (ran.0, ran.1, replayed-next s bodies ran.0 middle w' runs r ran.2 next)

-- the run of the next trace, from the state that the runs before it leave
pub replayed-more : (s : Schedule) (bodies others : List BodyMeaning) (start middle w' : State) (runs : List Recorded) (i : ℕ) (r : Recorded) → i < length runs → r ≡ get_or runs i r → others ≡ bodies
    → AreReplayed s bodies start (take i runs) middle → IsReplayed (recording s r.sets) others middle r.steps w' → AreReplayed s bodies start (take (i + 1) runs) w'
replayed-more s bodies others start middle w' runs i r known at same ran next =
    subst (λ rs. AreReplayed s bodies start rs w') (sym (seen_next runs i r known at))
    (replayed-next s bodies start middle w' (take i runs) r ran (subst (λ bs. IsReplayed (recording s r.sets) bs middle r.steps w') same next))

-- ---- a run that is refused

runs-cut : (runs : List Recorded) (i : ℕ) (r : Recorded) → i < length runs → r ≡ get_or runs i r → runs ≡ take i runs ++ r ∷ drop (suc i) runs
runs-cut [] i r known at = absurd (omega arith)
runs-cut (x ∷ runs) zero r known at = ap (λ (y : Recorded). y ∷ runs) (sym at)
runs-cut (x ∷ runs) (suc i) r known at = ap (λ rs. x ∷ rs) (runs-cut runs i r (omega arith) at)

-- the run of the next trace is, from the state that the runs before it leave
pub refused-next : (s : Schedule) (bodies others : List BodyMeaning) (start middle : State) (runs : List Recorded) (i number : ℕ) (r : Recorded) (fault : Fault) → i < length runs → r ≡ get_or runs i r → others ≡ bodies
    → number ≡ i + 1 → AreReplayed s bodies start (take i runs) middle → IsRefusedRun s others middle r number fault → IsRefusedAmong s bodies start runs fault
refused-next s bodies others start middle runs i number r fault known at same place ran refused = record {
  before = take i runs;
  run = r;
  later = drop (suc i) runs;
  whole = runs-cut runs i r known at;
  middle = middle;
  replayed = ran;
  refused = subst (λ n. IsRefusedRun s bodies middle r n fault) (let so_far = length-take-le i runs (omega arith) in omega arith)
      (subst (λ bs. IsRefusedRun s bs middle r number fault) same refused);
}

-- ---- what is told of it

-- a replay is stopped so
pub stops_so : (s : Schedule) (bodies : List BodyMeaning) (w : State) (r : Recorded) (fault : ReplayFault) → IsReplayFault s bodies w r fault → IsOfReplay fault
stops_so s bodies w r (replay.Bad step fault) is = tt
stops_so s bodies w r replay.Unfinished is = tt
stops_so s bodies w r (replay.WrongAnswer step) is = tt
stops_so s bodies w r (replay.WrongSets step) is = tt
stops_so s bodies w r (replay.Run stop.Memory) is = tt
stops_so s bodies w r (replay.Run stop.ClockSpent) is = tt
stops_so s bodies w r (replay.Run stop.IdsSpent) is = tt
stops_so s bodies w r (replay.Run (stop.BodyFault refusal)) is = tt
stops_so s bodies w r (replay.Run stop.NoWorker) is = no-worker is.1.0 is.1.1 where
  no-worker : (met : Cause) → IsReportedAs met stop.NoWorker → ⊥
  no-worker cause.NoTick h = h
  no-worker cause.NoIds h = h
  no-worker cause.NoEventNumber h = h
  no-worker (cause.Refused n) h = h
stops_so s bodies w r (replay.Run stop.Spoiled) is = not-spoiled is.1.0 is.1.1 where
  not-spoiled : (met : Cause) → IsReportedAs met stop.Spoiled → ⊥
  not-spoiled cause.NoTick h = h
  not-spoiled cause.NoIds h = h
  not-spoiled cause.NoEventNumber h = h
  not-spoiled (cause.Refused n) h = h

-- and that is told
pub refused_as : (s : Schedule) (bodies : List BodyMeaning) (w : State) (r : Recorded) (number : ℕ) (fault : ReplayFault) → IsOfReplay fault → IsReplayFault s bodies w r fault
    → IsRefusedRun s bodies w r number (fault_of_replay number fault)
refused_as s bodies w r number (replay.Bad step fault) so is = (refl, is)
refused_as s bodies w r number replay.Unfinished so is = (refl, is)
refused_as s bodies w r number (replay.WrongAnswer step) so is = (refl, is)
refused_as s bodies w r number (replay.WrongSets step) so is = (refl, is)
refused_as s bodies w r number (replay.Run stop.Memory) so is = tt
refused_as s bodies w r number (replay.Run stop.ClockSpent) so is = is
refused_as s bodies w r number (replay.Run stop.IdsSpent) so is = is
refused_as s bodies w r number (replay.Run (stop.BodyFault refusal)) so is = (refusal, is)
refused_as s bodies w r number (replay.Run stop.NoWorker) so is = absurd so
refused_as s bodies w r number (replay.Run stop.Spoiled) so is = absurd so

-- ---- their number

fitting-behind : (lines more : List Line) → AllByRecursion IsFitting (lines ++ more) → AllByRecursion IsFitting more
fitting-behind [] more fitting = fitting
fitting-behind (line ∷ lines) more fitting = fitting-behind lines more fitting.1

fitting-from : (n : ℕ) (runs : List Recorded) → n ≤ 2 ^ 32 → AllByRecursion IsFitting (lines_from n runs) → n + length runs ≤ 2 ^ 32
fitting-from n [] within fitting = omega arith
fitting-from n (run ∷ runs) within fitting =
    let first : n < 2 ^ 32 = fitting.0 in
    let more = fitting-from (suc n) runs (omega arith) (fitting-behind (history_lines run.sets run.steps) (lines_from (suc n) runs) fitting.1) in
    omega arith

-- each run has a number of 32 bits
pub fitting-count : (runs : List Recorded) → AreFitting runs → length runs < 2 ^ 32
fitting-count runs fitting = let within = fitting-from 1 runs (omega arith) fitting.lines in omega arith
