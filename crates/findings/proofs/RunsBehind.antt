-- States behind some runs: one run more, and a run that is refused.
use Rattle.std.proofs.Common.{◌≡◌, ℕ, ◌+◌, ◌<◌, List, [], ◌∷◌, ◌++◌, length, length-append, refl, sym, subst, ap, ◌∙◌, arith}
use Rattle.model.specs.runs.Replays.{IsReplayed}
use Rattle.model.specs.shown.Outcome.{BodyMeaning}
use Rattle.model.specs.state.State.{State}
use Rattle.model.specs.steps.Schedule.{Schedule, Recorded, recording}
use Rattle.program.specs.Replayed.{AreReplayed}
use Rattle.program.specs.declared.fault.Fault.{Fault}
use Rattle.findings.specs.Behind.{IsBehind, IsNext}
use Rattle.findings.specs.Refusals.{IsUnreached, IsUnwitnessed}

replayed_next : (s : Schedule) (bodies : List BodyMeaning) (start middle final : State) (runs : List Recorded) (r : Recorded)
    → AreReplayed s bodies start runs middle → IsReplayed (recording s r.sets) bodies middle r.steps final → AreReplayed s bodies start (runs ++ r ∷ []) final
replayed_next s bodies start middle final [] r ran next = (final, subst (λ (w : State). IsReplayed (recording s r.sets) bodies w r.steps final) (sym ran) next, refl)
replayed_next s bodies start middle final (x ∷ runs) r ran next = (ran.0, ran.1, replayed_next s bodies ran.0 middle final runs r ran.2 next)

-- none are behind a state but itself
pub behind_none : (s : Schedule) (bodies : List BodyMeaning) (start : State) → IsBehind s bodies start 0 start
behind_none s bodies start = record { runs = []; many = refl; replayed = refl }

-- one run more, by scripts that mean the same
pub behind_more : (s : Schedule) (bodies others : List BodyMeaning) (start middle final : State) (count : ℕ) → others ≡ bodies → IsBehind s bodies start count middle → IsNext s others middle final → IsBehind s bodies start (count + 1) final
behind_more s bodies others start middle final count means behind next = record {
  runs = behind.runs ++ next.run ∷ [];
  many = length-append behind.runs (next.run ∷ []) ∙ ap (λ n. n + 1) behind.many;
  replayed = replayed_next s bodies start middle final behind.runs next.run behind.replayed
      (subst (λ (bs : List BodyMeaning). IsReplayed (recording s next.run.sets) bs middle next.run.steps final) means next.replayed);
}

-- a run behind some is refused, by scripts that mean the same
pub unreached : (s : Schedule) (bodies others : List BodyMeaning) (start middle : State) (before count : ℕ) (fault : Fault) → others ≡ bodies → before < count → IsBehind s bodies start before middle → IsUnwitnessed s others middle (before + 1) fault
    → IsUnreached s bodies start count fault
unreached s bodies others start middle before count fault means low behind refused = record {
  before = before;
  within = low;
  middle = middle;
  behind = behind;
  refused = subst (λ (bs : List BodyMeaning). IsUnwitnessed s bs middle (before + 1) fault) means refused;
}
