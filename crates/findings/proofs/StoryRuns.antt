-- The runs of a story, one more.
use Rattle.std.proofs.Common.{◌≡◌, ◌<◌, ◌+◌, ℕ, zero, suc, List, [], ◌∷◌, ◌++◌, length, Option, drop, get_or, subst, arith}
use Rattle.model.specs.runs.Replays.{IsReplayed}
use Rattle.model.specs.shown.Outcome.{BodyMeaning}
use Rattle.model.specs.state.State.{State}
use Rattle.model.specs.steps.Schedule.{Schedule, Recorded, recording}
use Rattle.findings.specs.Stories.{IsStory, is_asked, told_text}

-- a run that is told leads on to those behind it
story_from : (s : Schedule) (bodies : List BodyMeaning) (asked : Option ℕ) (before : ℕ) (start left : State) (runs : List Recorded) (i : ℕ) (r : Recorded) (text later whole : List ℕ) → i < length runs → r ≡ get_or runs i r
    → IsReplayed (recording s r.sets) bodies start r.steps left → later ≡ text ++ told_text (is_asked asked (before + 1)) s bodies start before r.steps
    → IsStory s bodies asked (before + 1) left (drop (suc i) runs) later whole → IsStory s bodies asked before start (drop i runs) text whole
story_from s bodies asked before start left [] i r text later whole known at replayed told rest = absurd (omega arith)
story_from s bodies asked before start left (x ∷ runs) zero r text later whole known at replayed told rest =
    let same : r ≡ x = at in
    subst (λ (y : Recorded). IsStory s bodies asked before start (y ∷ runs) text whole) same (left, replayed, subst (λ words. IsStory s bodies asked (before + 1) left runs words whole) told rest)
story_from s bodies asked before start left (x ∷ runs) (suc i) r text later whole known at replayed told rest =
    story_from s bodies asked before start left runs i r text later whole (omega arith) at replayed told rest

next : (i : ℕ) → i + 1 ≡ suc i
next i = omega arith

pub story_next : (s : Schedule) (bodies : List BodyMeaning) (asked : Option ℕ) (before : ℕ) (start left : State) (runs : List Recorded) (i : ℕ) (r : Recorded) (text later whole : List ℕ) → i < length runs → r ≡ get_or runs i r
    → IsReplayed (recording s r.sets) bodies start r.steps left → later ≡ text ++ told_text (is_asked asked (before + 1)) s bodies start before r.steps
    → IsStory s bodies asked (before + 1) left (drop (i + 1) runs) later whole → IsStory s bodies asked before start (drop i runs) text whole
story_next s bodies asked before start left runs i r text later whole known at replayed told rest =
    story_from s bodies asked before start left runs i r text later whole known at replayed told
    (subst (λ n. IsStory s bodies asked (before + 1) left (drop n runs) later whole) (next i) rest)
