-- The worlds of a run that is told, step by step.
use Rattle.std.proofs.Common.{◌≡◌, ◌<◌, ◌+◌, ℕ, suc, List, [], ◌∷◌, ◌++◌, length, Option, Some, drop, take, get_or, reverse, sym, ap, ap₂, subst, ◌∙◌, arith}
use Rattle.std.specs.Option.{option_and_then}
use Rattle.std.proofs.lemmas.Bool.{false_from_ne_true}
use Rattle.std.proofs.lemmas.List.{length-reverse, length-take-le}
use Rattle.model.specs.declared.steps.Step.{Step}
use Rattle.model.specs.declared.steps.Step.TheVariants.{Start, Sync}
use Rattle.model.specs.state.State.{State}
use Rattle.model.specs.state.Shape.{AreIdsFor}
use Rattle.model.specs.shown.Outcome.{BodyMeaning}
use Rattle.model.specs.steps.Built.{IsBuilt}
use Rattle.model.specs.steps.Lawful.{IsLawful, May, begun}
use Rattle.model.specs.steps.Schedule.{Schedule, level_of, recording}
use Rattle.model.specs.runs.Meaning.{serial, serial_step}
use Rattle.model.specs.runs.Replays.{IsStepTaken}
use Rattle.model.specs.runs.RunState.{RunState}
use Rattle.model.proofs.order.Histories.{above_waits}
use Rattle.model.proofs.serial.Recording.{built-recording, given-recording, serial-recording}
use Rattle.model.proofs.shape.GivenIds.{ids-free, ids-serial}
use Rattle.engine.proofs.BeforeStart.{serial_fresh}
use Rattle.trace_checker.proofs.Verdicts.{cut_at, history_next, lawful_at, may_at}
use Rattle.findings.specs.Worlds.{after_text, scene_text, worlds_text}

module _ (s : Schedule) (sets : Option (List (List ℕ))) (bodies : List BodyMeaning) (start : State) (steps : List Step) (i : ℕ) (d : Step) (below : i < length steps) (run : RunState) where
  may : IsLawful (recording s sets) (reverse steps) → May (recording s sets) (reverse (take i steps)) (get_or steps i d)
  may lawful = may_at (recording s sets) steps (take i steps) (get_or steps i d) (drop (suc i) steps) (cut_at steps i d below) lawful

  lawful-front : IsLawful (recording s sets) (reverse steps) → IsLawful (recording s sets) (reverse (take i steps))
  lawful-front lawful = lawful_at (recording s sets) steps (take i steps) (get_or steps i d) (drop (suc i) steps) (cut_at steps i d below) lawful

  meant : serial s bodies start (reverse (take i steps)) ≡ Some run → serial (recording s sets) bodies start (reverse (take i steps)) ≡ Some run
  meant meaning = serial-recording s sets bodies start (reverse (take i steps)) ∙ meaning

  -- the buffer of a system at whose start it stands has no commands
  pub fresh_by : (n : ℕ) → IsLawful (recording s sets) (reverse steps) → serial s bodies start (reverse (take i steps)) ≡ Some run → get_or steps i d ≡ Start n → run.buffers n ≡ []
  fresh_by n lawful meaning e =
      let free = (subst (May (recording s sets) (reverse (take i steps))) e (may lawful)).free in
      serial_fresh (recording s sets) bodies start (reverse (take i steps)) run (meant meaning) n free.waits

  -- the system that starts there was granted what it can be given
  pub given_by : (n : ℕ) → IsBuilt s → IsLawful (recording s sets) (reverse steps) → serial s bodies start (reverse (take i steps)) ≡ Some run → get_or steps i d ≡ Start n → AreIdsFor s n (run.grants n)
  given_by n built lawful meaning e =
      let free = (subst (May (recording s sets) (reverse (take i steps))) e (may lawful)).free in
      let before = lawful-front lawful in
      given-recording (recording s sets) s.sets n (run.grants n)
      (ids-free (recording s sets) (reverse (take i steps)) n run before free (ids-serial (recording s sets) bodies start (reverse (take i steps)) run (built-recording s sets built) before (meant meaning)))

  -- before a sync point the systems of the level above it have left nothing
  pub waits_by : (k n : ℕ) → IsLawful (recording s sets) (reverse steps) → serial s bodies start (reverse (take i steps)) ≡ Some run → get_or steps i d ≡ Sync k → level_of s n ≡ suc k → run.buffers n ≡ []
  waits_by k n lawful meaning e above =
      let there = subst (May (recording s sets) (reverse (take i steps))) e (may lawful) in
      serial_fresh (recording s sets) bodies start (reverse (take i steps)) run (meant meaning) n
      (false_from_ne_true (begun (reverse (take i steps)) n) (above_waits (recording s sets) (reverse (take i steps)) k n (lawful-front lawful) there.fresh (omega (arith, above))))

  -- the meaning goes on by one step
  meant-with : (later : RunState) → serial s bodies start (reverse (take i steps)) ≡ Some run → IsStepTaken s bodies run (get_or steps i d) later → serial s bodies start (get_or steps i d ∷ reverse (take i steps)) ≡ Some later
  meant-with later meaning taken = ap (option_and_then (serial_step s bodies (get_or steps i d))) meaning ∙ taken.meaning

  pub meant_next : (later : RunState) → serial s bodies start (reverse (take i steps)) ≡ Some run → IsStepTaken s bodies run (get_or steps i d) later → serial s bodies start (reverse (take (i + 1) steps)) ≡ Some later
  meant_next later meaning taken = subst (λ h. serial s bodies start h ≡ Some later) (history_next steps i d below) (meant-with later meaning taken)

  -- and the worlds with what is told after it
  pub told_next : (later : RunState) (before number : ℕ) (text : List ℕ) → number ≡ i + 1 → serial s bodies start (reverse (take i steps)) ≡ Some run → IsStepTaken s bodies run (get_or steps i d) later
      → text ≡ worlds_text s bodies start before (reverse (take i steps)) → text ++ scene_text before number (get_or steps i d) later.state ≡ worlds_text s bodies start before (reverse (take (i + 1) steps))
  told_next later before number text count meaning taken so_far =
      let place : number ≡ length (reverse (take i steps)) + 1 = let a = length-reverse (take i steps) in let b = length-take-le i steps (omega (arith, below)) in omega (arith, a, b, count) in
      let added : scene_text before number (get_or steps i d) later.state ≡ after_text before (length (reverse (take i steps)) + 1) (get_or steps i d) (serial s bodies start (get_or steps i d ∷ reverse (take i steps))) =
      ap (λ n. scene_text before n (get_or steps i d) later.state) place ∙ ap (after_text before (length (reverse (take i steps)) + 1) (get_or steps i d)) (sym (meant-with later meaning taken)) in
      subst (λ h. text ++ scene_text before number (get_or steps i d) later.state ≡ worlds_text s bodies start before h) (history_next steps i d below) (ap₂ (λ x y. x ++ y) so_far added)
