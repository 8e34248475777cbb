-- One verdict is that of a recorded run.
use Rattle.std.proofs.Common.{◌≡◌, inl, inr, ℕ, zero, suc, ◌+◌, ◌<◌, ◌≤◌, List, [], ◌∷◌, ◌++◌, length, drop, take, get_or, reverse, MatchOption, refl, sym, ap, subst, ◌∙◌, arith}
use Rattle.std.proofs.Math.Seq.{take-suc}
use Rattle.std.proofs.lemmas.List.{reverse-append, append_assoc, length-reverse, length-take-le, take_all}
use Rattle.model.specs.declared.steps.Step.{Step}
use Rattle.model.specs.declared.steps.StepFault.{StepFault}
use Rattle.model.specs.steps.Schedule.{Schedule, Recorded, recording}
use Rattle.model.specs.steps.Lawful.{syncs_in, IsLawful, IsComplete, May}
use Rattle.model.specs.steps.Faults.{IsFirstFault}
use Rattle.model.proofs.order.Histories as histories
use Rattle.model.proofs.faults.ExactFaults.{faults_are_exact}
use Rattle.model.proofs.serial.Recording.{complete-recording}
use Rattle.model.proofs.serial.Replaying.{ends}
use Rattle.executor_core.specs.Stands.{Stand, Stands, AreListed}
use Rattle.trace_checker.specs.declared.check.Verdict.{Verdict}
use Rattle.trace_checker.specs.declared.check.Verdict.TheVariants.{Complete, Unfinished, Bad}
use Rattle.trace_checker.specs.Verdicts.{IsRefusedAt, IsSaidOf, IsVerdict, AreVerdicts, sets_so_far}
use Rattle.trace_checker.proofs.Recording.{first_by_all, lawful_by_all, listed_at}

-- the history of steps of which one is known
history_at : (front : List Step) (step : Step) (rest : List Step) → reverse (front ++ step ∷ rest) ≡ reverse rest ++ step ∷ reverse front
history_at front step rest =
    reverse-append front (step ∷ rest) ∙ (ap (λ l. l ++ reverse front) (reverse-append (step ∷ []) rest) ∙ append_assoc (reverse rest) (step ∷ []) (reverse front))

-- in lawful steps each may come after those before it
pub may_at : (s : Schedule) (steps front : List Step) (step : Step) (rest : List Step) → steps ≡ front ++ step ∷ rest → IsLawful s (reverse steps) → May s (reverse front) step
may_at s steps front step rest e lawful =
    let k = subst (λ h. IsLawful s h) (ap reverse e ∙ history_at front step rest) lawful in
    histories.may_at s (reverse rest) (reverse front) step k

-- and those before it are lawful
pub lawful_at : (s : Schedule) (steps front : List Step) (step : Step) (rest : List Step) → steps ≡ front ++ step ∷ rest → IsLawful s (reverse steps) → IsLawful s (reverse front)
lawful_at s steps front step rest e lawful =
    (histories.lawful_before s (reverse rest) (step ∷ reverse front) (subst (λ h. IsLawful s h) (ap reverse e ∙ history_at front step rest) lawful)).1

-- a lawful history has no step that is refused
lawful_refutes : (s : Schedule) (h : List Step) (n : ℕ) (fault : StepFault) → IsRefusedAt s h n fault → IsLawful s h → ⊥
lawful_refutes s h n fault (later, step, front, e, before, first, count) lawful =
    (faults_are_exact s front step before).1 fault first (histories.may_at s later front step (subst (λ x. IsLawful s x) e lawful))

-- of two that are refused the one with the longer front has the other before it, where they aren't the same
refused-same : (s : Schedule) (n m : ℕ) (fault other : StepFault) (x : Step) (a : List Step) (y : Step) (b l : List Step) → x ∷ a ≡ l ++ y ∷ b → IsLawful s a → IsFirstFault s a x fault → n ≡ length a + 1
    → IsLawful s b → IsFirstFault s b y other → m ≡ length b + 1 → Bad n fault ≡ Bad m other
refused-same s n m fault other x a y b [] e before first count earlier second number =
    let same : a ≡ b = ap (drop 1) e in
    let top : x ≡ y = ap (λ l. get_or l 0 x) e in
    let moved = subst (λ z. IsFirstFault s b z fault) top (subst (λ h. IsFirstFault s h x fault) same first) in
    let k = (faults_are_exact s b y earlier).2 fault other moved second in
    let c : n ≡ m = count ∙ (ap (λ l. length l + 1) same ∙ sym number) in
    ap (λ f. Bad n f) k ∙ ap (λ i. Bad i other) c
refused-same s n m fault other x a y b (z ∷ l) e before first count earlier second number = absurd (lawful_refutes s a m other (l, y, b, ap (drop 1) e, earlier, second, number) before)

-- one step is the first that is refused
one_refused : (s : Schedule) (h : List Step) (n m : ℕ) (fault other : StepFault) → IsRefusedAt s h n fault → IsRefusedAt s h m other → Bad n fault ≡ Bad m other
one_refused s h n m fault other (later, x, a, e, before, first, count) (rest, y, b, f, earlier, second, number) = elim (ends later rest (x ∷ a) (y ∷ b) (sym e ∙ f)) [
  | inl more ↦ refused-same s n m fault other x a y b more.0 more.1 before first count earlier second number
  | inr more ↦ sym (refused-same s m n other fault y b x a more.0 more.1 earlier second number before first count)
]

-- one verdict is that of a history
pub same_verdict : (s : Schedule) (h : List Step) (v w : Verdict) → IsSaidOf s h v → IsSaidOf s h w → v ≡ w
same_verdict s h Complete Complete a b = refl
same_verdict s h Complete Unfinished a b = absurd (b.1 a.1)
same_verdict s h Complete (Bad n fault) a b = absurd (lawful_refutes s h n fault b a.0)
same_verdict s h Unfinished Complete a b = absurd (a.1 b.1)
same_verdict s h Unfinished Unfinished a b = refl
same_verdict s h Unfinished (Bad n fault) a b = absurd (lawful_refutes s h n fault b a.0)
same_verdict s h (Bad n fault) Complete a b = absurd (lawful_refutes s h n fault a b.0)
same_verdict s h (Bad n fault) Unfinished a b = absurd (lawful_refutes s h n fault a b.0)
same_verdict s h (Bad n fault) (Bad m other) a b = one_refused s h n m fault other a b

-- ---- the steps so far

-- one step more
history_more : (steps : List Step) (i : ℕ) (d : Step) → i < length steps → reverse (take (suc i) steps) ≡ get_or steps i d ∷ reverse (take i steps)
history_more steps i d below = ap reverse (take-suc steps i d below) ∙ reverse-append (take i steps) (get_or steps i d ∷ [])

-- the same, counted by one more
pub history_next : (steps : List Step) (i : ℕ) (d : Step) → i < length steps → get_or steps i d ∷ reverse (take i steps) ≡ reverse (take (i + 1) steps)
history_next steps i d below =
    let next : i + 1 ≡ suc i = omega arith in
    sym (history_more steps i d below) ∙ ap (λ m. reverse (take m steps)) (sym next)

-- steps of which one is known by its place
pub cut_at : (steps : List Step) (i : ℕ) (d : Step) → i < length steps → steps ≡ take i steps ++ get_or steps i d ∷ drop (suc i) steps
cut_at [] i d below = absurd (omega (arith, below))
cut_at (s ∷ steps) zero d below = refl
cut_at (s ∷ steps) (suc i) d below = ap (λ l. s ∷ l) (cut_at steps i d (omega (arith, below)))

-- the history of steps around one of them
pub around_at : (steps : List Step) (i : ℕ) (d : Step) → i < length steps → reverse steps ≡ reverse (drop (suc i) steps) ++ get_or steps i d ∷ reverse (take i steps)
around_at steps i d below = ap reverse (cut_at steps i d below) ∙ history_at (take i steps) (get_or steps i d) (drop (suc i) steps)

-- there is a list for the place after each step
pub listed_step : (r : Recorded) (steps : List Step) (i : ℕ) (d : Step) (place : ℕ) → AreListed r.sets r.steps → r.steps ≡ reverse steps → i < length steps →
    place ≡ syncs_in (get_or steps i d ∷ reverse (take i steps)) → MatchOption r.sets (Unit {0}) (λ lists. place < length lists)
listed_step r steps i d place listed whole below e =
    subst (λ n. MatchOption r.sets (Unit {0}) (λ lists. n < length lists)) (sym e)
    (listed_at r.sets r.steps (reverse (drop (suc i) steps)) (get_or steps i d ∷ reverse (take i steps)) listed (whole ∙ around_at steps i d below))

-- ---- what a core that stands for the steps so far answers

module _ (s : Schedule) (r : Recorded) (steps : List Step) (whole : r.steps ≡ reverse steps) (core : Stand) (i : ℕ) (same : core.schedule ≡ s)
    (stands : Stands core (sets_so_far r.sets (reverse (take i steps))) (reverse (take i steps))) where
  abbrev front : List Step
  front = reverse (take i steps)

  front-lawful : IsLawful (recording s r.sets) front
  front-lawful = lawful_by_all s r.sets front (subst (λ z. IsLawful (recording z (sets_so_far r.sets front)) front) same stands.lawful)

  -- a step that it refuses is the first that is refused
  pub refused_at : (d : Step) (n : ℕ) (fault : StepFault) → i < length steps → n ≡ i → IsFirstFault (recording core.schedule (sets_so_far r.sets front)) front (get_or steps i d) fault
      → IsVerdict s r (Bad (n + 1) fault)
  refused_at d n fault below count first = (
    reverse (drop (suc i) steps),
    get_or steps i d,
    front,
    whole ∙ around_at steps i d below,
    front-lawful,
    first_by_all s r.sets front (get_or steps i d) fault (subst (λ z. IsFirstFault (recording z (sets_so_far r.sets front)) front (get_or steps i d) fault) same first),
    omega (arith, count, length-reverse (take i steps), length-take-le i steps (omega (arith, below))),
  )

  module _ (past : length steps ≤ i) where
    all_taken : front ≡ r.steps
    all_taken = ap reverse (take_all i steps past) ∙ sym whole

    all-lawful : IsLawful (recording s r.sets) r.steps
    all-lawful = subst (IsLawful (recording s r.sets)) all_taken front-lawful

    -- where all were taken and it is complete, they are
    pub complete_at : IsComplete (recording core.schedule (sets_so_far r.sets front)) front → IsVerdict s r Complete
    complete_at complete = (
      all-lawful,
      subst (IsComplete (recording s r.sets)) all_taken (complete-recording (recording s (sets_so_far r.sets front)) r.sets front
          (subst (λ z. IsComplete (recording z (sets_so_far r.sets front)) front) same complete)),
    )

    -- and where it is not, they are lawful and not complete
    pub unfinished_at : (IsComplete (recording core.schedule (sets_so_far r.sets front)) front → ⊥) → IsVerdict s r Unfinished
    unfinished_at open_yet = (
      all-lawful,
      λ complete. open_yet (subst (λ z. IsComplete (recording z (sets_so_far r.sets front)) front) (sym same)
          (complete-recording (recording s r.sets) (sets_so_far r.sets front) front (subst (IsComplete (recording s r.sets)) (sym all_taken) complete))),
    )

-- something is said of one run more
verdicts_append : (s : Schedule) (runs : List Recorded) (verdicts : List Verdict) (run : Recorded) (verdict : Verdict)
    → AreVerdicts s runs verdicts → IsVerdict s run verdict → AreVerdicts s (runs ++ run ∷ []) (verdicts ++ verdict ∷ [])
verdicts_append s [] [] run verdict said more = (more, tt)
verdicts_append s [] (v ∷ verdicts) run verdict said more = absurd said
verdicts_append s (r ∷ runs) [] run verdict said more = absurd said
verdicts_append s (r ∷ runs) (v ∷ verdicts) run verdict said more = (said.0, verdicts_append s runs verdicts run verdict said.1 more)

pub verdicts_more : (s : Schedule) (traces : List Recorded) (i : ℕ) (d t : Recorded) (old new : List Verdict) (verdict : Verdict) → t ≡ get_or traces i d → i < length traces
    → AreVerdicts s (take i traces) old → IsVerdict s t verdict → new ≡ old ++ verdict ∷ [] → AreVerdicts s (take (i + 1) traces) new
verdicts_more s traces i d t old new verdict there below said more is =
    let next : i + 1 ≡ suc i = omega arith in
    let runs : take (i + 1) traces ≡ take i traces ++ t ∷ [] =
    ap (λ k. take k traces) next ∙ (take-suc traces i d below ∙ ap (λ (u : Recorded). take i traces ++ u ∷ []) (sym there)) in
    subst (λ rs. AreVerdicts s rs new) (sym runs) (subst (λ vs. AreVerdicts s (take i traces ++ t ∷ []) vs) (sym is)
    (verdicts_append s (take i traces) old t verdict said more))
