-- The text of lines and runs, one more at a time.
use Rattle.std.proofs.Common.{◌≡◌, ℕ, suc, ◌<◌, ◌≤◌, ◌+◌, List, [], ◌∷◌, ◌++◌, Option, Some, None, length, reverse, take, drop, get_or, refl, sym, ap, ◌∙◌, arith}
use Rattle.std.proofs.lemmas.List.{append_assoc, length-append, length-reverse, length-take-le, take-append-drop, reverse-append, take_more}
use Rattle.model.specs.declared.steps.Step.{Step}
use Rattle.model.specs.declared.steps.Step.TheVariants.{Cond, Start, Skip, Finish, Sync}
use Rattle.model.specs.steps.Schedule.{Recorded}
use Rattle.model.specs.steps.Lawful.{syncs_in}
use Rattle.executor_core.specs.Stands.{AreListed}
use Rattle.trace_checker.specs.declared.line.Line.{Line}
use Rattle.trace_checker.specs.declared.line.Line.TheVariants.{Begin, Take}
use Rattle.trace_checker.specs.Grammar.{AreWithin, sets_line, step_lines, history_lines, line_text, lines_text, run_lines, lines_from, trace_text}
use Rattle.trace_checker.proofs.Lines.{lines_append}
use Rattle.trace_checker.proofs.Adding.{lines_from_append, lines_from_pushed}

-- ---- the steps so far

-- the latest of them first
pub turned_more : (steps : List Step) (i : ℕ) (d : Step) → i < length steps → reverse (take (i + 1) steps) ≡ get_or steps i d ∷ reverse (take i steps)
turned_more steps i d below = ap reverse (take_more steps i d below) ∙ reverse-append (take i steps) (get_or steps i d ∷ [])

-- no more sync points than steps
syncs-le : (h : List Step) → syncs_in h ≤ length h
syncs-le [] = omega arith
syncs-le (Cond c answer ∷ h) = omega (arith, syncs-le h)
syncs-le (Start n ∷ h) = omega (arith, syncs-le h)
syncs-le (Skip n ∷ h) = omega (arith, syncs-le h)
syncs-le (Finish n ∷ h) = omega (arith, syncs-le h)
syncs-le (Sync k ∷ h) = omega (arith, syncs-le h)

pub syncs_within : (steps : List Step) (i : ℕ) → i ≤ length steps → syncs_in (reverse (take i steps)) ≤ i
syncs_within steps i below = omega (arith, syncs-le (reverse (take i steps)), length-reverse (take i steps), length-take-le i steps below)

syncs-append : (a b : List Step) → syncs_in (a ++ b) ≡ syncs_in a + syncs_in b
syncs-append [] b = omega arith
syncs-append (Cond c answer ∷ a) b = syncs-append a b
syncs-append (Start n ∷ a) b = syncs-append a b
syncs-append (Skip n ∷ a) b = syncs-append a b
syncs-append (Finish n ∷ a) b = syncs-append a b
syncs-append (Sync k ∷ a) b = omega (arith, syncs-append a b)

-- there is a list for each place so far
pub place_within : (sets : Option (List (List ℕ))) (h steps : List Step) (i place : ℕ) → h ≡ reverse steps → AreListed sets h → place ≡ syncs_in (reverse (take i steps)) → AreWithin place sets
place_within None h steps i place turned listed here = tt
place_within (Some lists) h steps i place turned listed here =
    let parts : reverse steps ≡ reverse (drop i steps) ++ reverse (take i steps) = ap reverse (sym (take-append-drop i steps)) ∙ reverse-append (take i steps) (drop i steps) in
    let sum : syncs_in h ≡ syncs_in (reverse (drop i steps)) + syncs_in (reverse (take i steps)) = ap syncs_in (turned ∙ parts) ∙ syncs-append (reverse (drop i steps)) (reverse (take i steps)) in
    omega (arith, listed, here, sum)

-- ---- writing

-- lines more
pub lines_more : (n : ℕ) (lines more : List Line) (front now next : List ℕ) → now ≡ front ++ lines_text (Begin n ∷ lines) → next ≡ now ++ lines_text more → next ≡ front ++ lines_text (Begin n ∷ (lines ++ more))
lines_more n lines more front now next before after =
    after ∙ (ap (λ l. l ++ lines_text more) before ∙ (append_assoc front (lines_text (Begin n ∷ lines)) (lines_text more) ∙ ap (λ l. front ++ l) (sym (lines_append (Begin n ∷ lines) more))))

-- a step more that is no sync point
plain-lines : (sets : Option (List (List ℕ))) (h : List Step) (step : Step) → ((k : ℕ) → step ≡ Sync k → ⊥) → step_lines sets h step ≡ Take step ∷ []
plain-lines sets h (Cond c answer) other = refl
plain-lines sets h (Start n) other = refl
plain-lines sets h (Skip n) other = refl
plain-lines sets h (Finish n) other = refl
plain-lines sets h (Sync k) other = absurd (other k refl)

plain-syncs : (h : List Step) (step : Step) → ((k : ℕ) → step ≡ Sync k → ⊥) → syncs_in (step ∷ h) ≡ syncs_in h
plain-syncs h (Cond c answer) other = refl
plain-syncs h (Start n) other = refl
plain-syncs h (Skip n) other = refl
plain-syncs h (Finish n) other = refl
plain-syncs h (Sync k) other = absurd (other k refl)

-- steps so far of which the next is known
module _ (steps : List Step) (i : ℕ) (d step : Step) (below : i < length steps) (is : get_or steps i d ≡ step) where
  next-turned : reverse (take (i + 1) steps) ≡ step ∷ reverse (take i steps)
  next-turned = turned_more steps i d below ∙ ap (λ s. s ∷ reverse (take i steps)) is

  pub plain_place : (place : ℕ) → ((k : ℕ) → step ≡ Sync k → ⊥) → place ≡ syncs_in (reverse (take i steps)) → place ≡ syncs_in (reverse (take (i + 1) steps))
  plain_place place other here = here ∙ sym (ap syncs_in next-turned ∙ plain-syncs (reverse (take i steps)) step other)

  pub plain_written : (n : ℕ) (sets : Option (List (List ℕ))) (front now next : List ℕ) → ((k : ℕ) → step ≡ Sync k → ⊥) → now ≡ front ++ lines_text (Begin n ∷ history_lines sets (reverse (take i steps)))
      → next ≡ now ++ lines_text (Take step ∷ []) → next ≡ front ++ lines_text (Begin n ∷ history_lines sets (reverse (take (i + 1) steps)))
  plain_written n sets front now next other before after =
      lines_more n (history_lines sets (reverse (take i steps))) (Take step ∷ []) front now next before after
      ∙ ap (λ l. front ++ lines_text (Begin n ∷ l)) (ap (λ l. history_lines sets (reverse (take i steps)) ++ l) (sym (plain-lines sets (reverse (take i steps)) step other)) ∙ ap (history_lines sets) (sym next-turned))

-- and so where that is a sync point
module _ (steps : List Step) (i : ℕ) (d : Step) (k : ℕ) (below : i < length steps) (is : get_or steps i d ≡ Sync k) (place : ℕ) (here : place ≡ syncs_in (reverse (take i steps))) where
  pub sync_place : place + 1 ≡ syncs_in (reverse (take (i + 1) steps))
  sync_place = let e : syncs_in (reverse (take (i + 1) steps)) ≡ suc (syncs_in (reverse (take i steps))) = ap syncs_in (next-turned steps i d (Sync k) below is) in omega (arith, e, here)

  pub sync_written : (n : ℕ) (sets : Option (List (List ℕ))) (front now mid next : List ℕ) → now ≡ front ++ lines_text (Begin n ∷ history_lines sets (reverse (take i steps)))
      → mid ≡ now ++ lines_text (Take (Sync k) ∷ []) → next ≡ mid ++ lines_text (sets_line sets (place + 1)) → next ≡ front ++ lines_text (Begin n ∷ history_lines sets (reverse (take (i + 1) steps)))
  sync_written n sets front now mid next before middle after =
      let there : place + 1 ≡ suc (syncs_in (reverse (take i steps))) = omega (arith, here) in
      let both : next ≡ now ++ lines_text (Take (Sync k) ∷ sets_line sets (suc (syncs_in (reverse (take i steps))))) =
      after ∙ (ap (λ m. m ++ lines_text (sets_line sets (place + 1))) middle ∙ (append_assoc now (lines_text (Take (Sync k) ∷ [])) (lines_text (sets_line sets (place + 1)))
      ∙ (ap (λ l. now ++ l) (append_assoc (line_text (Take (Sync k))) (10 ∷ []) (lines_text (sets_line sets (place + 1)))) ∙ ap (λ p. now ++ lines_text (Take (Sync k) ∷ sets_line sets p)) there))) in
      lines_more n (history_lines sets (reverse (take i steps))) (Take (Sync k) ∷ sets_line sets (suc (syncs_in (reverse (take i steps))))) front now next before both
      ∙ ap (λ h. front ++ lines_text (Begin n ∷ history_lines sets h)) (sym (next-turned steps i d (Sync k) below is))

-- the text of a run more
trace-text-more : (i : ℕ) (traces : List Recorded) (d : Recorded) → i < length traces
    → trace_text (take (i + 1) traces) ≡ trace_text (take i traces) ++ lines_text (run_lines (i + 1) (get_or traces i d))
trace-text-more i traces d below =
    let runs = take i traces in
    let run = get_or traces i d in
    let count : 1 + length runs ≡ i + 1 = omega (arith, length-take-le i traces (omega (arith, below))) in
    ap trace_text (take_more traces i d below) ∙ (ap lines_text (lines_from_pushed 1 runs run ∙ ap (λ k. lines_from 1 runs ++ run_lines k run) count) ∙ lines_append (lines_from 1 runs) (run_lines (i + 1) run))

-- a text that is written so far
pub text_more : (traces : List Recorded) (i : ℕ) (d t : Recorded) (number : ℕ) (now next : List ℕ) → t ≡ get_or traces i d → i < length traces → number ≡ i → now ≡ trace_text (take i traces)
    → next ≡ now ++ lines_text (run_lines (number + 1) t) → next ≡ trace_text (take (i + 1) traces)
text_more traces i d t number now next there below count before after =
    after ∙ (ap (λ l. l ++ lines_text (run_lines (number + 1) t)) before
    ∙ (ap (λ u. trace_text (take i traces) ++ lines_text (run_lines (number + 1) u)) there
    ∙ (ap (λ k. trace_text (take i traces) ++ lines_text (run_lines (k + 1) (get_or traces i d))) count ∙ sym (trace-text-more i traces d below))))

-- the text of some runs is no longer than that of all
trace-text-front : (i : ℕ) (traces : List Recorded) → length (trace_text (take i traces)) ≤ length (trace_text traces)
trace-text-front i traces =
    let e : traces ≡ take i traces ++ drop i traces = sym (take-append-drop i traces) in
    let f = ap trace_text e ∙ (ap lines_text (lines_from_append 1 (take i traces) (drop i traces)) ∙ lines_append (lines_from 1 (take i traces)) (lines_from (1 + length (take i traces)) (drop i traces))) in
    omega (arith, ap length f, length-append (lines_text (lines_from 1 (take i traces))) (lines_text (lines_from (1 + length (take i traces)) (drop i traces))))

-- a text that is too long so far
pub text_too_long : (traces : List Recorded) (i : ℕ) (d t : Recorded) (number : ℕ) (now next : List ℕ) (len limit : ℕ) → t ≡ get_or traces i d → i < length traces → number ≡ i
    → now ≡ trace_text (take i traces) → next ≡ now ++ lines_text (run_lines (number + 1) t) → len ≡ length next → limit < len → limit < length (trace_text traces)
text_too_long traces i d t number now next len limit there below count before after size past =
    let e = text_more traces i d t number now next there below count before after in
    omega (arith, ap length e, size, past, trace-text-front (i + 1) traces)
