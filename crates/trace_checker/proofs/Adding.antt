-- The lines of runs with one more line.
use Rattle.std.proofs.Common.{◌≡◌, ℕ, zero, suc, ◌<◌, ◌+◌, ◌-◌, Bool, true, false, List, [], ◌∷◌, ◌++◌, Option, Some, None, is_some, length, get_or, set, refl, sym, ap, subst, ◌∙◌, arith}
use Rattle.std.specs.List.{AllByRecursion}
use Rattle.std.proofs.lemmas.Bool.{false≢true}
use Rattle.std.proofs.lemmas.List.{append_assoc, append-nil}
use Rattle.model.specs.declared.steps.Step.{Step}
use Rattle.model.specs.declared.steps.Step.TheVariants.{Cond, Start, Skip, Finish, Sync}
use Rattle.model.specs.steps.Schedule.{Recorded}
use Rattle.model.specs.steps.Lawful.{syncs_in}
use Rattle.executor_core.specs.Stands.{AreListed, IsPlainStep}
use Rattle.executor_core.specs.Traces.{with_list}
use Rattle.trace_checker.specs.declared.line.Line.{Line}
use Rattle.trace_checker.specs.declared.line.Line.TheVariants.{Begin, Take, There}
use Rattle.trace_checker.specs.declared.read.Due.{Due}
use Rattle.trace_checker.specs.declared.read.Due.TheVariants.{Nothing, Opening, After}
use Rattle.trace_checker.specs.Grammar.{sets_line, step_lines, history_lines, run_lines, lines_from, IsListedRun, records}
use Rattle.trace_checker.specs.TextFaults.{lines_so_far, IsDue, AreBegun}
use Rattle.model.proofs.lists.Each.{each-at}
use Rattle.model.proofs.lists.Places.{get_or-last}

-- ---- runs behind others

-- the lines of runs, and of those behind them
pub lines_from_append : (n : ℕ) (a b : List Recorded) → lines_from n (a ++ b) ≡ lines_from n a ++ lines_from (n + length a) b
lines_from_append n [] b = ap (λ k. lines_from k b) (omega arith)
lines_from_append n (run ∷ a) b =
    let k : suc n + length a ≡ n + length (run ∷ a) = omega arith in
    ap (λ l. run_lines n run ++ l) (lines_from_append (suc n) a b ∙ ap (λ m. lines_from (suc n) a ++ lines_from m b) k) ∙ sym (append_assoc (run_lines n run) (lines_from (suc n) a) (lines_from (n + length (run ∷ a)) b))

-- a run behind others
pub lines_from_pushed : (n : ℕ) (a : List Recorded) (run : Recorded) → lines_from n (a ++ run ∷ []) ≡ lines_from n a ++ run_lines (n + length a) run
lines_from_pushed n a run = lines_from_append n a (run ∷ []) ∙ ap (λ l. lines_from n a ++ l) (append-nil (run_lines (n + length a) run))

-- a run that begins behind others
pushed-so-far : (items next : List Recorded) (run : Recorded) → next ≡ items ++ run ∷ [] → lines_so_far next Nothing ≡ lines_from 1 items ++ run_lines (suc (length items)) run
pushed-so-far items next run e =
    let count : 1 + length items ≡ suc (length items) = omega arith in
    append-nil (lines_from 1 next) ∙ (ap (lines_from 1) e ∙ (lines_from_pushed 1 items run ∙ ap (λ k. lines_from 1 items ++ run_lines k run) count))

-- and records no kind sets
pub begun_added : (items next : List Recorded) (run : Recorded) → next ≡ items ++ run ∷ [] → run.steps ≡ [] → run.sets ≡ None → lines_so_far next Nothing ≡ lines_from 1 items ++ Begin (suc (length items)) ∷ []
begun_added items next run e none bare =
    pushed-so-far items next run e ∙ ap (λ l. lines_from 1 items ++ Begin (suc (length items)) ∷ l) (ap (λ s. history_lines s run.steps) bare ∙ ap (history_lines None) none)

-- and records these at its opening
pub opening_added : (items next : List Recorded) (run : Recorded) (ns : List ℕ) (due : Due) → due ≡ Opening → next ≡ items ++ run ∷ [] → run.steps ≡ [] → run.sets ≡ Some (ns ∷ [])
    → lines_so_far next Nothing ≡ lines_so_far items due ++ There ns ∷ []
opening_added items next run ns due is e none bare =
    pushed-so-far items next run e
    ∙ (ap (λ l. lines_from 1 items ++ Begin (suc (length items)) ∷ l) (ap (λ s. history_lines s run.steps) bare ∙ ap (history_lines (Some (ns ∷ []))) none)
    ∙ (sym (append_assoc (lines_from 1 items) (Begin (suc (length items)) ∷ []) (There ns ∷ [])) ∙ ap (λ d. lines_so_far items d ++ There ns ∷ []) (sym is)))

-- ---- a longer last run

-- its lines are those that it adds
last-longer : (n i : ℕ) (runs : List Recorded) (run d : Recorded) (more : List Line) → suc i ≡ length runs
    → history_lines run.sets run.steps ≡ history_lines (get_or runs i d).sets (get_or runs i d).steps ++ more → lines_from n (set runs i run) ≡ lines_from n runs ++ more
last-longer n i [] run d more count e = absurd (omega (arith, count))
last-longer n zero (old ∷ []) run d more count e =
    append-nil (run_lines n run) ∙ (ap (λ l. Begin n ∷ l) e ∙ ap (λ l. l ++ more) (sym (append-nil (run_lines n old))))
last-longer n zero (old ∷ other ∷ runs) run d more count e = absurd (omega (arith, count))
last-longer n (suc i) (old ∷ runs) run d more count e =
    ap (λ l. run_lines n old ++ l) (last-longer (suc n) i runs run d more (omega (arith, count)) e) ∙ sym (append_assoc (run_lines n old) (lines_from (suc n) runs) more)

-- as it is written back
written-longer : (items : List Recorded) (len : ℕ) (d run last : Recorded) (more : List Line) → len ≡ length items → 0 < length items → last ≡ get_or items (len - 1) d
    → history_lines run.sets run.steps ≡ history_lines last.sets last.steps ++ more → lines_so_far (set items (len - 1) run) Nothing ≡ lines_from 1 items ++ more
written-longer items len d run last more size filled there e =
    append-nil (lines_from 1 (set items (len - 1) run))
    ∙ last-longer 1 (len - 1) items run d more (omega (arith, size, filled)) (e ∙ ap (λ (r : Recorded). history_lines r.sets r.steps ++ more) there)

-- a step that is no sync point, or in a run that records no kind sets, has one line
plain-step : (sets : Option (List (List ℕ))) (h : List Step) (step : Step) → IsPlainStep sets step → step_lines sets h step ≡ Take step ∷ []
plain-step sets h (Cond c answer) plain = refl
plain-step sets h (Start n) plain = refl
plain-step sets h (Skip n) plain = refl
plain-step sets h (Finish n) plain = refl
plain-step sets h (Sync k) plain = ap (λ s. Take (Sync k) ∷ sets_line s (syncs_in (Sync k ∷ h))) plain

-- a step of the last run
pub step_added : (items : List Recorded) (len : ℕ) (d run last : Recorded) (step : Step) → len ≡ length items → 0 < length items → last ≡ get_or items (len - 1) d
    → run.steps ≡ step ∷ last.steps → run.sets ≡ last.sets → IsPlainStep last.sets step → lines_so_far (set items (len - 1) run) Nothing ≡ lines_from 1 items ++ Take step ∷ []
step_added items len d run last step size filled there steps sets plain =
    written-longer items len d run last (Take step ∷ []) size filled there
    (ap (λ s. history_lines s run.steps) sets ∙ (ap (history_lines last.sets) steps ∙ ap (λ l. history_lines last.sets last.steps ++ l) (plain-step last.sets last.steps step plain)))

-- ---- one more list of kind sets

-- one more list at the end changes nothing before it
get-before : (xs : List (List ℕ)) (x : List ℕ) (i : ℕ) → i < length xs → get_or (xs ++ x ∷ []) i [] ≡ get_or xs i []
get-before [] x i below = absurd (omega (arith, below))
get-before (y ∷ ys) x zero below = refl
get-before (y ∷ ys) x (suc i) below = get-before ys x i (omega (arith, below))

same-step : (lists : List (List ℕ)) (ns : List ℕ) (h : List Step) (step : Step) → syncs_in (step ∷ h) < length lists → step_lines (Some (lists ++ ns ∷ [])) h step ≡ step_lines (Some lists) h step
same-step lists ns h (Cond c answer) below = refl
same-step lists ns h (Start n) below = refl
same-step lists ns h (Skip n) below = refl
same-step lists ns h (Finish n) below = refl
same-step lists ns h (Sync k) below = ap (λ l. Take (Sync k) ∷ There l ∷ []) (get-before lists ns (syncs_in (Sync k ∷ h)) below)

fewer : (h : List Step) (step : Step) (n : ℕ) → syncs_in (step ∷ h) < n → syncs_in h < n
fewer h (Cond c answer) n below = below
fewer h (Start m) n below = below
fewer h (Skip m) n below = below
fewer h (Finish m) n below = below
fewer h (Sync k) n below = omega (arith, below)

same-history : (lists : List (List ℕ)) (ns : List ℕ) (h : List Step) → syncs_in h < length lists → history_lines (Some (lists ++ ns ∷ [])) h ≡ history_lines (Some lists) h
same-history lists ns [] below = ap (λ l. There l ∷ []) (get-before lists ns 0 below)
same-history lists ns (step ∷ h) below =
    ap (λ l. l ++ step_lines (Some (lists ++ ns ∷ [])) h step) (same-history lists ns h (fewer h step (length lists) below))
    ∙ ap (λ l. history_lines (Some lists) h ++ l) (same-step lists ns h step below)

sync-lines : (sets : Option (List (List ℕ))) (h : List Step) (k : ℕ) (ns : List ℕ) → is_some sets ≡ true → AreListed sets h
    → history_lines (with_list ns sets) (Sync k ∷ h) ≡ history_lines sets h ++ Take (Sync k) ∷ There ns ∷ []
sync-lines None h k ns some listed = absurd (false≢true some)
sync-lines (Some lists) h k ns some listed =
    ap (λ l. l ++ Take (Sync k) ∷ There (get_or (lists ++ ns ∷ []) (suc (syncs_in h)) []) ∷ []) (same-history lists ns h (omega (arith, listed)))
    ∙ ap (λ l. history_lines (Some lists) h ++ Take (Sync k) ∷ There l ∷ []) (get_or-last lists ns (suc (syncs_in h)) [] listed)

-- a sync point of the last run, and the kind sets after it
pub sync_added : (items : List Recorded) (len : ℕ) (d run last : Recorded) (k : ℕ) (ns : List ℕ) (due : Due) → due ≡ After k → AreBegun true items due → len ≡ length items → last ≡ get_or items (len - 1) d
    → run.steps ≡ Sync k ∷ last.steps → run.sets ≡ with_list ns last.sets → lines_so_far (set items (len - 1) run) Nothing ≡ lines_so_far items due ++ There ns ∷ []
sync_added items len d run last k ns due is begun size there steps sets =
    let filled : 0 < length items = (subst (λ x. IsDue true items x) is begun.waits).1 in
    let below : len - 1 < length items = omega (arith, size, filled) in
    let some : is_some last.sets ≡ true = subst (λ (r : Recorded). records r ≡ true) (sym there) (each-at (λ r. records r ≡ true) items (len - 1) d below begun.alike) in
    let listed : IsListedRun last = subst IsListedRun (sym there) (each-at IsListedRun items (len - 1) d below begun.listed) in
    written-longer items len d run last (Take (Sync k) ∷ There ns ∷ []) size filled there
    (ap (λ s. history_lines s run.steps) sets ∙ (ap (history_lines (with_list ns last.sets)) steps ∙ sync-lines last.sets last.steps k ns some listed))
    ∙ (sym (append_assoc (lines_from 1 items) (Take (Sync k) ∷ []) (There ns ∷ [])) ∙ ap (λ x. lines_so_far items x ++ There ns ∷ []) (sym is))

-- ---- plain steps

bare : (sets : Option (List (List ℕ))) → is_some sets ≡ false → sets ≡ None
bare None e = refl
bare (Some lists) e = absurd (false≢true (sym e))

-- and any step of the last run, in a text that tells no kind sets
pub plain_bare : (lists : Bool) (items : List Recorded) (len : ℕ) (d last : Recorded) (step : Step) → lists ≡ false → AreBegun lists items Nothing → len ≡ length items → 0 < length items
    → last ≡ get_or items (len - 1) d → IsPlainStep last.sets step
plain_bare lists items len d last step none begun size filled there = plain step where
  known : is_some last.sets ≡ false
  known = subst (λ (r : Recorded). records r ≡ lists) (sym there) (each-at (λ r. records r ≡ lists) items (len - 1) d (omega (arith, size, filled)) begun.alike) ∙ none

  plain : (s : Step) → IsPlainStep last.sets s
  plain (Cond c answer) = tt
  plain (Start n) = tt
  plain (Skip n) = tt
  plain (Finish n) = tt
  plain (Sync k) = bare last.sets known
