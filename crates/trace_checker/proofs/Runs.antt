-- Runs are found again in their lines; no line of runs is out of order, or misplaced.
use Rattle.std.proofs.Common.{◌≡◌, ℕ, zero, suc, ◌<◌, ◌+◌, Bool, true, false, List, [], ◌∷◌, ◌++◌, Option, Some, None, is_some, length, reverse, take, drop, get_or, refl, sym, ap, subst, ◌∙◌, arith}
use Rattle.std.specs.List.{AllByRecursion}
use Rattle.std.proofs.Math.Seq.{take-suc, take-length}
use Rattle.std.proofs.lemmas.Bool.{false≢true}
use Rattle.std.proofs.lemmas.Grind.{reverse_onto}
use Rattle.std.proofs.lemmas.List.{append-nil, append_assoc, reverse-reverse}
use Rattle.model.specs.declared.steps.Step.{Step}
use Rattle.model.specs.declared.steps.Step.TheVariants.{Cond, Start, Skip, Finish, Sync}
use Rattle.model.specs.steps.Schedule.{Recorded}
use Rattle.model.specs.steps.Lawful.{syncs_in}
use Rattle.executor_core.specs.Stands.{AreListed}
use Rattle.trace_checker.specs.declared.line.Line.{Line}
use Rattle.trace_checker.specs.declared.line.Line.TheVariants.{Begin, Take, There}
use Rattle.trace_checker.specs.declared.read.Due.{Due}
use Rattle.trace_checker.specs.declared.read.Due.TheVariants.{Nothing, Opening, After}
use Rattle.trace_checker.specs.Grammar.{sets_line, step_lines, history_lines, lines_from, IsListedRun, AreRecording}
use Rattle.trace_checker.specs.TextFaults.{due_lines, lines_so_far, begun_runs, is_due, IsDue, is_misplaced, IsOutOfOrder}

-- ---- runs are found again

-- with one more list of kind sets
abbrev with_sets : Option (List (List ℕ)) → List ℕ → Option (List (List ℕ))
with_sets None ns = Some (ns ∷ [])
with_sets (Some lists) ns = Some (lists ++ ns ∷ [])

-- the runs behind a line, the latest first
abbrev gather : List Recorded → Line → List Recorded
gather runs (Begin n) = record { steps = []; sets = None } ∷ runs
gather [] (Take step) = []
gather (run ∷ runs) (Take step) = record { steps = step ∷ run.steps; sets = run.sets } ∷ runs
gather [] (There ns) = []
gather (run ∷ runs) (There ns) = record { steps = run.steps; sets = with_sets run.sets ns } ∷ runs

abbrev gathered : List Recorded → List Line → List Recorded
gathered runs [] = runs
gathered runs (line ∷ lines) = gathered (gather runs line) lines

gathered_append : (runs : List Recorded) (a b : List Line) → gathered runs (a ++ b) ≡ gathered (gathered runs a) b
gathered_append runs [] b = refl
gathered_append runs (line ∷ a) b = gathered_append (gather runs line) a b

-- the lists up to that of a place
abbrev up_to : Option (List (List ℕ)) → ℕ → Option (List (List ℕ))
up_to None place = None
up_to (Some lists) place = Some (take (suc place) lists)

-- there is a list for this place
abbrev HasPlace : Option (List (List ℕ)) → ℕ → Type 0
HasPlace None place = Unit {0}
HasPlace (Some lists) place = place < length lists

has-place : (sets : Option (List (List ℕ))) (h : List Step) → AreListed sets h → HasPlace sets (syncs_in h)
has-place None h listed = tt
has-place (Some lists) h listed = omega (arith, listed)

earlier : (sets : Option (List (List ℕ))) (n : ℕ) → HasPlace sets (suc n) → HasPlace sets n
earlier None n has = tt
earlier (Some lists) n has = omega (arith, has)

-- the line of a place
gathered-sets : (sets : Option (List (List ℕ))) (h : List Step) (n : ℕ) (runs : List Recorded) → HasPlace sets (suc n) →
    gathered (record { steps = h; sets = up_to sets n } ∷ runs) (sets_line sets (suc n)) ≡ record { steps = h; sets = up_to sets (suc n) } ∷ runs
gathered-sets None h n runs has = refl
gathered-sets (Some lists) h n runs has = ap (λ (ls : List (List ℕ)). record { steps = h; sets = Some ls } ∷ runs) (sym (take-suc lists (suc n) [] has))

gathered-open : (sets : Option (List (List ℕ))) (runs : List Recorded) → HasPlace sets 0 →
    gathered (record { steps = []; sets = None } ∷ runs) (sets_line sets 0) ≡ record { steps = []; sets = up_to sets 0 } ∷ runs
gathered-open None runs has = refl
gathered-open (Some lists) runs has = ap (λ (ls : List (List ℕ)). record { steps = []; sets = Some ls } ∷ runs) (sym (take-suc lists 0 [] has))

gathered-step : (sets : Option (List (List ℕ))) (h : List Step) (step : Step) (runs : List Recorded) → HasPlace sets (syncs_in (step ∷ h)) →
    gathered (record { steps = h; sets = up_to sets (syncs_in h) } ∷ runs) (step_lines sets h step) ≡ record { steps = step ∷ h; sets = up_to sets (syncs_in (step ∷ h)) } ∷ runs
gathered-step sets h (Cond c answer) runs has = refl
gathered-step sets h (Start n) runs has = refl
gathered-step sets h (Skip n) runs has = refl
gathered-step sets h (Finish n) runs has = refl
gathered-step sets h (Sync k) runs has = gathered-sets sets (Sync k ∷ h) (syncs_in h) runs has

place-before : (sets : Option (List (List ℕ))) (h : List Step) (step : Step) → HasPlace sets (syncs_in (step ∷ h)) → HasPlace sets (syncs_in h)
place-before sets h (Cond c answer) has = has
place-before sets h (Start n) has = has
place-before sets h (Skip n) has = has
place-before sets h (Finish n) has = has
place-before sets h (Sync k) has = earlier sets (syncs_in h) has

gathered-history : (sets : Option (List (List ℕ))) (h : List Step) (runs : List Recorded) → HasPlace sets (syncs_in h) →
    gathered (record { steps = []; sets = None } ∷ runs) (history_lines sets h) ≡ record { steps = h; sets = up_to sets (syncs_in h) } ∷ runs
gathered-history sets [] runs has = gathered-open sets runs has
gathered-history sets (step ∷ h) runs has =
    gathered_append (record { steps = []; sets = None } ∷ runs) (history_lines sets h) (step_lines sets h step)
    ∙ (ap (λ (rs : List Recorded). gathered rs (step_lines sets h step)) (gathered-history sets h runs (place-before sets h step has)) ∙ gathered-step sets h step runs has)

-- all lists are there at the end
all-lists : (sets : Option (List (List ℕ))) (h : List Step) → AreListed sets h → up_to sets (syncs_in h) ≡ sets
all-lists None h listed = refl
all-lists (Some lists) h listed = ap Some (ap (λ k. take k lists) (sym listed) ∙ take-length lists)

gathered-runs : (n : ℕ) (runs before : List Recorded) → AllByRecursion IsListedRun runs → gathered before (lines_from n runs) ≡ reverse runs ++ before
gathered-runs n [] before listed = refl
gathered-runs n (run ∷ runs) before listed =
    gathered_append (record { steps = []; sets = None } ∷ before) (history_lines run.sets run.steps) (lines_from (suc n) runs)
    ∙ (ap (λ (rs : List Recorded). gathered rs (lines_from (suc n) runs)) (gathered-history run.sets run.steps before (has-place run.sets run.steps listed.0) ∙ ap (λ (s : Option (List (List ℕ))). record { steps = run.steps; sets = s } ∷ before) (all-lists run.sets run.steps listed.0))
    ∙ (gathered-runs (suc n) runs (run ∷ before) listed.1 ∙ (sym (append_assoc (reverse runs) (run ∷ []) before) ∙ ap (λ (rs : List Recorded). rs ++ before) (sym (reverse_onto runs run [])))))

-- one list of runs has these lines
pub same_runs : (n : ℕ) (a b : List Recorded) → AllByRecursion IsListedRun a → AllByRecursion IsListedRun b → lines_from n a ≡ lines_from n b → a ≡ b
same_runs n a b x y e =
    let turned : reverse a ≡ reverse b =
    sym (append-nil (reverse a)) ∙ (sym (gathered-runs n a [] x) ∙ (ap (gathered []) e ∙ (gathered-runs n b [] y ∙ append-nil (reverse b)))) in
    sym (reverse-reverse a) ∙ (ap reverse turned ∙ reverse-reverse b)

-- ---- the numbers of runs

-- the numbers of the runs that begin
abbrev begun_in : List Line → List ℕ
begun_in [] = []
begun_in (Begin n ∷ lines) = n ∷ begun_in lines
begun_in (Take step ∷ lines) = begun_in lines
begun_in (There ns ∷ lines) = begun_in lines

-- so many numbers from one on
abbrev counted : ℕ → ℕ → List ℕ
counted n zero = []
counted n (suc k) = n ∷ counted (suc n) k

begun_append : (lines more : List Line) → begun_in (lines ++ more) ≡ begun_in lines ++ begun_in more
begun_append [] more = refl
begun_append (Begin n ∷ lines) more = ap (λ l. n ∷ l) (begun_append lines more)
begun_append (Take step ∷ lines) more = begun_append lines more
begun_append (There ns ∷ lines) more = begun_append lines more

begun-sets : (sets : Option (List (List ℕ))) (place : ℕ) → begun_in (sets_line sets place) ≡ []
begun-sets None place = refl
begun-sets (Some lists) place = refl

begun-step : (sets : Option (List (List ℕ))) (h : List Step) (step : Step) → begun_in (step_lines sets h step) ≡ []
begun-step sets h (Cond c answer) = refl
begun-step sets h (Start n) = refl
begun-step sets h (Skip n) = refl
begun-step sets h (Finish n) = refl
begun-step sets h (Sync k) = begun-sets sets (syncs_in (Sync k ∷ h))

begun-history : (sets : Option (List (List ℕ))) (h : List Step) → begun_in (history_lines sets h) ≡ []
begun-history sets [] = begun-sets sets 0
begun-history sets (step ∷ h) = begun_append (history_lines sets h) (step_lines sets h step) ∙ (ap (λ l. l ++ begun_in (step_lines sets h step)) (begun-history sets h) ∙ begun-step sets h step)

begun-runs : (n : ℕ) (runs : List Recorded) → begun_in (lines_from n runs) ≡ counted n (length runs)
begun-runs n [] = refl
begun-runs n (run ∷ runs) =
    ap (λ l. n ∷ l) (begun_append (history_lines run.sets run.steps) (lines_from (suc n) runs) ∙ (ap (λ l. l ++ begun_in (lines_from (suc n) runs)) (begun-history run.sets run.steps) ∙ begun-runs (suc n) runs))

counted-more : (n k : ℕ) → counted n k ++ (n + k) ∷ [] ≡ counted n (suc k)
counted-more n zero = ap (λ m. m ∷ []) (omega arith)
counted-more n (suc k) = let next : n + suc k ≡ suc n + k = omega arith in ap (λ l. n ∷ l) (ap (λ m. counted (suc n) k ++ m ∷ []) next ∙ counted-more (suc n) k)

begun-so-far : (runs : List Recorded) (due : Due) → begun_in (lines_so_far runs due) ≡ counted 1 (begun_runs runs due)
begun-so-far runs Nothing = ap begun_in (append-nil (lines_from 1 runs)) ∙ begun-runs 1 runs
begun-so-far runs Opening =
    let next : suc (length runs) ≡ 1 + length runs = omega arith in
    begun_append (lines_from 1 runs) (due_lines runs Opening) ∙ (ap (λ l. l ++ suc (length runs) ∷ []) (begun-runs 1 runs) ∙ (ap (λ m. counted 1 (length runs) ++ m ∷ []) next ∙ counted-more 1 (length runs)))
begun-so-far runs (After k) = begun_append (lines_from 1 runs) (due_lines runs (After k)) ∙ (append-nil (begun_in (lines_from 1 runs)) ∙ begun-runs 1 runs)

-- what stands behind so many numbers is the next
next-counted : (n k m : ℕ) (b : ℕ) (more : List ℕ) → counted n k ≡ counted n m ++ b ∷ more → b ≡ n + m
next-counted n zero zero b more e = absurd (omega (arith, ap length e))
next-counted n zero (suc m) b more e = absurd (omega (arith, ap length e))
next-counted n (suc k) zero b more e = omega (arith, ap (λ l. get_or l 0 0) e)
next-counted n (suc k) (suc m) b more e = let p = next-counted (suc n) k m b more (ap (λ l. drop 1 l) e) in omega (arith, p)

-- 1 where the first line begins a run
abbrev opens : List Line → ℕ
opens (Begin n ∷ lines) = 1
opens _ = 0

-- no step stands before the first run
first-begins : (runs : List Recorded) (step : Step) (more : List Line) → lines_from 1 runs ≡ Take step ∷ more → ⊥
first-begins [] step more e = omega (arith, ap length e)
first-begins (run ∷ runs) step more e = omega (arith, ap opens e)

none-begun : (lists : Bool) (runs : List Recorded) (due : Due) → IsDue lists runs due → begun_runs runs due ≡ 0 → lines_so_far runs due ≡ []
none-begun lists [] Nothing is e = refl
none-begun lists (run ∷ runs) Nothing is e = absurd (omega (arith, e))
none-begun lists runs Opening is e = absurd (omega (arith, e))
none-begun lists runs (After k) is e = absurd (omega (arith, e, is.1))

-- no line of runs is out of order behind those before it
pub in_order : (lists : Bool) (others runs : List Recorded) (due : Due) (line : Line) (more : List Line) → IsDue lists runs due → lines_from 1 others ≡ lines_so_far runs due ++ line ∷ more → IsOutOfOrder (begun_runs runs due) line → ⊥
in_order lists others runs due (Take step) more is e out = first-begins others step more (e ∙ ap (λ f. f ++ Take step ∷ more) (none-begun lists runs due is out))
in_order lists others runs due (Begin n) more is e out =
    let k = sym (begun-runs 1 others) ∙ (ap begun_in e ∙ (begun_append (lines_so_far runs due) (Begin n ∷ more) ∙ ap (λ l. l ++ n ∷ begun_in more) (begun-so-far runs due))) in
    let m = next-counted 1 (length others) (begun_runs runs due) n (begun_in more) k in
    out (omega (arith, m))
in_order lists others runs due (There ns) more is e out = out

-- ---- kind sets are where they are wanted

-- whether kind sets are wanted behind a step, in a text that tells them or not
abbrev pub wants : Bool → Step → Bool
wants lists (Cond c answer) = false
wants lists (Start n) = false
wants lists (Skip n) = false
wants lists (Finish n) = false
wants lists (Sync k) = lists

-- kind sets are wanted or not before some lines, stand in them just where they are wanted, and are wanted or not behind them
abbrev pub IsToldTo : Bool → Bool → List Line → Bool → Type 0
IsToldTo lists w [] v = w ≡ v
IsToldTo lists w (Begin n ∷ lines) v = (w ≡ false) × IsToldTo lists lists lines v
IsToldTo lists w (Take step ∷ lines) v = (w ≡ false) × IsToldTo lists (wants lists step) lines v
IsToldTo lists w (There ns ∷ lines) v = (w ≡ true) × IsToldTo lists false lines v

told-append : (lists w m v : Bool) (a b : List Line) → IsToldTo lists w a m → IsToldTo lists m b v → IsToldTo lists w (a ++ b) v
told-append lists w m v [] b x y = subst (λ t. IsToldTo lists t b v) (sym x) y
told-append lists w m v (Begin n ∷ a) b x y = (x.0, told-append lists lists m v a b x.1 y)
told-append lists w m v (Take step ∷ a) b x y = (x.0, told-append lists (wants lists step) m v a b x.1 y)
told-append lists w m v (There ns ∷ a) b x y = (x.0, told-append lists false m v a b x.1 y)

told-behind : (lists w m v : Bool) (a b : List Line) → IsToldTo lists w (a ++ b) v → IsToldTo lists w a m → IsToldTo lists m b v
told-behind lists w m v [] b x y = subst (λ t. IsToldTo lists t b v) y x
told-behind lists w m v (Begin n ∷ a) b x y = told-behind lists lists m v a b x.1 y.1
told-behind lists w m v (Take step ∷ a) b x y = told-behind lists (wants lists step) m v a b x.1 y.1
told-behind lists w m v (There ns ∷ a) b x y = told-behind lists false m v a b x.1 y.1

told-sets : (lists : Bool) (sets : Option (List (List ℕ))) (place : ℕ) → is_some sets ≡ lists → IsToldTo lists lists (sets_line sets place) false
told-sets lists None place e = sym e
told-sets lists (Some ls) place e = (sym e, refl)

told-step : (lists : Bool) (sets : Option (List (List ℕ))) (h : List Step) (step : Step) → is_some sets ≡ lists → IsToldTo lists false (step_lines sets h step) false
told-step lists sets h (Cond c answer) e = (refl, refl)
told-step lists sets h (Start n) e = (refl, refl)
told-step lists sets h (Skip n) e = (refl, refl)
told-step lists sets h (Finish n) e = (refl, refl)
told-step lists sets h (Sync k) e = (refl, told-sets lists sets (syncs_in (Sync k ∷ h)) e)

told-history : (lists : Bool) (sets : Option (List (List ℕ))) (h : List Step) → is_some sets ≡ lists → IsToldTo lists lists (history_lines sets h) false
told-history lists sets [] e = told-sets lists sets 0 e
told-history lists sets (step ∷ h) e = told-append lists lists false false (history_lines sets h) (step_lines sets h step) (told-history lists sets h e) (told-step lists sets h step e)

pub told_runs : (lists : Bool) (n : ℕ) (runs : List Recorded) → AreRecording lists runs → IsToldTo lists false (lines_from n runs) false
told_runs lists n [] alike = refl
told_runs lists n (run ∷ runs) alike =
    (refl, told-append lists lists false false (history_lines run.sets run.steps) (lines_from (suc n) runs) (told-history lists run.sets run.steps alike.0) (told_runs lists (suc n) runs alike.1))

told-due : (lists : Bool) (runs : List Recorded) (due : Due) → IsDue lists runs due → IsToldTo lists false (due_lines runs due) (is_due due)
told-due lists runs Nothing is = refl
told-due lists runs Opening is = (refl, is)
told-due lists runs (After k) is = (refl, is.0)

-- behind lines that are read kind sets are wanted just where they are due
told-more : (lists : Bool) (others runs : List Recorded) (due : Due) (more : List Line) → AreRecording lists others → AreRecording lists runs → IsDue lists runs due
    → lines_from 1 others ≡ lines_so_far runs due ++ more → IsToldTo lists (is_due due) more false
told-more lists others runs due more theirs ours is e =
    told-behind lists false (is_due due) false (lines_so_far runs due) more (subst (λ l. IsToldTo lists false l false) e (told_runs lists 1 others theirs))
    (told-append lists false false (is_due due) (lines_from 1 runs) (due_lines runs due) (told_runs lists 1 runs ours) (told-due lists runs due is))

misplaced-first : (lists : Bool) (due : Due) (line : Line) (more : List Line) → IsToldTo lists (is_due due) (line ∷ more) false → is_misplaced due line ≡ false
misplaced-first lists Nothing (Begin n) more told = refl
misplaced-first lists Nothing (Take step) more told = refl
misplaced-first lists Nothing (There ns) more told = absurd (false≢true told.0)
misplaced-first lists Opening (Begin n) more told = absurd (false≢true (sym told.0))
misplaced-first lists Opening (Take step) more told = absurd (false≢true (sym told.0))
misplaced-first lists Opening (There ns) more told = refl
misplaced-first lists (After k) (Begin n) more told = absurd (false≢true (sym told.0))
misplaced-first lists (After k) (Take step) more told = absurd (false≢true (sym told.0))
misplaced-first lists (After k) (There ns) more told = refl

-- no line of runs is misplaced behind those before it
pub in_place : (lists : Bool) (others runs : List Recorded) (due : Due) (line : Line) (more : List Line) → AreRecording lists others → AreRecording lists runs → IsDue lists runs due
    → lines_from 1 others ≡ lines_so_far runs due ++ line ∷ more → is_misplaced due line ≡ true → ⊥
in_place lists others runs due line more theirs ours is e wrong = false≢true (sym (misplaced-first lists due line more (told-more lists others runs due (line ∷ more) theirs ours is e)) ∙ wrong)

-- and none is missing at the end
pub none_due : (lists : Bool) (others runs : List Recorded) (due : Due) → AreRecording lists others → AreRecording lists runs → IsDue lists runs due
    → lines_from 1 others ≡ lines_so_far runs due → is_due due ≡ false
none_due lists others runs due theirs ours is e = told-more lists others runs due [] theirs ours is (e ∙ sym (append-nil (lines_so_far runs due)))
