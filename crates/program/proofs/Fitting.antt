-- Scripts that fit their systems, one after the other.
use Rattle.std.proofs.Common.{◌≡◌, ℕ, zero, suc, ◌<◌, true, List, [], ◌∷◌, ◌++◌, length, map, slice_get, get_or, None, Some, refl, ap, sym, ◌∙◌, arith}
use Rattle.std.proofs.lemmas.List.{length-map}
use Rattle.model.specs.access.Access.{Params, no_params}
use Rattle.model.specs.declarations.Declarations.{Declared}
use Rattle.model.specs.steps.Schedule.{Schedule, ScheduledSystem, params_of}
use Rattle.model.specs.declarations.ScheduleOrder.{HasDeclaredSystems}
use Rattle.script.specs.declared.script_body.ScriptBody.{ScriptBody}
use Rattle.script.specs.Script.{ScriptBlock}
use Rattle.script.specs.Faults.{fits, script_fault}
use Rattle.script.specs.declared.fault.ScriptFault.{ScriptFault}
use Rattle.program.specs.declared.fault.Fault.{Fault}
use Rattle.program.specs.declared.fault.Fault.TheVariants.{Script, Memory}
use Rattle.program.specs.declared.schedule.Code.{Code}
use Rattle.program.specs.Fault.{IsScriptFault}
use Rattle.program.specs.Said.{script_said}
use Rattle.program.specs.Refused.{IsScriptRefused, IsUnscripted}
use Rattle.program.specs.Setup.{script_fits, fits_at}

-- a script without a fault fits
pub fits-none : (params : Params) (script : List ScriptBlock) → script_fault params script ≡ None → fits params script ≡ true
unfolding fits
fits-none params script e = rw e refl

fits-each : (params : ℕ → Params) (scripts : List ScriptBody) (script : ScriptBody) → ((n : ℕ) → n < length scripts → script_fits (slice_get scripts n) (params n) ≡ true)
    → fits (params (length scripts)) script ≡ true → (n : ℕ) → n < length (scripts ++ script ∷ []) → script_fits (slice_get (scripts ++ script ∷ []) n) (params n) ≡ true
fits-each params [] script h f zero l = f
fits-each params [] script h f (suc n) l = absurd (omega arith)
fits-each params (x ∷ scripts) script h f zero l = h zero (omega arith)
fits-each params (x ∷ scripts) script h f (suc n) l = fits-each (λ k. params (suc k)) scripts script (λ m k. h (suc m) (omega arith)) f n (omega arith)

-- one more script that fits its system
pub fits-more : (s : Schedule) (scripts next : List ScriptBody) (script : ScriptBody) → ((n : ℕ) → n < length scripts → fits_at s scripts n ≡ true)
    → fits (params_of s (length scripts)) script ≡ true → next ≡ scripts ++ script ∷ [] → (n : ℕ) → n < length next → fits_at s next n ≡ true
fits-more s scripts next script h f is = rw is (fits-each (params_of s) scripts script h f)

get_or-as : {A : Type 0} (xs ys : List A) (k n : ℕ) (d e : A) → k < length xs → xs ≡ ys → k ≡ n → get_or xs k d ≡ get_or ys n e
get_or-as [] ys k n d e l all same = absurd (omega arith)
get_or-as (x ∷ xs) ys zero n d e l all same = rw (sym all, sym same) refl
get_or-as (x ∷ xs) ys (suc k) n d e l all same = rw (sym all, sym same) (get_or-as xs xs k k d e (omega arith) refl refl)

-- the parameters of the system at a place
pub params-at : (s : Schedule) (k n : ℕ) (systems : List ScheduledSystem) (system : ScheduledSystem) (params : Params) → k < length systems → systems ≡ s.systems → k ≡ n
    → system ≡ get_or systems k system → params ≡ system.params → params ≡ params_of s n
params-at s k n systems system params l all same at is =
    is ∙ ap (λ (x : ScheduledSystem). x.params) (at ∙ get_or-as systems s.systems k n system (record { params = no_params; predecessors = []; level = 0 }) l all same)

-- a schedule has as many systems as are declared
pub count-declared : (d : Declared) (s : Schedule) → HasDeclaredSystems d s → length s.systems ≡ length d.systems
count-declared d s h = sym (length-map s.systems (λ x. x.params)) ∙ ap length h ∙ length-map d.systems (λ x. x.params)

-- ---- scripts that are refused

-- the name of the code at a place
pub name-at : (codes : List Code) (n : ℕ) (code : Code) → n < length codes → code ≡ get_or codes n code → get_or (map (λ (x : Code). x.name.now) codes) n [] ≡ code.name.now
name-at [] n code l e = absurd (omega arith)
name-at (x ∷ codes) zero code l e = ap (λ (y : Code). y.name.now) (sym e)
name-at (x ∷ codes) (suc n) code l e = name-at codes n code (omega arith) e

-- its script
pub script-at : (codes : List Code) (n : ℕ) (code : Code) → n < length codes → code ≡ get_or codes n code → get_or (map (λ (x : Code). script_said x.blocks) codes) n [] ≡ script_said code.blocks
script-at [] n code l e = absurd (omega arith)
script-at (x ∷ codes) zero code l e = ap (λ (y : Code). script_said y.blocks) (sym e)
script-at (x ∷ codes) (suc n) code l e = script-at codes n code (omega arith) e

-- the first fault of a script, as it is told
pub script-refusal : (s : Schedule) (n : ℕ) (name : List ℕ) (fault : ScriptFault) (script : ScriptBody) (told : Fault) → IsScriptFault name fault told → script_fault (params_of s n) script ≡ Some fault → IsScriptRefused s n name script told
script-refusal s n name fault script (Script cause system block instruction) is first =
    (sym is.1, first ∙ ap (λ (f : ScriptFault). Some f) (λ i. record { cause = sym is.0 i; block = sym is.2 i; instruction = sym is.3 i }))
script-refusal s n name fault script Memory is first = tt
script-refusal s n name fault script told is first = absurd is

-- it is that of one of the systems, and those before it have none
pub unscripted : (s : Schedule) (names : List (List ℕ)) (scripts : List ScriptBody) (n : ℕ) (name : List ℕ) (script : ScriptBody) (told : Fault) → n < length s.systems → get_or names n [] ≡ name → get_or scripts n [] ≡ script →
    IsScriptRefused s n name script told → ((m : ℕ) → m < n → fits_at s scripts m ≡ true) → IsUnscripted s names scripts told
unscripted s names scripts n name script Memory known at is h before = tt
unscripted s names scripts n name script (Script cause system block instruction) known at is h before = (n, known, (at ∙ h.0, ap (script_fault (params_of s n)) is ∙ h.1), before)
unscripted s names scripts n name script told known at is h before = absurd h

slice_get-front : {A : Type 0} (xs more : List A) (n : ℕ) → n < length xs → slice_get (xs ++ more) n ≡ slice_get xs n
slice_get-front [] more n l = absurd (omega arith)
slice_get-front (x ∷ xs) more zero l = refl
slice_get-front (x ∷ xs) more (suc n) l = slice_get-front xs more n (omega arith)

-- scripts that fit do so with others behind them
pub fits-before : (s : Schedule) (scripts all more : List ScriptBody) → all ≡ scripts ++ more → ((n : ℕ) → n < length scripts → fits_at s scripts n ≡ true) → (n : ℕ) → n < length scripts → fits_at s all n ≡ true
fits-before s scripts all more is h n l = ap (λ xs. script_fits (slice_get xs n) (params_of s n)) is ∙ ap (λ x. script_fits x (params_of s n)) (slice_get-front scripts more n l) ∙ h n l
