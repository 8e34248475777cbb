-- A schedule that the builder accepted, with a script for each system.
use Rattle.std.specs.Prelude.{ℕ, ◌<◌, ◌≡◌, Bool, true, false, List, length, map, slice_get, Option, Some, None}
use Rattle.model.specs.access.Access.{Params}
use Rattle.model.specs.shown.Outcome.{BodyMeaning}
use Rattle.model.specs.declarations.Declarations.{Declared, DeclaredSystem}
use Rattle.model.specs.declarations.Refusals.{IsBuildable}
use Rattle.model.specs.steps.Schedule.{Schedule, params_of}
use Rattle.model.specs.declarations.ScheduleOrder.{HasDeclaredSystems, HasDeclaredEdges, HasLevels, HasDeclaredConditions, HasDeclaredSilences, IsScheduleOrder}
use Rattle.script.specs.declared.script_body.ScriptBody.{ScriptBody}
use Rattle.script.specs.Faults.{fits}
use Rattle.script.specs.Script.{script_meaning}
use Rattle.engine.specs.Meanings.{meanings}

-- the names of declared systems, by number
abbrev pub declared_names : Declared → List (List ℕ)
declared_names d = map (λ (x : DeclaredSystem). x.item.name) d.systems

-- the schedule is the one that declared items stand for, which have no fault
pub record IsScheduleOf (d : Declared) (s : Schedule) : Type 0 where
  pub buildable : IsBuildable d
  pub systems : HasDeclaredSystems d s
  pub edges : HasDeclaredEdges d s
  pub levels : HasLevels d s
  pub order : IsScheduleOrder s
  pub conditions : HasDeclaredConditions d s
  pub silences : HasDeclaredSilences d s

-- whether there is a script, and it fits these parameters
abbrev pub script_fits : Option ScriptBody → Params → Bool
script_fits None params = false
script_fits (Some script) params = fits params script

-- whether the script of a system fits its parameters
abbrev pub fits_at : Schedule → List ScriptBody → ℕ → Bool
fits_at s scripts n = script_fits (slice_get scripts n) (params_of s n)

-- what a script means to an engine
abbrev pub script_means : ScriptBody → Params → BodyMeaning
script_means script params = script_meaning params script

-- whether it fits these parameters, as an engine asks
abbrev pub script_suits : ScriptBody → Params → Bool
script_suits script params = fits params script

-- what the scripts of the systems of a schedule mean
abbrev pub meanings_of_scripts : Schedule → List ScriptBody → List BodyMeaning
meanings_of_scripts s scripts = meanings script_means s (map Some scripts)

-- a script for each system, each of which fits its system
pub record AreScriptsOf (s : Schedule) (scripts : List ScriptBody) : Type 0 where
  pub count : length scripts ≡ length s.systems
  pub fit : (n : ℕ) → n < length s.systems → fits_at s scripts n ≡ true
