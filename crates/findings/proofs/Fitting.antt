-- Scripts that fit suit each state with the memories of their schedule.
use Rattle.std.proofs.Common.{◌≡◌, ℕ, zero, suc, List, [], ◌∷◌, map, slice_get, Some, refl, ◌∙◌}
use Rattle.std.proofs.lemmas.List.{length-map}
use Rattle.model.specs.access.Access.{Params}
use Rattle.model.specs.state.State.{State}
use Rattle.model.specs.steps.Schedule.{Schedule, params_of}
use Rattle.script.specs.declared.script_body.ScriptBody.{ScriptBody}
use Rattle.script.specs.Faults.{fits}
use Rattle.engine.specs.Meanings.{body_at, body_fits, HasMemories, Suits}
use Rattle.program.specs.Setup.{AreScriptsOf, script_fits, script_suits}

at-place : (params : Params) (scripts : List ScriptBody) (n : ℕ) → body_fits (λ script p. fits p script) (body_at (map Some scripts) n) params ≡ script_fits (slice_get scripts n) params
at-place params [] n = refl
at-place params (x ∷ scripts) zero = refl
at-place params (x ∷ scripts) (suc n) = at-place params scripts n

pub fitting_suit : (s : Schedule) (scripts : List ScriptBody) (state : State) → AreScriptsOf s scripts → HasMemories s state → Suits script_suits s (map Some scripts) state
fitting_suit s scripts state fitting memories = record {
  body_count = length-map scripts (λ x. Some x) ∙ fitting.count;
  memories = memories;
  fit = λ n known. at-place (params_of s n) scripts n ∙ fitting.fit n known;
}

-- what suits one state suits another that has the memories
pub suits_beside : (s : Schedule) (scripts : List ScriptBody) (state beside : State) → Suits script_suits s (map Some scripts) state → HasMemories s beside → Suits script_suits s (map Some scripts) beside
suits_beside s scripts state beside suits memories = record { body_count = suits.body_count; memories = memories; fit = suits.fit }
