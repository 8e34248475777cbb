use Rattle.std.proofs.Common.{◌≡◌, Some, Err, inl, inr, refl, sym, subst, ◌∙◌, ap, ap₂, rules, string_bytes}
use Rattle.std.proofs.lemmas.List.{length-map}
use denote.Param.Send.{sendable}
use Rattle.engine.proofs.FirstState.{no_first_lacks}
use Rattle.engine.specs.EngineValue.{EngineValue}
use Rattle.engine.specs.FirstState.{first_state}
use Rattle.engine.specs.Meanings.{meanings}
use Rattle.model.specs.state.State.{State}
use Rattle.script.specs.declared.script_body.ScriptBody.{ScriptBody}
use Rattle.state_lines.specs.WorldText.{printed}
use Rattle.program.specs.Recorded.{HaveNoted}
use Rattle.program.specs.Refused.{IsUnrun}
use Rattle.program.specs.Setup.{meanings_of_scripts, script_means}
use Rattle.program.specs.declared.fault.Fault.{Fault}
use Rattle.program.specs.declared.fault.Fault.TheVariants.{Memory}
use Rattle.program.proofs.Serving.{no-misfit, of-given}
use Rattle.program.proofs.serve.run.Goals as goal

-- the engine is not spoiled, and its mode may send what it sends
pub run_times-requires : goal.run_times-requires
run_times-requires g c = λ lifetimes.
    (search sendable depth 40, (search sendable depth 40, (search sendable depth 40, ((refl, tt), search rules))))

-- the text of the state that the runs leave, and their record
pub returns-clause-runs : goal.returns-clause-runs
returns-clause-runs g c =
    let width = g.M.Mode.width c.args.mode.now in
    let s = c.args.built in
    let final = c.run_times.new.engine.state in
    let noted = string_bytes c.in_ok-traces.traces in
    let P = λ (v : EngineValue ScriptBody). HaveNoted width v.schedule (meanings script_means v.schedule v.bodies) v.state c.args.times c.args.recorded final noted in
    record {
      final = final;
      runs = subst P c.in_ok-engine.ensures.begun c.in_ok-traces.ensures.noted;
      same = c.in_ok-text_of_world.ensures
          ∙ ap₂ (printed c.args.times) (c.world.ensures.world ∙ ap (λ (state : State). state.world) c.state-state.ensures) (c.passed_over.ensures ∙ ap (λ (state : State). state.passed_over) c.state-state.ensures);
    }

-- what stops the runs
pub returns-in_err-traces-clause-stopped : goal.returns-in_err-traces-clause-stopped
returns-in_err-traces-clause-stopped g c =
    let there = g.M.SpawnThreads.has_scope c.args.mode.now in
    let width = g.M.Mode.width c.args.mode.now in
    let s = c.args.built in
    let told = c.in_err-traces.field-0.0 in
    let P = λ (v : EngineValue ScriptBody). IsUnrun there width v.schedule (meanings script_means v.schedule v.bodies) c.args.times v.state c.args.recorded told in
    let from = subst P c.in_ok-engine.ensures.begun c.in_err-traces.ensures.stopped in
    of-given (λ (fault : Fault). fault ≡ told) (IsUnrun there width s (meanings_of_scripts s c.args.bodies.items) c.args.times (first_state s c.args.world.state) c.args.recorded) c.from_residual-in_err-traces.result c.from_residual-in_err-traces.ensures.1
    (λ e same. subst (IsUnrun there width s (meanings_of_scripts s c.args.bodies.items) c.args.times (first_state s c.args.world.state) c.args.recorded) (sym same) from)

-- a failed allocation for the text
pub returns-in_err-text_of_world-clause-stopped : goal.returns-in_err-text_of_world-clause-stopped
returns-in_err-text_of_world-clause-stopped g c =
    let there = g.M.SpawnThreads.has_scope c.args.mode.now in
    let width = g.M.Mode.width c.args.mode.now in
    let s = c.args.built in
    let P = IsUnrun there width s (meanings_of_scripts s c.args.bodies.items) c.args.times (first_state s c.args.world.state) c.args.recorded in
    of-given (λ (told : Fault). told ≡ Memory) P c.from_residual-in_err-text_of_world.result c.from_residual-in_err-text_of_world.ensures.1 (λ e same. subst P (sym same) tt)
