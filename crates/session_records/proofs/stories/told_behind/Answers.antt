use Rattle.std.proofs.Common.{◌≡◌, map, Some, sym, ap, ◌∙◌, subst}
use Rattle.engine.specs.EngineValue.{EngineValue}
use Rattle.engine.specs.Meanings.{Suits}
use Rattle.model.specs.steps.Schedule.{Schedule}
use Rattle.program.specs.Setup.{script_suits}
use Rattle.script.specs.declared.script_body.ScriptBody.{ScriptBody}
use Rattle.session_records.proofs.Telling.{copy_suits}
use Rattle.session_records.proofs.stories.told_behind.Goals as goal

-- the scripts suit the state before the entry
pub tell_runs-requires-clause-suits : goal.tell_runs-requires-clause-suits
tell_runs-requires-clause-suits c =
    let engine = c.args.session.now.engine in
    let suits = subst (λ (e : EngineValue ScriptBody). Suits script_suits e.schedule e.bodies e.state) c.engine.ensures (c.if-is_spoiled.ensures.suits (sym c.if-is_spoiled.ensures.value)) in
    let start = c.in_ok-start.ensures ∙ c.state.ensures ∙ ap (λ (e : EngineValue ScriptBody). e.state) c.engine-2.ensures in
    let same : c.schedule.result.now ≡ engine.schedule = c.schedule.ensures ∙ ap (λ (e : EngineValue ScriptBody). e.schedule) c.engine-3.ensures ∙ c.in_default.ensures.schedule in
    subst (λ (s : Schedule). Suits script_suits s (map Some c.redo.new.bodies) c.in_ok-start.start) (sym same)
    (copy_suits engine.schedule c.redo.new.bodies engine.bodies engine.state c.in_ok-start.start c.in_default.ensures.fit suits start)
