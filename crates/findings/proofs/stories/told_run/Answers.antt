use Rattle.std.proofs.Common.{List, ap₂, ◌∙◌}
use Rattle.model.specs.shown.Outcome.{BodyMeaning}
use Rattle.model.specs.state.State.{State}
use Rattle.findings.specs.Worlds.{worlds_text}
use Rattle.findings.proofs.stories.told_run.Goals as goal

-- the worlds of a copy of the state, by scripts that mean what they meant
pub returns-clause-told : goal.returns-clause-told
returns-clause-told c =
    c.in_ok-told.ensures.told
    ∙ ap₂ (λ (x : State) (bs : List BodyMeaning). worlds_text c.args.built.now bs x c.args.before c.args.trace.now.steps) c.in_ok-start.ensures c.replay_run.ensures.meanings
