use Rattle.std.proofs.Common.{◌∙◌, Bool, Option, ap, subst}
use Rattle.std.proofs.lemmas.List.{get_or_default}
use Rattle.model.specs.steps.Schedule.{ScheduledCondition}
use Rattle.lints.specs.Collected.{Adds}
use Rattle.lints.specs.Constants.{IsOfAnswer, IsOfCondition, decided}
use Rattle.lints.proofs.Growing.{adds_at}
use Rattle.lints.proofs.constants.add_of_condition.Goals as goal

pub returns : goal.returns
unfolding IsOfCondition
returns c =
    let s = c.args.known.now.built.now in
    let values = c.args.known.now.values.now in
    let present = c.args.known.now.present.now in
    let known = c.decided.ensures ∙ ap (decided s values present) (c.tree.ensures ∙ c.cond.ensures) in
    adds_at (λ (asked : ScheduledCondition). IsOfAnswer (decided s values present asked.condition) c.args.condition) s.conditions c.args.condition c.condition-asked.result.now _ _ c.requires
    (c.condition-asked.ensures ∙ get_or_default s.conditions c.args.condition _ c.condition-asked.result.now c.requires)
    (subst (λ (answer : Option Bool). Adds (IsOfAnswer answer c.args.condition) c.args.found.now.items c.add_of_answer.new.found.items) known c.in_ok-add_of_answer.ensures)
