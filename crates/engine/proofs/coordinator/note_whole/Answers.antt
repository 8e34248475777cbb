use Rattle.std.proofs.Common.{ℕ, ◌∷◌, List, Option, sym, ap, ◌∙◌, subst₂}
use Rattle.model.specs.declared.steps.Step.{Step}
use Rattle.model.specs.declared.steps.Step.TheVariants.{Finish}
use Rattle.executor_core.specs.Stands.{Stands}
use Rattle.engine.proofs.coordinator.note_whole.Goals as goal

pub accept_whole-requires : goal.accept_whole-requires
accept_whole-requires c = (c.args.trace.now.sets, c.args.trace.now.steps, c.requires.stands, c.requires.start)

pub returns-clause-stands : goal.returns-clause-stands
returns-clause-stands c =
    let n : ℕ = c.args.system in
    subst₂ (λ (sets : Option (List (List ℕ))) (steps : List Step). Stands c.accept_whole.new.self sets steps) (sym (c.in_ok-push-2.ensures.sets ∙ c.in_ok-push.ensures.sets))
    (sym (c.in_ok-push-2.ensures.steps ∙ ap (λ (steps : List Step). Finish n ∷ steps) c.in_ok-push.ensures.steps))
    (c.accept_whole.ensures.stands c.args.trace.now.sets c.args.trace.now.steps c.requires.stands c.requires.start c.requires.finish)
