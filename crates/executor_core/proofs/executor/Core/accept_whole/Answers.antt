use Rattle.std.proofs.Common.{ℕ, ◌==◌, ◌||◌, subst, sym, ap, ◌∙◌}
use Rattle.number_set.specs.Members.{contains}
use Rattle.model.specs.declared.steps.Step.TheVariants.{Start}
use Rattle.executor_core.specs.Stands.{Stand, IsPassed}
use Rattle.executor_core.proofs.AcceptedSteps.{stands_whole, skip_changes}
use Rattle.executor_core.proofs.Known.{known_step}
use Rattle.executor_core.proofs.executor.Core.accept_whole.Goals as goal

pub begin-requires : goal.begin-requires
begin-requires c = known_step c.args.self.now c.requires.0 c.requires.1 (Start c.args.system) c.requires.2 c.requires.3

pub returns-clause-stands : goal.returns-clause-stands
returns-clause-stands c = λ sets h stands may ended.
    let n : ℕ = c.args.system in
    let middle : Stand = c.begin.new.self in
    stands_whole c.args.self.now c.end.new.self sets h n stands may ended
    (skip_changes c.args.self.now middle c.end.new.self c.begin.ensures.rest c.end.ensures.rest)
    (λ m. ap (λ (s : Stand). contains s.begun m) c.end.ensures.rest ∙ c.begin.ensures.begun m)
    (λ m. c.end.ensures.over m ∙ ap (λ b. (n == m) || b) (ap (λ (s : Stand). contains s.over m) c.begin.ensures.rest))
    (subst IsPassed (sym c.end.ensures.rest) (c.begin.ensures.passed stands.passed))
