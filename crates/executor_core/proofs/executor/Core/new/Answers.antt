use Rattle.std.proofs.Common.{rules, ℕ, List, length, get_or, refl, ap, ◌∙◌}
use Rattle.schedule_builder.specs.Rows.{IsRival}
use Rattle.schedule_builder.specs.Conditions.{IsClash}
use Rattle.executor_core.specs.Judges.{HasCounts}
use Rattle.executor_core.proofs.Counted.{counted_first}
use Rattle.executor_core.proofs.Rows.{roomy_of, stands_first}
use Rattle.executor_core.proofs.executor.Core.new.Goals as goal

pub invariant_of-result : goal.invariant_of-result
unfolding HasCounts
invariant_of-result c = (
  search rules,
  counted_first c.args.built.now.systems c.in_ok-over.over c.in_ok-waits.waits c.in_ok-left.left c.in_ok-over.ensures.empty
      (λ n. ap (λ (xs : List ℕ). get_or xs n 0) c.in_ok-waits.ensures ∙ c.waits.ensures n)
      (λ k. ap (λ (xs : List ℕ). get_or xs k 0) c.in_ok-left.ensures ∙ c.sizes.ensures k),
  search rules,
  roomy_of (length c.args.built.now.systems) (length c.args.built.now.systems) (IsRival c.args.built.now.systems) c.in_ok-met.met.items c.in_ok-met.ensures,
  roomy_of (length c.args.built.now.systems) (length c.args.built.now.conditions) (IsClash c.args.built.now.systems c.args.built.now.conditions) c.in_ok-clashed.clashed.items c.in_ok-clashed.ensures,
)

pub returns-clause-stands : goal.returns-clause-stands
returns-clause-stands c = stands_first _ (record {
  begun = c.in_ok-begun.ensures.empty;
  over = c.in_ok-over.ensures.empty;
  asked = c.in_ok-asked.ensures.empty;
  yes = c.in_ok-yes.ensures.empty;
  done = refl;
  from = refl;
  due = refl;
  met = c.in_ok-met.ensures;
  clashed = c.in_ok-clashed.ensures;
})
