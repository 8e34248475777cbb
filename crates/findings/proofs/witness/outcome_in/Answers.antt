use Rattle.std.proofs.Common.{inr, subst, ◌∙◌}
use Rattle.program.specs.Replayed.{IsRefusedRun}
use Rattle.findings.proofs.witness.outcome_in.Goals as goal

-- a list is refused, by scripts that mean what they meant
pub returns-in-Err : goal.returns-in-Err
returns-in-Err c = record {
  refused = inr (c.in_ok-list.list, subst (λ bs. IsRefusedRun c.args.built.now bs c.args.first.now c.in_ok-list.list c.args.number c.in-Err.fault) c.loop.invariant c.in-Err.ensures.refused);
  outcome = tt;
  meanings = c.left_by.ensures.meanings ∙ c.loop.invariant;
}
