use Rattle.std.proofs.Common.{◌≡◌, refl, subst, ◌∙◌, arith}
use Rattle.model.proofs.lists.Results.{handed_on}
use Rattle.program.specs.Setup.{meanings_of_scripts}
use Rattle.findings.specs.Behind.{IsBehind}
use Rattle.findings.specs.Refusals.{IsUnreached}
use Rattle.findings.proofs.RunsBehind.{behind_more, behind_none, unreached}
use Rattle.findings.proofs.behind.state_behind.Goals as goal

pub loop-before-init : goal.loop-before-init
loop-before-init c = record {
  behind = behind_none c.args.built.now (meanings_of_scripts c.args.built.now c.args.bodies.now) c.args.first;
  memories = c.requires;
  meanings = refl;
}

-- one run more
pub loop-before-preserved : goal.loop-before-preserved
loop-before-preserved c =
    let inv = c.loop-before.invariant in
    record {
      behind = behind_more c.args.built.now _ _ c.args.first _ _ c.loop-before.before inv.meanings inv.behind c.in_ok-state.ensures.next;
      memories = c.in_ok-state.ensures.memories;
      meanings = c.in_ok-state.ensures.meanings ∙ inv.meanings;
    }

-- all runs are behind
pub returns-clause-behind : goal.returns-clause-behind
returns-clause-behind c =
    let ended : c.loop-before.before ≡ c.args.count = let f = c.loop-before-test.false in omega arith in
    subst (λ n. IsBehind c.args.built.now (meanings_of_scripts c.args.built.now c.args.bodies.now) c.args.first n c.loop-before.state) ended c.loop-before.invariant.behind

-- one of them is refused
pub returns-in_err-state-clause-refused : goal.returns-in_err-state-clause-refused
returns-in_err-state-clause-refused c =
    let s = c.args.built.now in
    let meant = meanings_of_scripts s c.args.bodies.now in
    let inv = c.loop-before.invariant in
    let told = c.in_err-state.field-0.0 in
    handed_on (IsUnreached s meant c.args.first c.args.count) c.from_residual.result told c.from_residual.ensures.1
    (unreached s meant _ c.args.first c.loop-before.state c.loop-before.before c.args.count told inv.meanings c.loop-before-test.true inv.behind c.in_err-state.ensures.refused)
