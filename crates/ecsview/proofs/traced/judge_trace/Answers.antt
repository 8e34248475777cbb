use Rattle.std.proofs.Common.{◌≡◌, IfSome, subst, sym}
use Rattle.ecsview.proofs.Traces.{if_none_weaker, if_some_weaker, replayed_on, unreplayed_on}
use Rattle.ecsview.proofs.traced.judge_trace.Goals as goal

pub returns-in-Ok-clause-replayed : goal.returns-in-Ok-clause-replayed
returns-in-Ok-clause-replayed g c =
    let trace = g.T.Read.remaining c.args.trace.now in
    let known = subst (λ text. IfSome trace (λ all. text ≡ all)) (sym c.as_slice-text.ensures.value) c.in-Ok.ensures.whole in
    if_none_weaker c.refusal-fault.result (replayed_on _ _ _ trace c.as_slice-text.result.now known) c.refusal-fault.ensures.replayed

pub returns-in-Ok-clause-refused : goal.returns-in-Ok-clause-refused
returns-in-Ok-clause-refused g c =
    let trace = g.T.Read.remaining c.args.trace.now in
    let known = subst (λ text. IfSome trace (λ all. text ≡ all)) (sym c.as_slice-text.ensures.value) c.in-Ok.ensures.whole in
    if_some_weaker c.refusal-fault.result (λ fault. unreplayed_on _ _ _ _ trace c.as_slice-text.result.now fault known) c.refusal-fault.ensures.refused
