-- What the core answers of the steps so far is what is said of all steps.
use Rattle.std.proofs.Common.{◌≡◌, ◌+◌, ◌<◌, [], ◌∷◌, List, false, length, get_or, reverse, take, arith, MatchOption, refl, sym, ap, subst, ◌∙◌}
use Rattle.std.proofs.lemmas.Bool.{false≢true}
use Rattle.model.specs.declared.steps.Step.{Step}
use Rattle.model.specs.declared.steps.Step.TheVariants.{Cond}
use Rattle.model.specs.steps.Schedule.{recording}
use Rattle.model.specs.steps.Lawful.{syncs_in}
use Rattle.executor_core.specs.Stands.{AreMeetings, Stand, Stands}
use Rattle.trace_checker.specs.declared.check.Verdict.TheVariants.{Complete, Unfinished, Bad}
use Rattle.trace_checker.specs.Verdicts.{sets_so_far}
use Rattle.trace_checker.proofs.Recording.{knows_last}
use Rattle.trace_checker.proofs.Verdicts.{refused_at, complete_at, unfinished_at, history_next, listed_step, same_verdict}
use Rattle.trace_checker.proofs.checking.judge.Goals as goal

pub take-requires : goal.take-requires
take-requires c =
    let steps = c.steps-steps.result.now in
    let i = c.loop-step.step-index in
    record {
      listed = λ k e. listed_step c.args.trace.now steps i (Cond 0 false) (c.loop-step.syncs + c.syncs_of-more.result) c.prove_law.ensures c.steps-steps.ensures c.loop-step-test.true
          (ap (λ n. n + c.syncs_of-more.result) c.loop-step.invariant.syncs ∙ sym (c.syncs_of-more.ensures.counted (reverse (take i steps))));
    }

pub returns-in-Err-clause-verdict : goal.returns-in-Err-clause-verdict
returns-in-Err-clause-verdict c =
    let steps = c.steps-steps.result.now in
    let i = c.loop-step.step-index in
    let inv = c.loop-step.invariant in
    let front = reverse (take i steps) in
    refused_at c.args.built.now c.args.trace.now steps c.steps-steps.ensures c.loop-step.core i inv.schedule inv.stands (Cond 0 false) c.loop-step.number c.in-Err.fault c.loop-step-test.true inv.count
    (c.in-Err.ensures.fault (sets_so_far c.args.trace.now.sets front) front inv.stands)

pub loop-step-preserved : goal.loop-step-preserved
loop-step-preserved c =
    let steps = c.steps-steps.result.now in
    let i = c.loop-step.step-index in
    let inv = c.loop-step.invariant in
    let front = reverse (take i steps) in
    let next : get_or steps i (Cond 0 false) ∷ front ≡ reverse (take (i + 1) steps) = history_next steps i (Cond 0 false) c.loop-step-test.true in
    let place : c.loop-step.syncs + c.syncs_of-more.result ≡ syncs_in (get_or steps i (Cond 0 false) ∷ front) =
    ap (λ n. n + c.syncs_of-more.result) inv.syncs ∙ sym (c.syncs_of-more.ensures.counted front) in
    record {
      stands = subst (λ (h : List Step). Stands c.take.new.core (sets_so_far c.args.trace.now.sets h) h) next (c.in_default.ensures.stands front inv.stands place);
      schedule = c.in_default.ensures.schedule ∙ inv.schedule;
      count = omega (arith, inv.count);
      syncs = place ∙ ap syncs_in next;
      within = let few = c.syncs_of-more.ensures.one in let so_far = inv.within in omega (arith, few, so_far);
    }

pub returns-in-Err-clause-only : goal.returns-in-Err-clause-only
returns-in-Err-clause-only c other h =
    same_verdict (recording c.args.built.now c.args.trace.now.sets) c.args.trace.now.steps (Bad (c.loop-step.number + 1) c.in-Err.fault) other (returns-in-Err-clause-verdict c) h

-- a step that is refused leaves the core
pub returns-in-Err-clause-knows : goal.returns-in-Err-clause-knows
returns-in-Err-clause-knows c =
    let front = reverse (take c.loop-step.step-index c.steps-steps.result.now) in
    let inv = c.loop-step.invariant in
    subst (λ (core : Stand). MatchOption c.args.trace.now.sets (Unit {0}) (λ lists. (c.loop-step.syncs < length lists) × AreMeetings core (get_or lists c.loop-step.syncs [])))
    (sym c.in-Err.ensures.unchanged) (knows_last c.loop-step.core c.args.trace.now.sets front c.loop-step.syncs inv.syncs inv.stands)

pub returns-then-complete-clause-verdict : goal.returns-then-complete-clause-verdict
returns-then-complete-clause-verdict c =
    let steps = c.steps-steps.result.now in
    let i = c.loop-step.step-index in
    let inv = c.loop-step.invariant in
    let front = reverse (take i steps) in
    complete_at c.args.built.now c.args.trace.now steps c.steps-steps.ensures c.loop-step.core i inv.schedule inv.stands (omega (arith, c.loop-step-test.false))
    ((c.if-complete.ensures.exact (sets_so_far c.args.trace.now.sets front) front inv.stands).0 refl)

pub returns-then-complete-clause-only : goal.returns-then-complete-clause-only
returns-then-complete-clause-only c other h =
    same_verdict (recording c.args.built.now c.args.trace.now.sets) c.args.trace.now.steps Complete other (returns-then-complete-clause-verdict c) h

pub returns-then-complete-clause-knows : goal.returns-then-complete-clause-knows
returns-then-complete-clause-knows c =
    let front = reverse (take c.loop-step.step-index c.steps-steps.result.now) in
    knows_last c.loop-step.core c.args.trace.now.sets front c.loop-step.syncs c.loop-step.invariant.syncs c.loop-step.invariant.stands

pub returns-clause-verdict : goal.returns-clause-verdict
returns-clause-verdict c =
    let steps = c.steps-steps.result.now in
    let i = c.loop-step.step-index in
    let inv = c.loop-step.invariant in
    let front = reverse (take i steps) in
    unfinished_at c.args.built.now c.args.trace.now steps c.steps-steps.ensures c.loop-step.core i inv.schedule inv.stands (omega (arith, c.loop-step-test.false))
    (λ whole. false≢true ((c.if-complete.ensures.exact (sets_so_far c.args.trace.now.sets front) front inv.stands).1 whole))

pub returns-clause-only : goal.returns-clause-only
returns-clause-only c other h =
    same_verdict (recording c.args.built.now c.args.trace.now.sets) c.args.trace.now.steps Unfinished other (returns-clause-verdict c) h

pub returns-clause-knows : goal.returns-clause-knows
returns-clause-knows c =
    let front = reverse (take c.loop-step.step-index c.steps-steps.result.now) in
    knows_last c.loop-step.core c.args.trace.now.sets front c.loop-step.syncs c.loop-step.invariant.syncs c.loop-step.invariant.stands
