-- A line is written behind those before it, and that of kind sets behind that of a sync point.
use Rattle.std.proofs.Common.{arith, ◌+◌, ◌++◌, ◌∷◌, [], false, string_bytes, refl, ap, ◌∙◌}
use Rattle.model.specs.declared.steps.Step.TheVariants.{Cond}
use Rattle.trace_checker.specs.Grammar.{lines_text}
use Rattle.trace_checker.specs.declared.line.Line.TheVariants.{Take}
use Rattle.trace_checker.proofs.Writing.{syncs_within, place_within, plain_place, plain_written, sync_place, sync_written}
use Rattle.trace_checker.proofs.write.push_run.Goals as goal
use Rattle.trace_checker.proofs.write.push_run.Goals.{in-Sync+in_ok-push_sets-2, in_default}

pub overflow_add-place : goal.overflow_add-place
overflow_add-place c = omega (arith, syncs_within c.steps-steps.result.now c.loop-step.step-index (omega (arith, c.loop-step-test.true)), c.loop-step.invariant.place)

pub push_sets-requires-in-Sync : goal.push_sets-requires-in-Sync
push_sets-requires-in-Sync c =
    place_within c.args.trace.now.sets c.args.trace.now.steps c.steps-steps.result.now (c.loop-step.step-index + 1) (c.loop-step.place + 1) c.steps-steps.ensures c.prove_law.ensures
    (sync_place c.steps-steps.result.now c.loop-step.step-index (Cond 0 false) c.in-Sync.field-0 c.loop-step-test.true c.in-Sync.is c.loop-step.place c.loop-step.invariant.place)

pub loop-step-preserved : goal.loop-step-preserved
loop-step-preserved c = elim c.match-step.branch [
  | in-Sync+in_ok-push_sets-2 w ↦ record {
    place = w.place-is ∙ sync_place c.steps-steps.result.now c.loop-step.step-index (Cond 0 false) w.in-Sync.field-0 c.loop-step-test.true w.in-Sync.is c.loop-step.place c.loop-step.invariant.place;
    written = ap string_bytes w.text-is
        ∙ sync_written c.steps-steps.result.now c.loop-step.step-index (Cond 0 false) w.in-Sync.field-0 c.loop-step-test.true w.in-Sync.is c.loop-step.place c.loop-step.invariant.place
        c.args.number c.args.trace.now.sets _ _ _ _ c.loop-step.invariant.written (c.in_ok-push_line-2.ensures ∙ ap (λ s. string_bytes c.loop-step.text ++ lines_text (Take s ∷ [])) w.in-Sync.is) w.in_ok-push_sets-2.ensures;
  }
  | in_default w ↦ record {
    place = w.place-is ∙ plain_place c.steps-steps.result.now c.loop-step.step-index (Cond 0 false) _ c.loop-step-test.true refl c.loop-step.place w.in_default.not-Sync c.loop-step.invariant.place;
    written = ap string_bytes w.text-is
        ∙ plain_written c.steps-steps.result.now c.loop-step.step-index (Cond 0 false) _ c.loop-step-test.true refl c.args.number c.args.trace.now.sets _ _ _ w.in_default.not-Sync c.loop-step.invariant.written c.in_ok-push_line-2.ensures;
  }
]
