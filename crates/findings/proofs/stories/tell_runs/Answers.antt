use Rattle.std.proofs.Common.{◌≡◌, ◌+◌, ◌++◌, ℕ, zero, List, length, refl, ap, ap₂, subst, ◌∙◌, inr, string_bytes, arith}
use Rattle.model.specs.runs.Replays.{IsReplayed}
use Rattle.model.specs.shown.Outcome.{BodyMeaning}
use Rattle.model.specs.steps.Schedule.{recording}
use Rattle.program.specs.Setup.{meanings_of_scripts}
use Rattle.program.proofs.Replays.{refused-next, replayed-more}
use Rattle.model.proofs.lists.Results.{handed_on}
use Rattle.findings.specs.Refusals.{IsUntold}
use Rattle.findings.specs.Stories.{told_text}
use Rattle.findings.proofs.StoryRuns.{story_next}
use Rattle.findings.proofs.stories.tell_runs.Goals as goal

-- one run more
pub loop-trace-preserved : goal.loop-trace-preserved
loop-trace-preserved c =
    let s = c.args.built.now in
    let ms = meanings_of_scripts s c.args.bodies.now in
    let inv = c.loop-trace.invariant in
    let ok = c.in_ok-left.ensures in
    let r = c.trace-item.result in
    let left = c.in_ok-left.left in
    record {
      count = let e = inv.count in omega arith;
      suits = ok.suits;
      meant = c.taken.ensures.meanings ∙ inv.meant;
      ran = replayed-more s ms (meanings_of_scripts s c.loop-trace.bodies) c.args.first c.loop-trace.state left c.args.traces.now c.loop-trace.trace-index r c.loop-trace-test.true c.trace-item.is inv.meant inv.ran ok.replayed;
      rest = λ whole h. inv.rest whole
          (story_next s ms c.args.begun.asked c.loop-trace.before c.loop-trace.state left c.args.traces.now c.loop-trace.trace-index r (string_bytes c.loop-trace.text) _ whole c.loop-trace-test.true c.trace-item.is
          (subst (λ (bs : List BodyMeaning). IsReplayed (recording s r.sets) bs c.loop-trace.state r.steps left) inv.meant ok.replayed)
          (c.in_ok-push_str.ensures.bytes ∙ ap (λ (words : List ℕ). string_bytes c.loop-trace.text ++ words) (c.as_str.ensures.value ∙ ok.told
          ∙ ap₂ (λ is_told (bs : List BodyMeaning). told_text is_told s bs c.loop-trace.state c.loop-trace.before r.steps) c.is_asked.ensures inv.meant))
          h);
    }

-- the run that is refused
pub returns-in_err-left-clause-refused : goal.returns-in_err-left-clause-refused
returns-in_err-left-clause-refused c = λ none.
    let s = c.args.built.now in
    let ms = meanings_of_scripts s c.args.bodies.now in
    let inv = c.loop-trace.invariant in
    let told = c.in_err-left.field-0.0 in
    handed_on (IsUntold s ms c.args.first c.args.traces.now) c.from_residual.result told c.from_residual.ensures.1
    (inr (refused-next s ms (meanings_of_scripts s c.loop-trace.bodies) c.args.first c.loop-trace.state c.args.traces.now c.loop-trace.trace-index (c.loop-trace.before + 1) c.trace-item.result told
    c.loop-trace-test.true c.trace-item.is inv.meant (let e = inv.count in omega (arith, e, none)) inv.ran c.in_err-left.ensures.refused))
