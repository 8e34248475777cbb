use Rattle.std.proofs.Common.{◌≡◌, length, take, subst, sym, ◌∙◌, inl, arith}
use Rattle.std.specs.List.{slice_get}
use Rattle.findings.proofs.Apart.{same_next, same_all}
use Rattle.findings.proofs.diverging.first_step.Goals as goal

-- one step more is the same
pub loop-place-preserved : goal.loop-place-preserved
loop-place-preserved c =
    let same : slice_get c.args.one.now c.loop-place.place ≡ slice_get c.args.other.now c.loop-place.place = sym c.step_at.ensures ∙ (c.is_same_step.ensures.same c.if-not-is_same_step.false ∙ c.step_at-in-loop-place.ensures) in
    same_next c.args.one.now c.args.other.now c.loop-place.place (omega arith) same c.loop-place.invariant

pub returns-then-not-is_same_step : goal.returns-then-not-is_same_step
returns-then-not-is_same_step c = record {
  within = omega arith;
  before = c.loop-place.invariant;
  apart = inl (λ same. c.is_same_step.ensures.apart c.if-not-is_same_step.true (c.step_at.ensures ∙ (same ∙ sym c.step_at-in-loop-place.ensures)));
}

pub returns : goal.returns
returns c =
    let ones = c.args.one.now in
    let others = c.args.other.now in
    let place : c.loop-place.place ≡ length ones = omega arith in
    let same : take (length ones) ones ≡ take (length ones) others = subst (λ n. take n ones ≡ take n others) place c.loop-place.invariant in
    record {
      within = omega arith;
      before = same;
      apart = same_all ones others same;
    }
