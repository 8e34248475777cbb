-- The text goes on with a number that may follow, or it is none of kind sets.
use Rattle.std.proofs.Common.{◌<◌, ◌≤◌, ◌⊎◌, inl, inr, arith}
use Rattle.run_condition.proofs.Conditions.{empty_is as empty, filled_is as not_empty}
use Rattle.trace_checker.proofs.SetTexts.{none_so_far, no_sets, no_rise, more_so_far, these_sets}
use Rattle.trace_checker.proofs.sets.sets_of.Goals as goal

pub loop-rest-init : goal.loop-rest-init
loop-rest-init c = none_so_far _ _ c.none-sets.ensures

pub returns-in_default : goal.returns-in_default
returns-in_default c = no_sets _ _ _ _ c.loop-rest.invariant (not_empty c.loop-rest.rest.now _ c.is_empty.ensures c.loop-rest-test.true) c.in_default.ensures.none

pub returns-then-number-least : goal.returns-then-number-least
returns-then-number-least c = no_rise _ _ _ _ c.loop-rest.invariant c.in-Some.number c.in-Some.behind.now c.in-Some.ensures.found.0 (λ low below. out low below c.then-number-least.either) where
  out : c.loop-rest.least ≤ c.in-Some.number → c.in-Some.number < 1048576 → (c.in-Some.number < c.loop-rest.least) ⊎ ((c.loop-rest.least ≤ c.in-Some.number) × (1048576 ≤ c.in-Some.number)) → ⊥
  out low below (inl e) = omega (arith, low, e)
  out low below (inr e) = omega (arith, below, e.1)

pub loop-rest-preserved : goal.loop-rest-preserved
loop-rest-preserved c = more_so_far _ _ _ _ c.loop-rest.invariant c.in-Some.number c.in-Some.behind.now c.add.new.self c.in-Some.ensures.found.0 (omega (arith, c.if-number-least.false)) (omega (arith, c.if-number-ge-SET_LIMIT.false)) c.in_ok-add.ensures.ok

pub returns : goal.returns
returns c = these_sets _ _ _ _ c.loop-rest.invariant (empty c.loop-rest.rest.now _ c.is_empty.ensures c.loop-rest-test.false)
