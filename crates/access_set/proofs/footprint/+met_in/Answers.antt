use Rattle.std.proofs.Common.{map}
use Rattle.query.specs.Alternative.{alternatives_of}
use Rattle.access_set.proofs.Choices.{met_found, met_end, met_rest, unmet_next, unmet_all}
use Rattle.access_set.proofs.footprint.+met_in.Goals as goal

pub returns-then-met_in : goal.returns-then-met_in
returns-then-met_in t c =
    met_found c.args.shared c.args.way c.with.result c.met_in-in-loop-alternative.result c.args.choices.now c.in-Some.rest.now c.in-Some.alternatives.now (map alternatives_of c.args.more.now)
    c.as_slice-alternative-items.result.now c.loop-alternative.alternative-index _ c.in-Some.ensures.cases.0 c.as_slice-alternative-items.ensures c.loop-alternative-test.true
    c.with.ensures c.met_in-in-loop-alternative.ensures c.if-met_in.true

pub returns-then-is_empty : goal.returns-then-is_empty
returns-then-is_empty t c =
    met_end c.args.shared c.args.way c.args.choices.now c.args.more.now c.kinds_met.result c.in_default.ensures.cases c.if-is_empty.ensures c.kinds_met.ensures

pub returns-in_default : goal.returns-in_default
returns-in_default t c = met_rest c.args.shared c.args.way c.args.choices.now c.args.more.now c.met_in.result c.in_default.ensures.cases c.met_in.ensures

pub loop-alternative-preserved : goal.loop-alternative-preserved
loop-alternative-preserved t c =
    unmet_next c.args.shared c.args.way c.with.result c.met_in-in-loop-alternative.result c.in-Some.rest.now (map alternatives_of c.args.more.now)
    c.as_slice-alternative-items.result.now c.loop-alternative.alternative-index _ c.loop-alternative-test.true
    c.with.ensures c.met_in-in-loop-alternative.ensures c.if-met_in.false c.loop-alternative.invariant

pub returns : goal.returns
returns t c =
    unmet_all c.args.shared c.args.way c.args.choices.now c.in-Some.rest.now c.in-Some.alternatives.now (map alternatives_of c.args.more.now)
    c.as_slice-alternative-items.result.now c.loop-alternative.alternative-index c.in-Some.ensures.cases.0 c.as_slice-alternative-items.ensures c.loop-alternative-test.false
    c.loop-alternative.invariant
