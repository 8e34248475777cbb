-- The terms are looked at in turn.
use Rattle.std.proofs.Common.{sym, ◌∙◌, map}
use Rattle.query.specs.Term.{term_of}
use Rattle.query.proofs.Fetches.{found_again, found_once}
use Rattle.query.proofs.check.fetches_twice.Goals as goal

pub returns-then-any_fetches : goal.returns-then-any_fetches
returns-then-any_fetches c = sym (found_again (map term_of c.args.terms.now) c.loop-term.rest.now c.in-Some.term.now c.in-Some.others.now _
    c.loop-term.invariant c.in-Some.ensures.cases.0 c.in-Some-fetched.ensures
    (sym c.any_fetches.ensures ∙ c.if-any_fetches.true))

pub loop-term-preserved-else-any_fetches : goal.loop-term-preserved-else-any_fetches
loop-term-preserved-else-any_fetches c = found_once (map term_of c.args.terms.now) c.loop-term.rest.now c.in-Some.term.now c.in-Some.others.now _
    c.loop-term.invariant c.in-Some.ensures.cases.0 c.in-Some-fetched.ensures
    (sym c.any_fetches.ensures ∙ c.if-any_fetches.false)
