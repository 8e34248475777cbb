-- Spaces up to the next mark, which is no opening bracket.
use Rattle.std.proofs.lemmas.Bool.{both_ways}
use Rattle.run_condition.proofs.Marks.{closes_at, ends_closed, mark_ends}
use Rattle.run_condition.proofs.fronts.closed.Goals as goal

pub returns-then-not-is_blank : goal.returns-then-not-is_blank
returns-then-not-is_blank c v h =
    let at = closes_at _ _ _ v c.cut.ensures.whole c.cut.ensures.head c.cut.ensures.rest h in
    both_ways _ c.if-not-is_blank.true (c.is_blank.ensures.1 at.0)

pub returns-in-Some : goal.returns-in-Some
returns-in-Some c v h =
    let at = closes_at _ _ _ v c.cut.ensures.whole c.cut.ensures.head c.cut.ensures.rest h in
    ends_closed _ _ at.1 c.in-Some.ensures

pub returns-in-None : goal.returns-in-None
returns-in-None c = (
  (c.cut.result.0.now, c.is_blank.ensures.0 c.if-not-is_blank.false, mark_ends _ c.cut.ensures.rest c.in-None.ensures, c.cut.ensures.whole),
  λ v h. (closes_at _ _ _ v c.cut.ensures.whole c.cut.ensures.head c.cut.ensures.rest h).2,
)
