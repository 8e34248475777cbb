use Rattle.entity_table.proofs.Turns.{nobody_more, nobody_past, alive_here}
use Rattle.entity_table.proofs.table.next_living_in.Goals as goal

pub loop-index-preserved : goal.loop-index-preserved
loop-index-preserved c =
    nobody_more c.args.places.now c.args.from c.loop-index.index c.index-places-index.result c.is_living.result c.loop-index-test.true c.index-places-index.is c.is_living.ensures c.if-is_living.false
    c.loop-index.invariant

pub returns-then-is_living-clause-lives : goal.returns-then-is_living-clause-lives
returns-then-is_living-clause-lives c = (
  c.loop-index.auto.index,
  alive_here c.args.places.now c.loop-index.index c.generation.result c.index-places-index.result c.is_living.result c.loop-index-test.true c.index-places-index.is
      c.is_living.ensures c.if-is_living.true
      c.generation.ensures,
)

pub returns-then-is_living-clause-least : goal.returns-then-is_living-clause-least
returns-then-is_living-clause-least c = c.loop-index.invariant

pub returns-clause-none : goal.returns-clause-none
returns-clause-none c = nobody_past c.args.places.now c.args.from c.loop-index.index c.loop-index-test.false c.loop-index.invariant
