use Rattle.std.proofs.Common.{◌∙◌, ap}
use Rattle.query_plan.specs.declared.row.Row.{Row}
use Rattle.query_plan.proofs.IndexWalks.{marked_row, row_found}
use Rattle.query_plan.proofs.index_walk.row_at.Goals as goal

pub returns-then-not-marks-at-clause-none : goal.returns-then-not-marks-at-clause-none
returns-then-not-marks-at-clause-none c last =
    marked_row c.args._query.now c.args.world.now.state.slots c.args.world.now.layout c.args.index c.requires.laid c.requires.free c.args.marks.now c.requires.marks c.in-Some.at c.in-Some.ensures.place last
    ∙ c.if-not-marks-at.true

pub returns-clause-some : goal.returns-clause-some
returns-clause-some c =
    row_found c.args._query.now c.args.world.now.state.slots c.args.world.now.layout c.args.index c.requires.laid c.requires.free c.args.marks.now c.requires.marks c.in-Some.at c.in-Some.ensures.place _
    c.if-not-marks-at.false (ap (λ p. (let r : Row = record { entity = c.in-Some.at.entity; archetype = c.in-Some.at.archetype; place = p } in r)) c.in-Ok.ensures.1)
