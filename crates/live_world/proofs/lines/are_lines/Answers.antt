use Rattle.std.proofs.Common.{sym, ◌∙◌}
use Rattle.std.proofs.lemmas.Bool.{eqb-true}
use Rattle.live_world.proofs.LineTexts.{lines_counted, lines_found}
use Rattle.live_world.proofs.lines.are_lines.Goals as goal

pub returns-then-ends_in-count : goal.returns-then-ends_in-count
returns-then-ends_in-count c =
    let count = sym c.ends_in.ensures ∙ c.if-ends_in-count.true in (
      λ is. lines_found c.args.count c.args.text.now count (c.ends_lines.ensures.0 is),
      λ are. c.ends_lines.ensures.1 (lines_counted c.args.count c.args.text.now are).1,
    )

pub returns-else-ends_in-count : goal.returns-else-ends_in-count
returns-else-ends_in-count c =
    let differs = c.if-ends_in-count.false in (
      λ is. absurd (differs (eqb-true c.ends_in.result c.args.count is)),
      λ are. absurd (differs (c.ends_in.ensures ∙ (lines_counted c.args.count c.args.text.now are).0)),
    )
