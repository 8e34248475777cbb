use mir.Syntax.{w64}
use Rattle.std.proofs.Common.{◌≡◌, pos, length, sym, ap, ◌∙◌}
use Rattle.std.proofs.lemmas.Int.{to_z_pos}
use Rattle.std.proofs.lemmas.List.{length-map}
use Rattle.model.specs.shown.Input.{ShownRow, rows_of}
use Rattle.query_plan.specs.Places.{rows_of_places}
use Rattle.query_plan.specs.declared.row.Row.{Row}
use Rattle.series.proofs.series.count_in.Goals as goal

pub plan-requires : goal.plan-requires
plan-requires c = c.prove_picks_home.ensures c.args.world.now.state.slots c.args.world.now.layout c.args.query.now c.prove_laid.ensures c.requires

-- as many rows are planned as the query has
pub returns : goal.returns
returns c =
    let planned = rows_of_places c.args.world.now.layout c.in_ok-plan.plan.rows in
    let shown = rows_of c.args.query.now 0 c.args.world.now.state.slots in
    let many : c.count_at-count.result ≡ length shown =
    c.count_at-count.ensures.count ∙ (sym (length-map planned (λ (row : Row). row.entity)) ∙ (ap length c.in_ok-plan.ensures.rows ∙ length-map shown (λ (row : ShownRow). row.entity))) in
    to_z_pos w64 c.count_at-count.result c.count_at-count.ensures.small ∙ ap pos many
