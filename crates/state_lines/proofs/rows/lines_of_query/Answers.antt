use Rattle.std.proofs.Common.{◌++◌, [], map, get_or, List, refl, ap, ◌∙◌, string_bytes}
use Rattle.model.specs.access.Query.{Term}
use Rattle.model.specs.state.Rows.{row_at}
use Rattle.query_plan.specs.declared.row.Row.{Row}
use Rattle.state_lines.specs.Fetched.{line_of_row}
use Rattle.state_lines.proofs.Fetched.{lines_of_planned}
use Rattle.state_lines.proofs.Lines.{texts_all, texts_next}
use Rattle.state_lines.proofs.rows.lines_of_query.Goals as goal

pub plan-requires : goal.plan-requires
plan-requires c = c.prove_picks_home.ensures c.args.world.now.state.slots c.args.world.now.layout c.args.query.now c.prove_laid.ensures c.requires

pub loop-row-preserved : goal.loop-row-preserved
loop-row-preserved c =
    let slots = c.args.world.now.state.slots in
    let none : Row = record { entity = record { index = 0; generation = 0 }; archetype = 0; place = 0 } in
    let row : Row = get_or c.as_slice-row-items.result.now c.loop-row.row-index none in
    texts_next (λ (row : Row). line_of_row c.args.query.now row.entity (row_at slots row.entity.index)) c.as_slice-row-items.result.now c.loop-row.row-index none row [] (string_bytes c.loop-row.text) (string_bytes c.push_row.new.text) c.loop-row-test.true refl c.loop-row.invariant
    (c.in_ok-push_row.ensures ∙ ap (λ (terms : List Term). string_bytes c.loop-row.text ++ line_of_row terms row.entity (row_at slots row.entity.index)) c.terms.ensures)

pub returns : goal.returns
returns c =
    let slots = c.args.world.now.state.slots in
    texts_all (λ (row : Row). line_of_row c.args.query.now row.entity (row_at slots row.entity.index)) c.as_slice-row-items.result.now c.loop-row.row-index [] (string_bytes c.loop-row.text) c.loop-row-test.false c.loop-row.invariant
    ∙ lines_of_planned c.args.query.now c.args.since slots c.as_slice-row-items.result.now (ap (map (λ (row : Row). row.entity)) (c.as_slice-row-items.ensures.value ∙ c.in_ok-rows.ensures) ∙ c.in_ok-plan.ensures.rows)
