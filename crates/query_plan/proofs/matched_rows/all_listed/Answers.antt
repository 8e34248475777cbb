use Rattle.std.proofs.Common.{◌≡◌, ap, sym, ◌∙◌, arith}
use Rattle.std.proofs.lemmas.Result.{IfOk-weaker}
use Rattle.archetype_store.specs.Layout.{archetype_at}
use Rattle.query_plan.specs.Places.{every_row}
use Rattle.query_plan.proofs.EveryRow.{nobody-past}
use Rattle.query_plan.proofs.matched_rows.all_listed.Goals as goal

pub returns-then-archetype_count-archetype : goal.returns-then-archetype_count-archetype
returns-then-archetype_count-archetype c =
    let many = c.archetype_count.ensures in
    let past = c.if-archetype_count-archetype.true in
    c.new.ensures.items ∙ sym (ap (every_row c.args.archetype 0) (nobody-past c.args.world.now.layout c.args.archetype (omega arith)))

pub returns : goal.returns
returns c =
    IfOk-weaker c.every_row.result _ (λ rows. rows.items ≡ every_row c.args.archetype 0 (archetype_at c.args.world.now.layout c.args.archetype).entities)
    (λ rows listed. listed ∙ ap (every_row c.args.archetype 0) c.archetype-view.ensures.entities) c.every_row.ensures
