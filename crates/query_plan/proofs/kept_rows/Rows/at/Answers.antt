use Rattle.std.proofs.Common.{◌≡◌, List, length, get_or, sym, ap, ◌∙◌, subst, arith}
use Rattle.std.specs.Arc.{arc_value}
use Rattle.query_plan.specs.declared.row.Row.{Row}
use Rattle.query_plan.specs.Kept.{rows_kept, AreCounted}
use Rattle.query_plan.proofs.EveryRow.{length-every, every-first}
use Rattle.query_plan.proofs.kept_rows.Rows.at.Goals as goal

pub index-requires : goal.index-requires
index-requires c =
    let es = (arc_value c.in-All.entities).items in
    let many : length c.args.self.now ≡ length es = ap length (sym c.self.view_is ∙ ap rows_kept c.in-All.is) ∙ length-every c.in-All.archetype 0 es in
    let same : length c.deref.result.now.items ≡ length es = ap (λ v. length v.items) c.deref.ensures in
    let within = c.requires in
    omega (arith, many, same, c.deref.result.now.ok.0)

pub overflow_cast-result : goal.overflow_cast-result
overflow_cast-result c =
    let es = (arc_value c.in-All.entities).items in
    let many : length c.args.self.now ≡ length es = ap length (sym c.self.view_is ∙ ap rows_kept c.in-All.is) ∙ length-every c.in-All.archetype 0 es in
    let counted : length es ≡ c.in-All.count = subst AreCounted c.in-All.is c.self.invariant in
    let within = c.requires in
    omega (arith, many, counted)

pub returns-in-All : goal.returns-in-All
returns-in-All c =
    let es = (arc_value c.in-All.entities).items in
    let view : c.args.self.now ≡ rows_kept c.self.inside.kept = sym c.self.view_is in
    let many : length c.args.self.now ≡ length es = ap length (view ∙ ap rows_kept c.in-All.is) ∙ length-every c.in-All.archetype 0 es in
    let within = c.requires in
    let e = c.index.result.now in
    let e_is : e ≡ get_or es c.args.row e = c.index.ensures ∙ ap (λ v. get_or v.items c.args.row e) c.deref.ensures in
    let d : Row = record { entity = e; archetype = c.in-All.archetype; place = c.args.row } in
    let at = every-first c.in-All.archetype c.args.row es d e (omega (arith, many)) in
    ap (λ x. (let r : Row = record { entity = x; archetype = c.in-All.archetype; place = c.args.row } in r)) e_is
    ∙ sym at
    ∙ ap (λ (rows : List Row). get_or rows c.args.row d) (sym (view ∙ ap rows_kept c.in-All.is))
