use Rattle.std.proofs.Common.{pos, ap, ◌∙◌}
use Rattle.std.proofs.lemmas.Int.{to_z-of_z}
use Rattle.kinds.specs.Kind.{kind_number}
use Rattle.body.specs.Sheet.{Sheet}
use Rattle.body.proofs.FieldRows.{sheet-more}
use Rattle.body.proofs.view_query.write_each.Goals as goal

pub loop-i-preserved : goal.loop-i-preserved
loop-i-preserved c =
    let e = c.write_word.ensures in
    record {
      terms = ap (λ (s : Sheet). s.terms) e ∙ c.loop-i.invariant.terms;
      rows = ap (λ (s : Sheet). s.rows) e ∙ c.loop-i.invariant.rows;
      rest = sheet-more (kind_number c.args.kind) c.args.place c.args.from c.loop-i.i c.args.values.now (pos 0) _ c.loop-i.query c.write_word.new.self _ c.loop-i-test.true (search to_z-of_z) e c.loop-i.invariant.rest;
    }
