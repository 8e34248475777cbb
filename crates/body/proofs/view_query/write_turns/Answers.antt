use Rattle.std.proofs.Common.{◌+◌, ◌≤◌, length, take, drop, refl, ap, subst, ◌∙◌, arith}
use Rattle.std.proofs.lemmas.List.{length-drop, take_rest}
use Rattle.kinds.specs.Kind.{kind_number}
use Rattle.body.specs.Fields.{sheet_with_fields}
use Rattle.body.specs.Sheet.{Sheet}
use Rattle.body.proofs.FieldRows.{sheet-further}
use Rattle.body.proofs.view_query.write_turns.Goals as goal

pub loop-done-preserved : goal.loop-done-preserved
loop-done-preserved c =
    let i = c.loop-done.invariant in
    let rest = take_rest c.args.values.now c.loop-done.done in
    let e = c.write_turn-done.ensures.written ∙ ap (λ vs. sheet_with_fields c.loop-done.query (kind_number c.args.kind) c.args.place (c.args.from + c.loop-done.done) (take c.write_turn-done.result vs)) rest in
    let long = length-drop c.loop-done.done c.args.values.now in
    let most : c.write_turn-done.result ≤ length (drop c.loop-done.done c.args.values.now) = subst (λ vs. c.write_turn-done.result ≤ length vs) rest c.write_turn-done.ensures.most in
    let within : c.loop-done.done + c.write_turn-done.result ≤ length c.args.values.now = (let l = c.loop-done-test.true in omega arith) in
    record {
      within = within;
      terms = ap (λ (s : Sheet). s.terms) e ∙ i.terms;
      rows = ap (λ (s : Sheet). s.rows) e ∙ i.rows;
      rest = sheet-further (kind_number c.args.kind) c.args.place c.args.from c.loop-done.done c.write_turn-done.result (c.loop-done.done + c.write_turn-done.result) c.args.values.now c.loop-done.query c.write_turn-done.new.self _ refl within e i.rest;
    }
