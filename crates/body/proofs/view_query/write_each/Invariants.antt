use Rattle.std.proofs.Common.{◌≡◌, ◌+◌, drop}
use Rattle.kinds.specs.Kind.{kind_number}
use Rattle.body.specs.Fields.{sheet_with_fields}
use Rattle.body.proofs.view_query.write_each.Given as goal

abbrev pub invariant-loop-i : goal.invariant-loop-i
invariant-loop-i l = record {
  terms : l.query.terms ≡ l.fn.query.terms;
  rows : l.query.rows ≡ l.fn.query.rows;
  rest : sheet_with_fields l.query (kind_number l.kind) l.place (l.from + l.i) (drop l.i l.values) ≡ sheet_with_fields l.fn.query (kind_number l.kind) l.place l.from l.values;
}
