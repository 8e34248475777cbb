use Rattle.std.proofs.Common.{◌≡◌, ℕ, ◌+◌, ◌<◌, pos, length, get_or}
use Rattle.kinds.specs.Kind.{kind_number}
use Rattle.body.specs.Fields.{field_seen}
use Rattle.body.proofs.view_query.read_each.Given as goal

abbrev pub invariant-loop-i : goal.invariant-loop-i
invariant-loop-i l = record {
  size : length l.values ≡ length l.fn.values;
  done : (k : ℕ) → k < l.i → get_or l.values k (pos 0) ≡ field_seen l.query (l.from + k) (kind_number l.kind) l.place;
}
