use Rattle.column_store.proofs.Common.{◌≡◌, ◌+◌, map, length, drop, vec_capacity, with_field_words}
use Rattle.column_store.proofs.packs.write_in.Given as goal

abbrev pub invariant-loop-i : goal.invariant-loop-i
invariant-loop-i g l = record {
  size : length l.items.items ≡ length l.fn.items.items;
  room : vec_capacity l.items ≡ vec_capacity l.fn.items;
  rest : with_field_words g.P.Packed.WIDTH l.field (l.from + l.i) (drop l.i l.values) (map g.P.Packed.words l.items.items) ≡ with_field_words g.P.Packed.WIDTH l.field l.from l.values (map g.P.Packed.words l.fn.items.items);
}
