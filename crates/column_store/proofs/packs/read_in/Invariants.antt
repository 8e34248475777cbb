use Rattle.column_store.proofs.Common.{◌≡◌, ℕ, ℤ, ◌+◌, ◌<◌, pos, List, map, option_map, Some, length, get_or, slice_get, word_at}
use Rattle.column_store.proofs.packs.read_in.Given as goal

abbrev pub invariant-loop-i : goal.invariant-loop-i
invariant-loop-i g l = record {
  size : length l.values ≡ length l.fn.values;
  done : (k : ℕ) → k < l.i → option_map (λ (ws : List ℤ). word_at ws l.field) (slice_get (map g.P.Packed.words l.items) (l.from + k)) ≡ Some (get_or l.values k (pos 0));
}
