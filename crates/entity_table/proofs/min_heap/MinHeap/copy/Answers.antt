use Rattle.std.proofs.Common.{List, ◌++◌, ap, ap₂, sym, subst, ◌∙◌}
use Rattle.std.specs.List.Sorted.{IsPermutation}
use Rattle.std.specs.BinaryHeap.{heap_items}
use Rattle.std.specs.declared.cmp.Reverse.{Reverse}
use Rattle.std.specs.Prelude.{ℕ}
use Rattle.entity_table.specs.Rising.{Numbers}
use Rattle.entity_table.proofs.Ascending.{same_values}
use Rattle.entity_table.proofs.min_heap.MinHeap.copy.Goals as goal

pub returns-clause-same : goal.returns-clause-same
returns-clause-same c =
    let held = heap_items c.self.inside.heap in
    let filled = c.in_ok-extend_from_slice.ensures.items ∙ ap₂ (λ (l m : List (Reverse ℕ)). l ++ m) c.in_ok-numbers.ensures.items c.as_slice.ensures.value in
    let mixed = subst (λ l. IsPermutation l (heap_items c.from.result)) filled c.from.ensures.1 in
    c.in_ok-make_room.ensures.same
    ∙ sym (same_values held (heap_items c.from.result) mixed)
    ∙ ap (λ (q : Numbers). q.rising) c.self.view_is
