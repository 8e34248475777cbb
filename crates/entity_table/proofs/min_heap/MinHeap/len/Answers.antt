use Rattle.std.proofs.Common.{length, ap, arith}
use Rattle.std.specs.BinaryHeap.{heap_items}
use Rattle.entity_table.specs.Rising.{Numbers}
use Rattle.entity_table.proofs.Ascending.{length-values_of}
use Rattle.entity_table.proofs.min_heap.MinHeap.len.Goals as goal

pub returns : goal.returns
returns c =
    let heap = c.self.inside.heap in
    let seen = ap (λ (q : Numbers). length q.rising) c.self.view_is in
    let held = heap.data.ok.0 in
    omega (arith, c.len.ensures, length-values_of (heap_items heap))
