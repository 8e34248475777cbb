use Rattle.std.proofs.Common.{length, ap, ◌<◌, ◌∙◌, arith}
use Rattle.std.specs.BinaryHeap.{heap_items, heap_len, heap_capacity}
use Rattle.entity_table.specs.Rising.{Numbers, insert_rising}
use Rattle.entity_table.proofs.Ascending.{length-values_of, pushed, from_ok}
use Rattle.entity_table.proofs.min_heap.MinHeap.push.Goals as goal

pub returns-clause-numbers : goal.returns-clause-numbers
returns-clause-numbers c =
    let heap = c.self.inside.heap in
    let seen = ap (λ (q : Numbers). length q.rising) c.self.view_is in
    let seen_room = ap (λ (q : Numbers). q.room) c.self.view_is in
    let held = heap.data.ok.0 in
    let room : heap_len heap < heap_capacity heap = omega (arith, c.requires, length-values_of (heap_items heap)) in
    let added = from_ok c.push.result _ (c.push.ensures.succeeds room) c.push.ensures.permutation in
    pushed (record { 0 = c.args.number }) (heap_items heap) (heap_items c.push.new.self) added
    ∙ ap (λ (q : Numbers). insert_rising c.args.number q.rising) c.self.view_is
