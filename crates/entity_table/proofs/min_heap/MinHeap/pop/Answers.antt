use Rattle.std.proofs.Common.{ap, sym, ◌∙◌}
use Rattle.std.specs.BinaryHeap.{heap_items}
use Rattle.entity_table.specs.Rising.{Numbers}
use Rattle.entity_table.proofs.Ascending.{popped}
use Rattle.entity_table.proofs.min_heap.MinHeap.pop.Goals as goal

pub returns-clause-least : goal.returns-clause-least
returns-clause-least c =
    sym (ap (λ (q : Numbers). q.rising) c.self.view_is)
    ∙ popped (heap_items c.self.inside.heap) c.in_ok-least.least (heap_items c.pop.new.self) c.in_ok-least.ensures.permutation (c.in_ok-least.ensures.below_top c.self.invariant)
