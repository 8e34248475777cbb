use Rattle.std.proofs.Common.{ℕ, Vec, Global, ap, ◌∙◌}
use Rattle.system_set.proofs.Nodes.{kept_more, left_more}
use Rattle.system_set.proofs.cycles.items_in.Goals.{then-node-items+in_ok-push, else-node-items}
use Rattle.system_set.proofs.cycles.items_in.Goals as goal

pub loop-node-preserved : goal.loop-node-preserved
loop-node-preserved c = elim c.if-node-items.branch [
  | then-node-items+in_ok-push w ↦
      ap (λ (v : Vec ℕ Global). v.items) w.found-is
      ∙ kept_more c.args.items c.args.nodes.now c.loop-node.found.items w.push.new.self.items c.loop-node.node-index c.loop-node-test.true
      c.loop-node.invariant w.if-node-items.true w.in_ok-push.ensures.items
  | else-node-items w ↦
      ap (λ (v : Vec ℕ Global). v.items) w.found-is
      ∙ left_more c.args.items c.args.nodes.now c.loop-node.found.items c.loop-node.node-index c.loop-node-test.true c.loop-node.invariant w.if-node-items.false
]
