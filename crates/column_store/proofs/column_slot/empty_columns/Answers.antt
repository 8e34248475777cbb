use Rattle.column_store.proofs.Common.{◌≡◌, List, [], ap, map, ◌∙◌, Kind, empty_column, owned_slot}
use Rattle.model.proofs.lists.Turns.{mapped_next}
use Rattle.column_store.proofs.Turns.{all_seen}
use Rattle.column_store.proofs.column_slot.empty_columns.Goals as goal

pub loop-kind-preserved : goal.loop-kind-preserved
loop-kind-preserved c =
    mapped_next empty_column c.args.kinds.now c.loop-kind.kind-index _ [] c.loop-kind.columns.items c.push.new.self.items c.of.result c.loop-kind-test.true c.loop-kind.invariant
    (c.of.ensures ∙ ap owned_slot c.new.ensures) c.in_ok-push.ensures.items

pub returns : goal.returns
returns c = all_seen (λ (kinds : List Kind). c.loop-kind.columns.items ≡ map empty_column kinds) c.args.kinds.now c.loop-kind.kind-index c.loop-kind-test.false c.loop-kind.invariant
