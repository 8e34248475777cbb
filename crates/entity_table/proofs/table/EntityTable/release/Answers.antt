use Rattle.std.proofs.Common.{◌≡◌, ◌+◌, take, get_or, ap, sym, ◌∙◌}
use Rattle.model.specs.declared.entities.Entity.{Entity}
use Rattle.model.specs.Lists.{update_at}
use Rattle.model.specs.state.Commands.{release}
use Rattle.model.proofs.serial.Engine.{release-none as release-nil}
use Rattle.entity_table.proofs.Releases.{release_more, freed_if_granted, freed_if-granted, freed_if-other}
use Rattle.entity_table.proofs.table.EntityTable.release.Goals as goal
use Rattle.entity_table.proofs.table.EntityTable.release.Goals.{Joined-is_granted, then-is_granted, else-is_granted}

pub loop-id-init : goal.loop-id-init
loop-id-init c = sym (release-nil c.args.self.now)

-- the id that is looked at
looked_at : Joined-is_granted → Entity
looked_at c = get_or c.args.ids.now c.loop-id.id-index (record { index = 0; generation = 0 })

-- one step of the definition
step : (c : Joined-is_granted) → update_at (looked_at c).index freed_if_granted c.loop-id.self ≡ release (take (c.loop-id.id-index + 1) c.args.ids.now) c.args.self.now
unfolding looked_at
step c =
    ap (update_at (looked_at c).index freed_if_granted) c.loop-id.invariant
    ∙ sym (release_more c.args.ids.now c.loop-id.id-index (record { index = 0; generation = 0 }) c.args.self.now c.loop-id-test.true)

pub loop-id-preserved : goal.loop-id-preserved
unfolding looked_at
loop-id-preserved c = elim c.if-is_granted.branch [
  | then-is_granted w ↦ w.self-is ∙ w.release_one.ensures ∙ sym (freed_if-granted (looked_at c).index c.loop-id.self (sym c.is_granted.ensures ∙ w.if-is_granted.true)) ∙ step c
  | else-is_granted w ↦ w.self-is ∙ sym (freed_if-other (looked_at c).index c.loop-id.self (sym c.is_granted.ensures ∙ w.if-is_granted.false)) ∙ step c
]
