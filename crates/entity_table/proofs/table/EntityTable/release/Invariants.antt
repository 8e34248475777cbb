use Rattle.std.proofs.Common.{◌≡◌, take}
use Rattle.model.specs.state.Commands.{release}
use Rattle.entity_table.proofs.table.EntityTable.release.Given as goal

abbrev pub invariant-loop-id : goal.invariant-loop-id
invariant-loop-id l = l.self ≡ release (take l.id-index l.ids) l.initial.self
