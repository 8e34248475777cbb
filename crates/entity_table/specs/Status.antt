-- The status of an index as the definitions have it.
use Rattle.std.specs.Prelude.{ℕ, []}
use Rattle.model.specs.state.State.{Slot, Status as ModelStatus}
use Rattle.entity_table.specs.declared.status.Status.{Status}
use Rattle.entity_table.specs.declared.status.Status.TheVariants.{Vacant, Granted, Living, Retired}

-- the status that the definitions speak of
abbrev pub status_of : Status → ModelStatus
status_of Vacant = ModelStatus.Vacant
status_of Granted = ModelStatus.Granted
status_of Living = ModelStatus.Living
status_of Retired = ModelStatus.Retired

-- the slot of an index of this generation and status, without components
abbrev pub empty_slot : ℕ → Status → Slot
empty_slot generation status = record { generation = generation; status = status_of status; row = [] }
