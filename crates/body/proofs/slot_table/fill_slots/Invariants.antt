use Rattle.std.proofs.Common.{length, map}
use Rattle.query.specs.Term.{term_of}
use Rattle.body.specs.HeldColumns.{held_seen, slots_seen}
use Rattle.body.specs.SlotTable.{AreSlotsBelow}
use Rattle.body.proofs.slot_table.fill_slots.Given as goal

abbrev pub invariant-loop-at : goal.invariant-loop-at
invariant-loop-at l = AreSlotsBelow (map term_of l.terms) (length l.fn.slots.items) (map held_seen l.columns) l.at (map slots_seen l.slots.items)
