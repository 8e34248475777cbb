use Rattle.schedule_builder.specs.Orders.{TellsPlacesAmong}
use Rattle.schedule_builder.proofs.names.places_of.Given as goal

abbrev pub invariant-loop-number : goal.invariant-loop-number
invariant-loop-number l = TellsPlacesAmong l.desc l.number l.places
