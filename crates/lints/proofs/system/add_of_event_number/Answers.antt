use Rattle.lints.specs.Lints.{IsOfEvents}
use Rattle.lints.proofs.system.add_of_event_number.Goals as goal

pub returns : goal.returns
unfolding IsOfEvents
returns c = rw (← c.event_at.ensures) c.in_ok-add_of_event.ensures
