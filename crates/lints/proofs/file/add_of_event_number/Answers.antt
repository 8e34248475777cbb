use Rattle.lints.specs.Lints.{IsOfEventKinds}
use Rattle.lints.proofs.file.add_of_event_number.Goals as goal

pub returns : goal.returns
unfolding IsOfEventKinds
returns c = rw (← c.event_at.ensures) c.in_ok-add_of_event.ensures
