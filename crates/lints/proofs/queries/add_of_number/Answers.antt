use Rattle.lints.specs.Lints.{IsOfKinds}
use Rattle.lints.proofs.queries.add_of_number.Goals as goal

pub returns : goal.returns
unfolding IsOfKinds
returns c = rw (← c.kind_at-kind.ensures) c.in_ok-add_of_kind.ensures
