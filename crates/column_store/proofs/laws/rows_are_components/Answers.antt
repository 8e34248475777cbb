use Rattle.column_store.proofs.TheirComponents.{components_rise, cells_are_theirs, writes_are_theirs}
use Rattle.column_store.proofs.laws.rows_are_components.Goals as goal

pub returns-clause-rise : goal.returns-clause-rise
returns-clause-rise c = components_rise

pub returns-clause-cells : goal.returns-clause-cells
returns-clause-cells c = cells_are_theirs

pub returns-clause-writes : goal.returns-clause-writes
returns-clause-writes c = writes_are_theirs
