use Rattle.archetype_store.proofs.RowsHome.{cells_home, rows_home}
use Rattle.archetype_store.proofs.store.World.prove_home.Goals as goal

pub returns-clause-cells : goal.returns-clause-cells
returns-clause-cells c = cells_home c.args.self.now.layout c.requires

pub returns-clause-rows : goal.returns-clause-rows
returns-clause-rows c = rows_home c.args.self.now.layout c.requires
