use Rattle.lints.specs.Lints.{IsOfTable, IsOfSystem}
use Rattle.lints.proofs.Growing.{adds_at}
use Rattle.lints.proofs.linting.add_of_table.Goals as goal

pub returns : goal.returns
unfolding IsOfTable
returns c = adds_at (λ t. IsOfSystem c.args.present.now t c.args.number) c.args.tables.now c.args.number c.index-tables-number.result _ _ c.requires.known c.index-tables-number.is c.in_ok-add_of_system.ensures
