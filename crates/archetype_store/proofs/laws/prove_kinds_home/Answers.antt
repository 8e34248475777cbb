use Rattle.archetype_store.proofs.ColumnsAtHome.{prove_kinds_home}
use Rattle.archetype_store.proofs.laws.prove_kinds_home.Goals as goal

pub returns : goal.returns
returns c = prove_kinds_home
