use Rattle.body.specs.Steps.{store_of}
use Rattle.body.proofs.Outs.{all-home, none-out}
use Rattle.findings.proofs.worlds.told_after.Goals as goal

-- all columns of the state are at home
pub into_state-state-requires : goal.into_state-state-requires
into_state-state-requires c = all-home (store_of c.args.run.state) c.prove_law.ensures.laid c.requires.out

pub returns-clause-out : goal.returns-clause-out
returns-clause-out c = none-out (store_of c.into_open.result) c.into_open.ensures.home
