use Rattle.query_plan.proofs.PickedHome as picked
use Rattle.query_plan.proofs.prove_picks_home.Goals as goal

pub returns : goal.returns
returns c = picked.prove_picks_home
