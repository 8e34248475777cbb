use Rattle.state_text.proofs.OneText.{one_text, one_values}
use Rattle.state_text.proofs.laws.states_have_one_text.Goals as goal

pub returns-clause-whole : goal.returns-clause-whole
returns-clause-whole c = one_text

pub returns-clause-values : goal.returns-clause-values
returns-clause-values c = one_values
