use Rattle.std.proofs.Common.{string_bytes}
use Rattle.ecsview.proofs.traced.refusal.Goals as goal

-- the text of the world that is left
pub returns-in-Ok-clause-replayed : goal.returns-in-Ok-clause-replayed
returns-in-Ok-clause-replayed c = (string_bytes c.in-Ok._answer.text, c.in-Ok.ensures.text)
