-- Every kind is looked at.
use Rattle.std.proofs.Common.{◌∙◌}
use Rattle.model.specs.access.QueryFaults.{required}
use Rattle.query.proofs.Named.{required_listed, any_excluded}
use Rattle.query.proofs.check.requires_excluded.Goals as goal

pub returns : goal.returns
returns c = c.any_required_excluded.ensures ∙ any_excluded required c.args.terms.now c.every.result.now required_listed c.every.ensures
