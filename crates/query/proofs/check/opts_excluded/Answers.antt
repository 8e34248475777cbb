-- Every kind is looked at.
use Rattle.std.proofs.Common.{◌∙◌}
use Rattle.model.specs.access.QueryFaults.{optional}
use Rattle.query.proofs.Named.{optional_listed, any_excluded}
use Rattle.query.proofs.check.opts_excluded.Goals as goal

pub returns : goal.returns
returns c = c.any_opt_excluded.ensures ∙ any_excluded optional c.args.terms.now c.every.result.now optional_listed c.every.ensures
