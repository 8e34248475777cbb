-- Whom a command is about is one of two.
use Rattle.std.proofs.Common.{sym, ap, ◌∙◌, map}
use Rattle.query.specs.Term.{term_of}
use Rattle.script.specs.declared.fault.Cause.TheVariants.{NotFetched}
use Rattle.script.specs.Faults.{subject_cause}
use Rattle.script.proofs.Causes.{told_unless, least_of}
use Rattle.script.proofs.check.subject_cause.Goals as goal

pub returns-in-Row : goal.returns-in-Row
returns-in-Row c =
    least_of c.least.result c.then_some-shown.result c.commands_cause.result _ _ c.least.ensures
    (told_unless c.shows_entity.result _ NotFetched c.then_some-shown.result c.then_some-shown.ensures c.shows_entity.ensures) c.commands_cause.ensures
    ∙ sym (ap (subject_cause c.args.params.now (map term_of c.args.terms.now)) c.in-Row.is)

pub returns-in-Granted : goal.returns-in-Granted
returns-in-Granted c = c.slot_cause.ensures ∙ sym (ap (subject_cause c.args.params.now (map term_of c.args.terms.now)) c.in-Granted.is)
