-- An instruction is of one of the forms.
use Rattle.std.proofs.Common.{sym, ap, ◌∙◌, map}
use Rattle.query.specs.Term.{term_of}
use Rattle.script.specs.declared.fault.Cause.TheVariants.{NotFetched, NotDeclared}
use Rattle.script.specs.Faults.{instruction_cause}
use Rattle.script.proofs.Causes.{told_unless, least_of, is_command}
use Rattle.script.proofs.check.cause_of.Goals as goal

pub returns-in-Change : goal.returns-in-Change
returns-in-Change c =
    least_of c.least.result c.target_cause.result c.source_cause.result _ _ c.least.ensures c.target_cause.ensures c.source_cause.ensures
    ∙ sym (ap (instruction_cause c.args.params.now (map term_of c.args.terms.now) c.args.event c.args.after) c.in-Change.is)

pub returns-in-Compare : goal.returns-in-Compare
returns-in-Compare c =
    least_of c.least-in-Compare.result c.pair_cause.result c.count_cause.result _ _ c.least-in-Compare.ensures c.pair_cause.ensures c.count_cause.ensures
    ∙ sym (ap (instruction_cause c.args.params.now (map term_of c.args.terms.now) c.args.event c.args.after) c.in-Compare.is)

pub returns-in-Has : goal.returns-in-Has
returns-in-Has c =
    least_of c.least-in-Has.result c.then_some-asked.result c.count_cause-in-Has.result _ _ c.least-in-Has.ensures
    (told_unless c.fetches.result _ NotFetched c.then_some-asked.result c.then_some-asked.ensures c.fetches.ensures) c.count_cause-in-Has.ensures
    ∙ sym (ap (instruction_cause c.args.params.now (map term_of c.args.terms.now) c.args.event c.args.after) c.in-Has.is)

pub returns-in-Emit : goal.returns-in-Emit
returns-in-Emit c =
    least_of c.least-in-Emit.result c.then_some-written.result c.source_cause-in-Emit.result _ _ c.least-in-Emit.ensures
    (told_unless c.writes_event.result _ NotDeclared c.then_some-written.result c.then_some-written.ensures c.writes_event.ensures) c.source_cause-in-Emit.ensures
    ∙ sym (ap (instruction_cause c.args.params.now (map term_of c.args.terms.now) c.args.event c.args.after) c.in-Emit.is)

pub command_cause-requires : goal.command_cause-requires
command_cause-requires c = is_command c.args.instruction c.in_default.not-Change c.in_default.not-Compare c.in_default.not-Has c.in_default.not-Emit

pub returns-in_default : goal.returns-in_default
returns-in_default c = c.command_cause.ensures c.args.after
