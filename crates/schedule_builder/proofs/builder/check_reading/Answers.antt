use Rattle.std.proofs.Common.{ℕ, List, Option, subst}
use Rattle.model.specs.access.Condition.{Condition}
use Rattle.schedule_builder.specs.Asked.{asked_of, TellsWriting}
use Rattle.schedule_builder.proofs.Askings.{condition_writes, all_reading}
use Rattle.schedule_builder.proofs.Exits.{told_memory}
use Rattle.schedule_builder.proofs.builder.check_reading.Goals as goal

pub returns-in-None-clause-reading : goal.returns-in-None-clause-reading
returns-in-None-clause-reading c =
    let d = c.args.desc.now in
    let told = subst (λ (cs : List Condition). TellsWriting cs c.in_ok-first_writing.field-0) c.requires.asked c.in_ok-first_writing.ensures in
    all_reading d (subst (λ (o : Option ℕ). TellsWriting (asked_of d) o) c.in-None.is told)

pub returns-in-Some-clause-refused : goal.returns-in-Some-clause-refused
returns-in-Some-clause-refused c =
    let d = c.args.desc.now in
    let told = subst (λ (cs : List Condition). TellsWriting cs c.in_ok-first_writing.field-0) c.requires.asked c.in_ok-first_writing.ensures in
    (c.requires.ordered, c.requires.apart, c.requires.good, c.requires.good_conditions, condition_writes d c.in-Some.condition (subst (λ (o : Option ℕ). TellsWriting (asked_of d) o) c.in-Some.is told))

pub returns-in_err-first_writing-clause-refused : goal.returns-in_err-first_writing-clause-refused
returns-in_err-first_writing-clause-refused c = told_memory c.from_residual.result c.args.desc.now c.from_residual.ensures.1
