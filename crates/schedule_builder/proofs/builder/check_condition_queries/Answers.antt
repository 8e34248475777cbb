use Rattle.std.proofs.Common.{ℕ, List, Option, subst}
use Rattle.model.specs.access.Condition.{Condition}
use Rattle.schedule_builder.specs.Asked.{asked_of, TellsBadCondition}
use Rattle.schedule_builder.proofs.Askings.{bad_condition, good_conditions}
use Rattle.schedule_builder.proofs.Exits.{told_memory}
use Rattle.schedule_builder.proofs.builder.check_condition_queries.Goals as goal

pub returns-in-None-clause-good : goal.returns-in-None-clause-good
returns-in-None-clause-good c =
    let d = c.args.desc.now in
    let told = subst (λ (cs : List Condition). TellsBadCondition cs c.in_ok-first_bad_condition.field-0) c.requires.asked c.in_ok-first_bad_condition.ensures in
    good_conditions d (subst (λ (o : Option (ℕ × ℕ × ℕ)). TellsBadCondition (asked_of d) o) c.in-None.is told)

pub returns-in-Some-clause-refused : goal.returns-in-Some-clause-refused
returns-in-Some-clause-refused c =
    let d = c.args.desc.now in
    let told = subst (λ (cs : List Condition). TellsBadCondition cs c.in_ok-first_bad_condition.field-0) c.requires.asked c.in_ok-first_bad_condition.ensures in
    (c.requires.ordered, c.requires.apart, c.requires.good, bad_condition d c.in-Some.condition c.in-Some.query c.in-Some.case (subst (λ (o : Option (ℕ × ℕ × ℕ)). TellsBadCondition (asked_of d) o) c.in-Some.is told))

pub returns-in_err-first_bad_condition-clause-refused : goal.returns-in_err-first_bad_condition-clause-refused
returns-in_err-first_bad_condition-clause-refused c = told_memory c.from_residual.result c.args.desc.now c.from_residual.ensures.1
