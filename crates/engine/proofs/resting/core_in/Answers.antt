use Rattle.std.proofs.Common.{ℕ, List, Option, refl, sym, ap, ◌∙◌, subst}
use Rattle.std.specs.Prelude.{IfSome}
use Rattle.executor_core.specs.Stands.{Stand}
use Rattle.engine.specs.Latest.{IsCoreFor}
use Rattle.engine.specs.declared.resting.RestingCore.{RestingCore}
use Rattle.engine.proofs.RunEnd.{meetings_first}
use Rattle.engine.proofs.resting.core_in.Goals as goal

-- a new one
pub returns-in_default : goal.returns-in_default
returns-in_default c = record {
  schedule = c.in_ok-core.ensures.schedule;
  meetings = meetings_first c.in_ok-core.core c.args.sets.now c.in_ok-core.ensures.stands;
}

-- the one that was put by knows who meets whom there
pub returns-then-is_same : goal.returns-then-is_same
returns-then-is_same c =
    let known : IsCoreFor c.in-Some.field-0.room c.args.built.now c.in-Some.field-0.sets
    = subst (λ (o : Option RestingCore). IfSome o (λ it. IsCoreFor it.room c.args.built.now it.sets)) c.in-Some.is c.requires in
    subst (λ (sets : List ℕ). IsCoreFor c.into_core-core.result c.args.built.now sets) (c.if-is_same.ensures.0 refl)
    (subst (λ (core : Stand). IsCoreFor core c.args.built.now c.in-Some.field-0.sets) (sym c.into_core-core.ensures) known)

-- it finds it anew
pub returns : goal.returns
returns c =
    let known : IsCoreFor c.in-Some.field-0.room c.args.built.now c.in-Some.field-0.sets
    = subst (λ (o : Option RestingCore). IfSome o (λ it. IsCoreFor it.room c.args.built.now it.sets)) c.in-Some.is c.requires in
    record {
      schedule = c.in_ok-begin_in.ensures.schedule ∙ (ap (λ (core : Stand). core.schedule) c.into_core-core.ensures ∙ known.schedule);
      meetings = meetings_first c.begin_in.new.self c.args.sets.now c.in_ok-begin_in.ensures.stands;
    }
