-- A system whose parameters don't conflict among themselves.
use Rattle.std.proofs.Common.{length, sym, ap, ◌∙◌, subst, arith, below_more}
use Rattle.std.proofs.lemmas.Bool.{false≢true}
use Rattle.model.specs.access.Access.{Params}
use Rattle.model.specs.access.SelfConflict.{ConflictWithin}
use Rattle.model.specs.declarations.Declarations.{DeclaredSystem, declared_at}
use Rattle.schedule_builder.proofs.self_conflicts.first_conflicting.Goals as goal

pub loop-number-preserved : goal.loop-number-preserved
loop-number-preserved c = λ m l.
    let d = c.args.desc.now in
    let read = c.params.ensures ∙ ap (λ (s : DeclaredSystem). s.params) c.system.ensures in
    below_more (λ n. ConflictWithin (declared_at d n).params → ⊥) c.loop-number.number c.loop-number.invariant
    (λ h. false≢true (sym c.if-conflicts_within.false ∙ c.conflicts_within.ensures.1 (subst (λ (p : Params). ConflictWithin p) (sym read) h))) m l

pub returns-clause-none : goal.returns-clause-none
returns-clause-none c = λ n l. c.loop-number.invariant n (omega (arith, ap length c.systems-number-end.ensures))
