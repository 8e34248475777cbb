-- What is told where a step fails.
use Rattle.std.proofs.Common.{◌≡◌, Result, Ok, Err, IfErr, sym, subst}
use Rattle.std.specs.Result.{IsErrAnd}
use Rattle.model.specs.declarations.Declarations.{Declared}
use Rattle.schedule_builder.specs.Answers.{IsAnswered}
use Rattle.schedule_builder.specs.declared.fault.BuildFault.{BuildFault}
use Rattle.schedule_builder.specs.declared.fault.BuildFault.TheVariants.{Memory}

-- the fault of the step
pub told : {T : Type 0} (r : Result T BuildFault) (d : Declared) (fault : BuildFault) → IsErrAnd r (λ y. y ≡ fault) → IsAnswered d fault → IfErr r (IsAnswered d)
told (Ok x) d fault is here = absurd is
told (Err y) d fault is here = subst (λ f. IsAnswered d f) (sym is) here

-- a failed allocation
pub told_memory : {T : Type 0} (r : Result T BuildFault) (d : Declared) → IsErrAnd r (λ y. y ≡ Memory) → IfErr r (IsAnswered d)
told_memory (Ok x) d is = absurd is
told_memory (Err y) d is = subst (λ f. IsAnswered d f) (sym is) tt
