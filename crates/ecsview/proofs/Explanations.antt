-- What is answered to a command on a program file that is refused.
use Rattle.std.proofs.Common.{◌≡◌, List, ℕ, Option, Some, IfSome, Result, Ok, Err, IfOk, IfErr, inl, inr, subst, sym}
use Rattle.std.specs.Prelude.{◌⊎◌, OnOk}
use Rattle.findings.specs.Loaded.{IsLoaded}
use Rattle.findings.specs.Refusals.{IsUnloaded}
use Rattle.findings.specs.declared.loading.Loaded.{Loaded}
use Rattle.program.specs.declared.fault.Fault.{Fault}
use Rattle.program.specs.declared.fault.Fault.TheVariants.{Memory}
use Rattle.ecsview.specs.Answer.{IsAnswer, IsAnsweredOn}
use Rattle.ecsview.specs.Explained.{IsToldTo}
use Rattle.toml.specs.Data.{Members}
use Rattle.toml.specs.Parse.{parse_document}
use Rattle.ecsview.specs.Refusals.{IsRefusal, IsRefusalOn}
use Rattle.ecsview.specs.declared.args.Work.{Work}
use Rattle.ecsview.specs.declared.viewing.Shown.{Shown}

-- where a fault for which a file is not accepted is explained, that is the answer
pub explained_is : (opener rules : List ℕ) (work : Work) (file trace other : Option (List ℕ)) (fault : Fault) (r : Result Shown Fault) → IsUnloaded file fault → IfOk r (IsToldTo work fault)
    → IfOk r (IsAnsweredOn opener rules work file trace other)
explained_is opener rules work file trace other fault (Ok shown) unloaded told = inr (record { fault = fault; refused = unloaded; told = told })
explained_is opener rules work file trace other fault (Err e) unloaded told = tt

-- where it is told, or that an allocation fails, the work is refused
pub refused_is : (work : Work) (file trace other : Option (List ℕ)) (fault : Fault) (r : Result Shown Fault) → IsUnloaded file fault → IfErr r (λ told. (told ≡ fault) ⊎ (told ≡ Memory))
    → IfErr r (IsRefusalOn work file trace other)
refused_is work file trace other fault (Ok shown) unloaded kept = tt
refused_is work file trace other fault (Err told) unloaded (inl same) = inl (subst (IsUnloaded file) (sym same) unloaded)
refused_is work file trace other fault (Err told) unloaded (inr spent) = inl (subst (IsUnloaded file) (sym spent) (inl tt))

-- where it is accepted, what the work answers on what it declares is the answer, and what refuses that refuses the work
pub answered_is : (opener rules : List ℕ) (work : Work) (file trace other : Option (List ℕ)) (l : Loaded) (document : Members) (r : Result Shown Fault) → IsLoaded file l → IfSome file (λ text. parse_document text ≡ Some document) → IfOk r (IsAnswer opener rules document work l trace other)
    → IfOk r (IsAnsweredOn opener rules work file trace other)
answered_is opener rules work file trace other l document (Ok shown) loaded parsed answered = inl (record { declared = l; loaded = loaded; document = document; parsed = parsed; answer = answered })
answered_is opener rules work file trace other l document (Err e) loaded parsed answered = tt

pub refused_on : (work : Work) (file trace other : Option (List ℕ)) (l : Loaded) (r : Result Shown Fault) → IsLoaded file l → IfErr r (IsRefusal work l trace other) → IfErr r (IsRefusalOn work file trace other)
refused_on work file trace other l (Ok shown) loaded refused = tt
refused_on work file trace other l (Err told) loaded refused = inr (l, loaded, refused)
