use Rattle.std.proofs.Common.{ℕ, List, Option, Result, sym, subst}
use Rattle.program.specs.Served.{Tells}
use Rattle.program.specs.declared.fault.Fault.{Fault}
use Rattle.session.specs.declared.play.PlayFault.{PlayFault}
use Rattle.ecsplay.specs.Hosted.{EndsWith}
use Rattle.ecsplay.proofs.hosting.status_of.Goals as goal

pub returns-in-Err : goal.returns-in-Err
returns-in-Err g c =
    let faults : Option (List ℕ) × Option (List ℕ) = (g.E.Write.contents c.args.faults.now, g.E.Write.contents c.tell.new.faults) in
    subst (λ (r : Result (Unit {0}) PlayFault). EndsWith r c.tell.result faults) (sym c.in-Err.is) (subst (λ (f : Fault). Tells f c.tell.result faults) c.fault_of.ensures c.tell.ensures)
