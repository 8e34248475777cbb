use Rattle.std.proofs.Common.{◌∙◌, sym}
use Rattle.model.proofs.serial.SelfConflicts.{within_tested}
use Rattle.access_set.proofs.self_conflict.conflicts_within.Goals as goal

pub returns : goal.returns
returns c = let p = c.args.params.now in let e = c.conflict_within.ensures in
    ((λ h. (within_tested p).0 (sym e ∙ h)), (λ h. e ∙ (within_tested p).1 h))
