use Rattle.std.proofs.Common.{◌∙◌, sym}
use Rattle.access_set.proofs.Meets.{meet_at_kind as at_kind}
use Rattle.access_set.proofs.Footprints.{any_meet}
use Rattle.access_set.proofs.conflict.meet_at_kind.Goals as goal

pub returns : goal.returns
returns c = let a = c.args.a.now in let b = c.args.b.now in
    let e = c.any_meets.ensures ∙ any_meet a.queries b.queries c.footprints.result.now c.footprints-2.result.now c.footprints.ensures c.footprints-2.ensures in
    ((λ h. (at_kind a b).0 (sym e ∙ h)), (λ met. e ∙ (at_kind a b).1 met))
