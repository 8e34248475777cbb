use Rattle.std.proofs.Common.{◌∙◌, sym}
use Rattle.access_set.proofs.MeetsIn.{at_kind_in}
use Rattle.access_set.proofs.meeting.meet_at_kind_in.Goals as goal

pub returns : goal.returns
returns c =
    let is = at_kind_in c.args.a.now c.args.b.now c.args.sets.now c.footprints.result.now c.footprints-2.result.now c.footprints.ensures c.footprints-2.ensures in
    ((λ h. is.0 (sym c.any_meets_in.ensures ∙ h)), (λ met. c.any_meets_in.ensures ∙ is.1 met))
