use Rattle.std.proofs.Common.{◌<◌, ◌∙◌, arith}
use Rattle.kinds.specs.Kind.{kind_number}
use Rattle.access_set.proofs.Footprints.{any_meet_at}
use Rattle.access_set.proofs.datum.conflict_at_kind.Goals as goal

pub returns : goal.returns
returns c =
    let low : kind_number c.args.kind < 64 = let below = c.prove_kinds_apart.ensures.below c.args.kind in omega arith in
    c.any_meets_at.ensures
    ∙ any_meet_at c.args.a.now.queries c.args.b.now.queries c.footprints.result.now c.footprints-2.result.now (kind_number c.args.kind) low c.footprints.ensures c.footprints-2.ensures
