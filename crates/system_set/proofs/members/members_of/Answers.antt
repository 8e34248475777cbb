use Rattle.std.proofs.Common.{Bool, List, length, subst}
use Rattle.system_set.specs.Pairs.{AreMarked}
use Rattle.system_set.proofs.Reaching.{members_from}
use Rattle.system_set.proofs.members.members_of.Goals as goal

pub returns : goal.returns
returns c =
    let marks : List Bool = c.in_ok-marks.marks.items in
    let e = c.in_ok-marks.ensures in
    members_from c.args.sets c.args.items c.args.pairs.now c.args.set marks c.in_ok-members.members.items e.long e.sound e.whole
    (subst (λ (xs : List Bool). AreMarked c.args.sets xs (length xs) c.in_ok-members.members.items) c.as_slice-2.ensures.value c.in_ok-members.ensures)
