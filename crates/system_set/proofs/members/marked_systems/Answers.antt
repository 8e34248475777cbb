use Rattle.std.proofs.Common.{ℕ, ◌+◌, List, refl, sym, subst}
use Rattle.system_set.specs.Pairs.{is_marked, AreMarked}
use Rattle.system_set.proofs.Reaching.{marked_more}
use Rattle.system_set.proofs.members.marked_systems.Goals as goal

pub loop-item-preserved : goal.loop-item-preserved
loop-item-preserved c =
    let item : ℕ = c.loop-item.item in
    subst (λ (xs : List ℕ). AreMarked c.args.sets c.args.marks.now (item + 1) xs) (sym c.in_ok-push_if.ensures)
    (marked_more c.args.sets c.args.marks.now item c.loop-item.members.items (is_marked c.args.marks.now item) c.loop-item.auto.item refl c.loop-item.invariant)
