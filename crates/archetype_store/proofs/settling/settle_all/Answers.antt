use Rattle.archetype_store.proofs.Common.{subst, sym, each-at, IsHeldBy}
use Rattle.archetype_store.proofs.BookChanges.{held_until}
use Rattle.archetype_store.proofs.settling.settle_all.Goals as goal

pub settle_one-requires : goal.settle_one-requires
settle_one-requires c =
    let cs = c.args.changes.now in
    let x = c.change-item.result in
    let n = c.loop-change.change-index in
    subst (λ book. IsHeldBy book x) (sym c.loop-change.invariant)
    (held_until cs c.args.book.now n x x c.loop-change-test.true c.requires.apart c.change-item.is (each-at (IsHeldBy c.args.book.now) cs n x c.loop-change-test.true c.requires.held))
