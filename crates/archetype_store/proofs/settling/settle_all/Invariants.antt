use Rattle.archetype_store.proofs.Common.{◌≡◌, take, book_changed}
use Rattle.archetype_store.proofs.settling.settle_all.Given as goal

-- the changes so far are made
abbrev pub invariant-loop-change : goal.invariant-loop-change
invariant-loop-change l = l.book ≡ book_changed (take l.change-index l.changes) l.fn.book
