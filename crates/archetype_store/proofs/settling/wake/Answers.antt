use Rattle.archetype_store.proofs.Common.{sym, subst, true, ◌≡◌, ◌∙◌, is_alive}
use Rattle.archetype_store.proofs.BookChanges.{woken_living, woken_granted, woken_lives, granted_else}
use Rattle.archetype_store.proofs.settling.wake.Goals as goal

pub returns-then-not-lives-clause-woken : goal.returns-then-not-lives-clause-woken
returns-then-not-lives-clause-woken c =
    let e = c.args.change.now.entity in
    c.spawn_at.ensures ∙ woken_granted c.args.book.now e c.prove_book.ensures (granted_else c.args.book.now c.args.change.now c.requires (sym c.lives.ensures.value ∙ c.if-not-lives.true))

pub returns-then-not-lives-clause-lives : goal.returns-then-not-lives-clause-lives
returns-then-not-lives-clause-lives c =
    let e = c.args.change.now.entity in
    let woken = c.spawn_at.ensures ∙ woken_granted c.args.book.now e c.prove_book.ensures (granted_else c.args.book.now c.args.change.now c.requires (sym c.lives.ensures.value ∙ c.if-not-lives.true)) in
    subst (λ book. is_alive book e ≡ true) (sym woken) (woken_lives c.args.book.now c.args.change.now c.requires)

pub returns-else-not-lives-clause-woken : goal.returns-else-not-lives-clause-woken
returns-else-not-lives-clause-woken c = woken_living c.args.book.now c.args.change.now.entity (sym c.lives.ensures.value ∙ c.if-not-lives.false)
