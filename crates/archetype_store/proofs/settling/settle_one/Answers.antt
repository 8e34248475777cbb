use Rattle.archetype_store.proofs.Common.{ap, sym, ◌∙◌, update_at, freed, settled_slot}
use Rattle.archetype_store.proofs.BookChanges.{freed_once}
use Rattle.archetype_store.proofs.settling.settle_one.Goals as goal

pub returns-in-Dies : goal.returns-in-Dies
returns-in-Dies c =
    let i = c.args.change.now.entity.index in
    c.despawn.ensures ∙ ap (update_at i freed) c.wake.ensures.woken ∙ freed_once i c.args.book.now ∙ ap (λ fate. update_at i (settled_slot fate) c.args.book.now) (sym c.in-Dies.is)
