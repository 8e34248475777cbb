use Rattle.archetype_store.proofs.Common.{subst, IsLayoutOf, rows_seen, StoreValue}
use Rattle.archetype_store.proofs.TableLayouts.{laid_out, slots_laid}
use Rattle.archetype_store.proofs.store.World.prove_laid.Goals as goal

pub returns : goal.returns
returns c =
    let v = c.self.inside.rows in
    subst (λ (x : StoreValue). IsLayoutOf x.state.slots x.layout) c.self.view_is (slots_laid c.self.inside.ids (rows_seen v) c.self.invariant.held (laid_out v.tables v.places c.prove_rows.ensures.whole))
