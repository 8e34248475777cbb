use Rattle.archetype_store.proofs.Common.{subst, AllByRecursion, AreApart, StoreValue}
use Rattle.archetype_store.proofs.RowNumbers.{layout_apart}
use Rattle.archetype_store.proofs.store.World.prove_apart.Goals as goal

pub returns : goal.returns
returns c = subst (λ (v : StoreValue). AllByRecursion (λ a. AreApart a.entities) v.layout) c.self.view_is (layout_apart c.self.inside.rows.tables c.prove_rows.ensures.apart)
