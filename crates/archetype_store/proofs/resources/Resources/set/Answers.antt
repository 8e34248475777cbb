use Rattle.archetype_store.proofs.Common.{refl}
use Rattle.std.proofs.lemmas.Int.{to_z-of_z}
use Rattle.archetype_store.proofs.ResourceWrites.{set-resource}
use Rattle.archetype_store.proofs.resources.Resources.set.Goals as goal

pub returns : goal.returns
returns c = rw (← c.self.view_is, ← c.number.ensures) (set-resource c.args.tick c.args.value c.self.inside.by_number c.number.result _ (search to_z-of_z) refl)
