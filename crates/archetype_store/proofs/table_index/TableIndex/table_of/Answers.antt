use Rattle.archetype_store.proofs.Common.{length, refl, sym, arith}
use Rattle.std.proofs.lemmas.Option.{slice_get_read, slice_get_past}
use Rattle.archetype_store.proofs.TableIndex.{table_told}
use Rattle.archetype_store.proofs.table_index.TableIndex.table_of.Goals as goal

pub returns-then-archetype-len : goal.returns-then-archetype-len
returns-then-archetype-len c = λ tables i.
    let items = c.args.self.now.peopled.items in
    let many = c.args.self.now.peopled.ok.0 in
    table_told tables c.args.self.now c.args.archetype _ (sym (slice_get_read items (length items) c.args.archetype c.index.result.now refl (omega arith) c.index.ensures)) i

pub returns-else-archetype-len : goal.returns-else-archetype-len
returns-else-archetype-len c = λ tables i.
    let items = c.args.self.now.peopled.items in
    let many = c.args.self.now.peopled.ok.0 in
    table_told tables c.args.self.now c.args.archetype _ (sym (slice_get_past items c.args.archetype (omega arith))) i
