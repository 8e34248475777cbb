use Rattle.archetype_store.proofs.Common.{◌++◌, [], ◌∷◌, map, sym, ap, ◌∙◌, on_ok_weaker, stamped_number, TableValue}
use Rattle.archetype_store.proofs.KindOrder.{grown_if, some_numbers}
use Rattle.archetype_store.proofs.TableIndex.{kinds_found, none_found}
use Rattle.archetype_store.proofs.TableGrowth.{grown_self, table_added, kinds_added}
use Rattle.archetype_store.proofs.tables.table_for.Goals as goal

pub returns-in-Some-clause-kinds : goal.returns-in-Some-clause-kinds
returns-in-Some-clause-kinds c =
    kinds_found c.args.tables.now.items c.args.index.now c.word_of-word.result c.in-Some.table (map stamped_number c.args.components.now) c.requires.found c.requires.shaped c.requires.below c.word_of-word.ensures
    (sym c.find.ensures.found ∙ c.in-Some.is)

pub returns-in_ok-made-in-None-clause-grown : goal.returns-in_ok-made-in-None-clause-grown
returns-in_ok-made-in-None-clause-grown c =
    let ns = map stamped_number c.args.components.now in
    let T = c.args.tables.now.items in
    grown_if T c.add.new.tables.items ns c.requires.below (some_numbers c.args.components.now c.requires.some)
    (none_found T c.args.index.now c.word_of-word.result ns c.requires.found c.word_of-word.ensures (sym c.find.ensures.found ∙ c.in-None.is)) c.requires.shaped c.requires.unlike c.add.result
    (on_ok_weaker c.add.result (λ h. h ∙ ap (λ (t : TableValue). T ++ t ∷ []) c.in_ok-made-in-None.ensures) c.add.ensures.made) c.add.ensures.err

pub returns-in-Some-clause-grown : goal.returns-in-Some-clause-grown
returns-in-Some-clause-grown c = grown_self c.args.tables.now.items c.requires.shaped c.requires.unlike

pub returns-in_err-made-in-None-clause-grown : goal.returns-in_err-made-in-None-clause-grown
returns-in_err-made-in-None-clause-grown c = grown_self c.args.tables.now.items c.requires.shaped c.requires.unlike

pub returns-in_ok-made-in-None-clause-within : goal.returns-in_ok-made-in-None-clause-within
returns-in_ok-made-in-None-clause-within c = table_added c.add.result c.args.tables.now.items c.add.new.tables.items c.in_ok-made-in-None.made c.add.ensures.number c.add.ensures.made

pub returns-in_ok-made-in-None-clause-kinds : goal.returns-in_ok-made-in-None-clause-kinds
returns-in_ok-made-in-None-clause-kinds c =
    kinds_added c.add.result c.args.tables.now.items c.add.new.tables.items c.in_ok-made-in-None.made (map stamped_number c.args.components.now) (ap (λ (t : TableValue). t.kinds) c.in_ok-made-in-None.ensures) c.add.ensures.number c.add.ensures.made
