use Rattle.archetype_store.proofs.Common.{sym, ◌∙◌, component_of, map}
use Rattle.archetype_store.proofs.Rows.{find-none, remove-some}
use Rattle.archetype_store.proofs.RowEdits.{absent-removed}
use Rattle.archetype_store.proofs.components.take_component.Goals as goal

pub returns-in-Some : goal.returns-in-Some
returns-in-Some c =
    let here = remove-some c.args.number c.args.components.now.items c.in-Some.place (rw c.deref.ensures at (sym c.index_of.ensures ∙ c.in-Some.is)) in
    rw c.remove.ensures.items here

pub returns-in-None : goal.returns-in-None
returns-in-None c =
    let xs = c.args.components.now.items in
    let none = find-none c.args.number xs (rw c.deref.ensures at (sym c.index_of.ensures ∙ c.in-None.is)) in
    sym (absent-removed c.args.number (map component_of xs) none)
