use Rattle.column_store.proofs.Common.{◌≡◌, true, length, map, sym, subst, arith, list_all, AllByRecursion, with_items_is, on_ok_weaker, kind_number, TableValue, is_home, IsAtHome}
use Rattle.column_store.proofs.Edited.{all_home}
use Rattle.column_store.proofs.Tables.{table-alike, table-owned, alike_room}
use Rattle.column_store.proofs.Kept.{kept-columns}
use Rattle.column_store.proofs.Roomy.{no_spare}
use Rattle.column_store.proofs.table.Table.own.Goals as goal

pub own_each-requires : goal.own_each-requires
own_each-requires c =
    let stand = subst (λ (t : TableValue). list_all is_home t.standings ≡ true) (sym c.self.view_is) c.requires in
    subst (AllByRecursion IsAtHome) (sym c.deref_mut.ensures.value) (all_home c.self.inside.columns.slots.items stand)

pub invariant_of-self : goal.invariant_of-self
invariant_of-self c =
    let ns = map kind_number c.self.inside.columns.kinds.items in
    let es = c.self.inside.entities in
    let same : length c.own_each.new.columns ≡ c.self.inside.columns.slots.len = (let a = c.own_each.auto.columns in let v = c.self.inside.columns.slots.ok.0 in omega (arith, c.deref_mut.ensures.len)) in
    let alike = rw c.deref_mut.ensures.value at c.own_each.ensures.alike in
    rw (with_items_is c.self.inside.columns.slots c.own_each.new.columns same)
    (no_spare ns es c.own_each.new.columns (kept-columns ns es.list c.self.inside.columns.slots.items c.own_each.new.columns alike.columns c.self.invariant.kept.table))

pub returns-clause-ok : goal.returns-clause-ok
returns-clause-ok c =
    let ns = map kind_number c.self.inside.columns.kinds.items in
    let same : length c.own_each.new.columns ≡ c.self.inside.columns.slots.len = (let a = c.own_each.auto.columns in let v = c.self.inside.columns.slots.ok.0 in omega (arith, c.deref_mut.ensures.len)) in
    let ok = rw c.deref_mut.ensures.value at c.own_each.ensures.ok in
    rw (with_items_is c.self.inside.columns.slots c.own_each.new.columns same, ← c.self.view_is)
    (on_ok_weaker c.own_each.result (λ h. table-owned ns c.self.inside.entities.list c.self.inside.columns.slots.items c.own_each.new.columns h) ok)

pub returns-clause-alike : goal.returns-clause-alike
returns-clause-alike c =
    let ns = map kind_number c.self.inside.columns.kinds.items in
    let es = c.self.inside.entities.list in
    let same : length c.own_each.new.columns ≡ c.self.inside.columns.slots.len = (let a = c.own_each.auto.columns in let v = c.self.inside.columns.slots.ok.0 in omega (arith, c.deref_mut.ensures.len)) in
    let alike = rw c.deref_mut.ensures.value at c.own_each.ensures.alike in
    rw (with_items_is c.self.inside.columns.slots c.own_each.new.columns same, ← c.self.view_is) (alike_room _ _ c.self.inside.room 0 (table-alike ns es c.self.inside.columns.slots.items c.own_each.new.columns alike))
