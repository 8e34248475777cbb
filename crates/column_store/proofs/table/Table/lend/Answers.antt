use Rattle.column_store.proofs.Common.{◌≡◌, get_or, map, set, sym, ap, subst, ◌∙◌, kind_number, standing_at, seen_slot, IsKindPlace, TableValue, lent, standing_of, IsHome, Away}
use Rattle.column_store.proofs.Found.{home_there, lent_kept, lent_table}
use Rattle.column_store.proofs.Roomy.{no_spare}
use Rattle.column_store.proofs.table.Table.lend.Goals as goal

pub unreachable-requires : goal.unreachable-requires
unreachable-requires c =
    let home = subst (λ (t : TableValue). IsHome (standing_of t (kind_number c.args.kind))) (sym c.self.view_is) c.requires in
    home_there _ (c.in_default.ensures.standing c.self.inside.entities.list c.self.inside.columns.slots.items) home

pub invariant_of-self-2 : goal.invariant_of-self-2
invariant_of-self-2 c =
    let ns = map kind_number c.self.inside.columns.kinds.items in
    let es = c.self.inside.entities.list in
    let ps = c.self.inside.columns.slots.items in
    let at : IsKindPlace ns es ps (kind_number c.args.kind) c.in-Some.place = c.in-Some.ensures es ps c.self.invariant.kept.table in
    let p = c.index_mut.result.now in
    let is : p ≡ get_or ps c.in-Some.place p = c.index_mut.ensures.value in
    let q = c.lend.new.self in
    let away = c.in_ok-column.ensures.away ∙ ap (λ x. standing_at Away (seen_slot x)) is in
    no_spare ns c.self.inside.entities (set ps c.in-Some.place q) (lent_kept ns es ps (kind_number c.args.kind) c.in-Some.place at p q away c.self.invariant.kept.table)

pub returns-clause-away : goal.returns-clause-away
returns-clause-away c =
    let ns = map kind_number c.self.inside.columns.kinds.items in
    let es = c.self.inside.entities.list in
    let ps = c.self.inside.columns.slots.items in
    let at : IsKindPlace ns es ps (kind_number c.args.kind) c.in-Some.place = c.in-Some.ensures es ps c.self.invariant.kept.table in
    let p = c.index_mut.result.now in
    let is : p ≡ get_or ps c.in-Some.place p = c.index_mut.ensures.value in
    let away = c.in_ok-column.ensures.away ∙ ap (λ x. standing_at Away (seen_slot x)) is in
    lent_table ns es ps (kind_number c.args.kind) c.in-Some.place at p c.lend.new.self away ∙ ap (λ (t : TableValue). lent t (kind_number c.args.kind)) c.self.view_is
