use Rattle.archetype_store.proofs.Common.{sym, subst, ◌∙◌, CanJoin, CanRenew}
use Rattle.archetype_store.proofs.RowsMoved.{can_renew, can_join}
use Rattle.archetype_store.proofs.row_moves.move_row.Goals as goal

pub renew-requires-clause-can : goal.renew-requires-clause-can
renew-requires-clause-can c =
    let v = c.args.rows.now in
    let m = c.args.row.now in
    subst (CanRenew v m.change.now.entity c.in-Some.to) (sym c.components.ensures) (can_renew v m c.requires.planned c.in-Some.to c.in-Some.is (sym c.arrives_in.ensures ∙ c.in-None.is))

pub join-requires-clause-can : goal.join-requires-clause-can
join-requires-clause-can c =
    let v = c.args.rows.now in
    let m = c.args.row.now in
    let at = sym c.arrives_in.ensures ∙ c.in_default-arrives_in.is in
    subst (CanJoin v m.change.now.entity c.in-Some.to) (sym c.components-2.ensures) (can_join v m c.requires.planned c.in-Some.to c.in-Some.is c.in_default-arrives_in.field-0 at c.requires.gone c.requires.room)
