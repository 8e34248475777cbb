use Rattle.std.proofs.Common.{length, ap, arith}
use Rattle.std.proofs.lemmas.Result.{err_from_is_err_and}
use Rattle.model.specs.declarations.Declarations.{items_of, names_in}
use Rattle.schedule_builder.proofs.Lookups.{no_item, item_lacks, item_knows, lacking_at, known_more, known_all, sets_few}
use Rattle.schedule_builder.proofs.orders.check_items.Goals as goal

pub check_item-requires-clause-sets : goal.check_item-requires-clause-sets
check_item-requires-clause-sets c = omega (arith, sets_few c.args.desc.now, ap length c.sets-sets.ensures)

pub check_item-requires-clause-items : goal.check_item-requires-clause-items
check_item-requires-clause-items c = omega (arith, c.count-count.ensures)

pub returns-in_err-check_item-clause-lacking : goal.returns-in_err-check_item-clause-lacking
returns-in_err-check_item-clause-lacking c =
    let p = err_from_is_err_and c.from_residual.result c.from_residual.ensures.1 in
    let d = c.args.desc.now in
    let fault = c.in_err-check_item.field-0.0 in
    let f = names_in (length d.sets) (length (items_of d)) in
    rw (p.1, p.2) (lacking_at d f (items_of d) c.loop-number.number no_item fault (omega (arith, c.count-count.ensures)) c.loop-number.invariant
    (item_lacks d _ _ _ _ _ _ fault (ap length c.sets-sets.ensures) c.count-count.ensures c.item.ensures c.in_err-check_item.ensures.lacking))

pub loop-number-preserved : goal.loop-number-preserved
loop-number-preserved c =
    let d = c.args.desc.now in
    let f = names_in (length d.sets) (length (items_of d)) in
    known_more d f (items_of d) c.loop-number.number no_item (omega (arith, c.count-count.ensures)) c.loop-number.invariant
    (item_knows d _ _ _ _ _ _ (ap length c.sets-sets.ensures) c.count-count.ensures c.item.ensures c.in_ok-check_item.ensures.known)

pub returns-clause-known : goal.returns-clause-known
returns-clause-known c =
    let d = c.args.desc.now in
    known_all d (names_in (length d.sets) (length (items_of d))) (items_of d) c.loop-number.number (omega (arith, c.count-count.ensures)) c.loop-number.invariant
