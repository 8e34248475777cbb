use Rattle.std.proofs.Common.{flat_map, length}
use Rattle.std.proofs.lemmas.Result.{err_from_is_err_and}
use Rattle.model.specs.declarations.Declarations.{items_of, names_in, names_along}
use Rattle.schedule_builder.proofs.Lookups.{lacking_front, lacking_rest, known_both}
use Rattle.schedule_builder.proofs.orders.check_all_names.Goals as goal
use Rattle.model.proofs.lists.Results.{ok_as, err_as}

pub returns-in_err-check_items-clause-lacking : goal.returns-in_err-check_items-clause-lacking
returns-in_err-check_items-clause-lacking c =
    let p = err_from_is_err_and c.from_residual.result c.from_residual.ensures.1 in
    let d = c.args.desc.now in
    let count = length (items_of d) in
    rw (p.1, p.2) (lacking_front d (flat_map (names_in (length d.sets) count) (items_of d)) (flat_map (names_along count) d.chains) c.in_err-check_items.field-0.0 c.in_err-check_items.ensures.lacking)

pub returns-clause-lacking : goal.returns-clause-lacking
returns-clause-lacking c =
    let d = c.args.desc.now in
    let count = length (items_of d) in
    err_as _ _ c.check_chains.result (λ fault h. lacking_rest d (flat_map (names_in (length d.sets) count) (items_of d)) (flat_map (names_along count) d.chains) fault c.in_ok-check_items.ensures.known h) c.check_chains.ensures.lacking

pub returns-clause-known : goal.returns-clause-known
returns-clause-known c =
    let d = c.args.desc.now in
    let count = length (items_of d) in
    ok_as _ _ c.check_chains.result (λ h. known_both d (flat_map (names_in (length d.sets) count) (items_of d)) (flat_map (names_along count) d.chains) c.in_ok-check_items.ensures.known h) c.check_chains.ensures.known
