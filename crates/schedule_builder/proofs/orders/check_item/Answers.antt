use Rattle.std.proofs.Common.{◌++◌, ℕ}
use Rattle.std.proofs.lemmas.Result.{err_from_is_err_and}
use Rattle.model.specs.declarations.Declarations.{DeclaredItem, bounded}
use Rattle.schedule_builder.proofs.Lookups.{lacks_as, knows_as, lacking_front, lacking_rest, known_six}
use Rattle.schedule_builder.proofs.orders.check_item.Goals as goal
use Rattle.model.proofs.lists.Results.{ok_as, err_as}

pub returns-in_err-check_names-clause-lacking : goal.returns-in_err-check_names-clause-lacking
returns-in_err-check_names-clause-lacking c =
    let p = err_from_is_err_and c.from_residual.result c.from_residual.ensures.1 in
    let d = c.args.desc.now in
    let s : ℕ = c.args.sets in
    let k : ℕ = c.args.count in
    let i : DeclaredItem = c.args.item.now in
    let fault = c.in_err-check_names.field-0.0 in
    rw (p.1, p.2) (lacking_front d (bounded s i.inside) ((bounded k i.before) ++ ((bounded k i.after) ++ ((bounded k i.before_ignore_deferred) ++ ((bounded k i.after_ignore_deferred) ++ (bounded k i.ambiguous_with))))) fault (lacks_as d s _ _ fault c.inside.ensures c.in_err-check_names.ensures.lacking))

pub returns-in_err-check_names-2-clause-lacking : goal.returns-in_err-check_names-2-clause-lacking
returns-in_err-check_names-2-clause-lacking c =
    let p = err_from_is_err_and c.from_residual-in_err-check_names-2.result c.from_residual-in_err-check_names-2.ensures.1 in
    let d = c.args.desc.now in
    let s : ℕ = c.args.sets in
    let k : ℕ = c.args.count in
    let i : DeclaredItem = c.args.item.now in
    let fault = c.in_err-check_names-2.field-0.0 in
    rw (p.1, p.2) (lacking_rest d (bounded s i.inside) ((bounded k i.before) ++ ((bounded k i.after) ++ ((bounded k i.before_ignore_deferred) ++ ((bounded k i.after_ignore_deferred) ++ (bounded k i.ambiguous_with))))) fault (knows_as d s _ _ c.inside.ensures c.in_ok-check_names.ensures.known) (lacking_front d (bounded k i.before) ((bounded k i.after) ++ ((bounded k i.before_ignore_deferred) ++ ((bounded k i.after_ignore_deferred) ++ (bounded k i.ambiguous_with)))) fault (lacks_as d k _ _ fault c.before-firsts.ensures c.in_err-check_names-2.ensures.lacking)))

pub returns-in_err-check_names-3-clause-lacking : goal.returns-in_err-check_names-3-clause-lacking
returns-in_err-check_names-3-clause-lacking c =
    let p = err_from_is_err_and c.from_residual-in_err-check_names-3.result c.from_residual-in_err-check_names-3.ensures.1 in
    let d = c.args.desc.now in
    let s : ℕ = c.args.sets in
    let k : ℕ = c.args.count in
    let i : DeclaredItem = c.args.item.now in
    let fault = c.in_err-check_names-3.field-0.0 in
    rw (p.1, p.2) (lacking_rest d (bounded s i.inside) ((bounded k i.before) ++ ((bounded k i.after) ++ ((bounded k i.before_ignore_deferred) ++ ((bounded k i.after_ignore_deferred) ++ (bounded k i.ambiguous_with))))) fault (knows_as d s _ _ c.inside.ensures c.in_ok-check_names.ensures.known) (lacking_rest d (bounded k i.before) ((bounded k i.after) ++ ((bounded k i.before_ignore_deferred) ++ ((bounded k i.after_ignore_deferred) ++ (bounded k i.ambiguous_with)))) fault (knows_as d k _ _ c.before-firsts.ensures c.in_ok-check_names-2.ensures.known) (lacking_front d (bounded k i.after) ((bounded k i.before_ignore_deferred) ++ ((bounded k i.after_ignore_deferred) ++ (bounded k i.ambiguous_with))) fault (lacks_as d k _ _ fault c.after.ensures c.in_err-check_names-3.ensures.lacking))))

pub returns-in_err-check_names-4-clause-lacking : goal.returns-in_err-check_names-4-clause-lacking
returns-in_err-check_names-4-clause-lacking c =
    let p = err_from_is_err_and c.from_residual-in_err-check_names-4.result c.from_residual-in_err-check_names-4.ensures.1 in
    let d = c.args.desc.now in
    let s : ℕ = c.args.sets in
    let k : ℕ = c.args.count in
    let i : DeclaredItem = c.args.item.now in
    let fault = c.in_err-check_names-4.field-0.0 in
    rw (p.1, p.2) (lacking_rest d (bounded s i.inside) ((bounded k i.before) ++ ((bounded k i.after) ++ ((bounded k i.before_ignore_deferred) ++ ((bounded k i.after_ignore_deferred) ++ (bounded k i.ambiguous_with))))) fault (knows_as d s _ _ c.inside.ensures c.in_ok-check_names.ensures.known) (lacking_rest d (bounded k i.before) ((bounded k i.after) ++ ((bounded k i.before_ignore_deferred) ++ ((bounded k i.after_ignore_deferred) ++ (bounded k i.ambiguous_with)))) fault (knows_as d k _ _ c.before-firsts.ensures c.in_ok-check_names-2.ensures.known) (lacking_rest d (bounded k i.after) ((bounded k i.before_ignore_deferred) ++ ((bounded k i.after_ignore_deferred) ++ (bounded k i.ambiguous_with))) fault (knows_as d k _ _ c.after.ensures c.in_ok-check_names-3.ensures.known) (lacking_front d (bounded k i.before_ignore_deferred) ((bounded k i.after_ignore_deferred) ++ (bounded k i.ambiguous_with)) fault (lacks_as d k _ _ fault c.before_ignore_deferred.ensures c.in_err-check_names-4.ensures.lacking)))))

pub returns-in_err-check_names-5-clause-lacking : goal.returns-in_err-check_names-5-clause-lacking
returns-in_err-check_names-5-clause-lacking c =
    let p = err_from_is_err_and c.from_residual-in_err-check_names-5.result c.from_residual-in_err-check_names-5.ensures.1 in
    let d = c.args.desc.now in
    let s : ℕ = c.args.sets in
    let k : ℕ = c.args.count in
    let i : DeclaredItem = c.args.item.now in
    let fault = c.in_err-check_names-5.field-0.0 in
    rw (p.1, p.2) (lacking_rest d (bounded s i.inside) ((bounded k i.before) ++ ((bounded k i.after) ++ ((bounded k i.before_ignore_deferred) ++ ((bounded k i.after_ignore_deferred) ++ (bounded k i.ambiguous_with))))) fault (knows_as d s _ _ c.inside.ensures c.in_ok-check_names.ensures.known) (lacking_rest d (bounded k i.before) ((bounded k i.after) ++ ((bounded k i.before_ignore_deferred) ++ ((bounded k i.after_ignore_deferred) ++ (bounded k i.ambiguous_with)))) fault (knows_as d k _ _ c.before-firsts.ensures c.in_ok-check_names-2.ensures.known) (lacking_rest d (bounded k i.after) ((bounded k i.before_ignore_deferred) ++ ((bounded k i.after_ignore_deferred) ++ (bounded k i.ambiguous_with))) fault (knows_as d k _ _ c.after.ensures c.in_ok-check_names-3.ensures.known) (lacking_rest d (bounded k i.before_ignore_deferred) ((bounded k i.after_ignore_deferred) ++ (bounded k i.ambiguous_with)) fault (knows_as d k _ _ c.before_ignore_deferred.ensures c.in_ok-check_names-4.ensures.known) (lacking_front d (bounded k i.after_ignore_deferred) (bounded k i.ambiguous_with) fault (lacks_as d k _ _ fault c.after_ignore_deferred.ensures c.in_err-check_names-5.ensures.lacking))))))

pub returns-clause-lacking : goal.returns-clause-lacking
returns-clause-lacking c =
    let d = c.args.desc.now in
    let s : ℕ = c.args.sets in
    let k : ℕ = c.args.count in
    let i : DeclaredItem = c.args.item.now in
    err_as _ _ c.check_names-6.result (λ fault h. (lacking_rest d (bounded s i.inside) ((bounded k i.before) ++ ((bounded k i.after) ++ ((bounded k i.before_ignore_deferred) ++ ((bounded k i.after_ignore_deferred) ++ (bounded k i.ambiguous_with))))) fault (knows_as d s _ _ c.inside.ensures c.in_ok-check_names.ensures.known) (lacking_rest d (bounded k i.before) ((bounded k i.after) ++ ((bounded k i.before_ignore_deferred) ++ ((bounded k i.after_ignore_deferred) ++ (bounded k i.ambiguous_with)))) fault (knows_as d k _ _ c.before-firsts.ensures c.in_ok-check_names-2.ensures.known) (lacking_rest d (bounded k i.after) ((bounded k i.before_ignore_deferred) ++ ((bounded k i.after_ignore_deferred) ++ (bounded k i.ambiguous_with))) fault (knows_as d k _ _ c.after.ensures c.in_ok-check_names-3.ensures.known) (lacking_rest d (bounded k i.before_ignore_deferred) ((bounded k i.after_ignore_deferred) ++ (bounded k i.ambiguous_with)) fault (knows_as d k _ _ c.before_ignore_deferred.ensures c.in_ok-check_names-4.ensures.known) (lacking_rest d (bounded k i.after_ignore_deferred) (bounded k i.ambiguous_with) fault (knows_as d k _ _ c.after_ignore_deferred.ensures c.in_ok-check_names-5.ensures.known) (lacks_as d k _ _ fault c.ambiguous_with.ensures h))))))) c.check_names-6.ensures.lacking

pub returns-clause-known : goal.returns-clause-known
returns-clause-known c =
    let d = c.args.desc.now in
    let s : ℕ = c.args.sets in
    let k : ℕ = c.args.count in
    let i : DeclaredItem = c.args.item.now in
    ok_as _ _ c.check_names-6.result (λ h. known_six d s k i (knows_as d s _ _ c.inside.ensures c.in_ok-check_names.ensures.known) (knows_as d k _ _ c.before-firsts.ensures c.in_ok-check_names-2.ensures.known) (knows_as d k _ _ c.after.ensures c.in_ok-check_names-3.ensures.known) (knows_as d k _ _ c.before_ignore_deferred.ensures c.in_ok-check_names-4.ensures.known) (knows_as d k _ _ c.after_ignore_deferred.ensures c.in_ok-check_names-5.ensures.known) (knows_as d k _ _ c.ambiguous_with.ensures h)) c.check_names-6.ensures.known
