use Rattle.std.proofs.Common.{◌≡◌, ℕ, List, flat_map, map, string_bytes, length, get_or, subst, ap, ◌∙◌, arith}
use Rattle.std.proofs.lemmas.Result.{err_from_is_err_and}
use Rattle.model.specs.declarations.Declarations.{DeclaredChain, items_of, bounded, names_along}
use Rattle.model.specs.declarations.Walks.{EachIs}
use Rattle.model.specs.declarations.Refusals.{IsKnown}
use Rattle.schedule_builder.specs.Orders.{IsLacking}
use Rattle.schedule_builder.proofs.Lookups.{lacking_at, known_more, known_all}
use Rattle.schedule_builder.proofs.orders.check_chains.Goals as goal

pub returns-in_err-check_names-clause-lacking : goal.returns-in_err-check_names-clause-lacking
returns-in_err-check_names-clause-lacking c =
    let p = err_from_is_err_and c.from_residual.result c.from_residual.ensures.1 in
    let d = c.args.desc.now in
    let fault = c.in_err-check_names.field-0.0 in
    let count : ℕ = length (items_of d) in
    let chain : DeclaredChain = c.chain-item.result in
    let here : bounded c.count-count.result (map string_bytes c.items.result.now) ≡ names_along count (get_or c.chains-chains.result.now c.loop-chain.chain-index chain) =
    ap (λ (k : ℕ). bounded k (map string_bytes c.items.result.now)) c.count-count.ensures ∙ ap (bounded count) (c.items.ensures ∙ ap (λ (x : DeclaredChain). x.items) c.chain-item.is) in
    rw (p.1, p.2) (subst (λ (xs : List DeclaredChain). IsLacking d (flat_map (names_along count) xs) fault) c.chains-chains.ensures
    (lacking_at d (names_along count) c.chains-chains.result.now c.loop-chain.chain-index chain fault (omega arith) c.loop-chain.invariant
    (subst (λ ys. IsLacking d ys fault) here c.in_err-check_names.ensures.lacking)))

pub loop-chain-preserved : goal.loop-chain-preserved
loop-chain-preserved c =
    let d = c.args.desc.now in
    let count : ℕ = length (items_of d) in
    let chain : DeclaredChain = c.chain-item.result in
    let here : bounded c.count-count.result (map string_bytes c.items.result.now) ≡ names_along count (get_or c.chains-chains.result.now c.loop-chain.chain-index chain) =
    ap (λ (k : ℕ). bounded k (map string_bytes c.items.result.now)) c.count-count.ensures ∙ ap (bounded count) (c.items.ensures ∙ ap (λ (x : DeclaredChain). x.items) c.chain-item.is) in
    known_more d (names_along count) c.chains-chains.result.now c.loop-chain.chain-index chain (omega arith) c.loop-chain.invariant
    (subst (λ ys. EachIs (IsKnown d) ys) here c.in_ok-check_names.ensures.known)

pub returns-clause-known : goal.returns-clause-known
returns-clause-known c =
    let d = c.args.desc.now in
    let f = names_along (length (items_of d)) in
    subst (λ (xs : List DeclaredChain). EachIs (IsKnown d) (flat_map f xs)) c.chains-chains.ensures
    (known_all d f c.chains-chains.result.now c.loop-chain.chain-index (omega arith) c.loop-chain.invariant)
