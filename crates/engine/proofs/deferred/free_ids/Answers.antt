use Rattle.std.proofs.Common.{ℕ, List, [], ◌∙◌, ◌+◌, ap, drop, get_or, sym}
use Rattle.std.proofs.lemmas.List.{drop_all, get_or_default}
use Rattle.engine.specs.Deferred.{grants_of}
use Rattle.engine.proofs.SyncPointState.{freed_in, freed_more, freed_none}
use Rattle.engine.proofs.deferred.free_ids.Goals as goal

pub loop-system-preserved : goal.loop-system-preserved
loop-system-preserved c =
    let grants = c.args.grants.now in
    let level = c.args.level.now in
    let i = c.loop-system.system-index in
    let within = c.loop-system-test.true in
    let ids = c.deref.ensures.value ∙ c.granted.view_is ∙ c.index-grants-system.is ∙ get_or_default grants (get_or level i 0) c.index-grants-system.result [] (c.requires i 0 within) in
    ap (freed_in (grants_of grants (drop (i + 1) level))) c.release.ensures
    ∙ freed_more grants level i 0 c.deref.result.now c.loop-system.state within ids
    ∙ c.loop-system.invariant

pub returns : goal.returns
returns c =
    let grants = c.args.grants.now in
    let level = c.args.level.now in
    sym (freed_none c.loop-system.state)
    ∙ ap (λ (ns : List ℕ). freed_in (grants_of grants ns) c.loop-system.state) (sym (drop_all c.loop-system.system-index level c.loop-system-test.false))
    ∙ c.loop-system.invariant
