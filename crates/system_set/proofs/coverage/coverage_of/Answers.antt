use Rattle.std.proofs.Common.{ℕ, ◌+◌, Bool, List, get_or, sym, subst}
use Rattle.model.specs.declarations.Hierarchy.{Hierarchy}
use Rattle.system_set.specs.Pairs.{hierarchy_of}
use Rattle.system_set.specs.Coverage.{AreNumbersTo}
use Rattle.system_set.proofs.Ordered.{reached_set}
use Rattle.system_set.proofs.Coverages.{AreCoveredTo, numbers_told, covered_more}
use Rattle.system_set.proofs.coverage.coverage_of.Goals as goal

pub loop-item-preserved : goal.loop-item-preserved
loop-item-preserved c =
    let h : Hierarchy = hierarchy_of c.args.sets c.args.items c.args.pairs.now in
    let rows : List (List Bool) = c.in_ok-rows.rows.items in
    let item : ℕ = get_or c.args.covered.now c.loop-item.item-index 0 in
    let numbers : List ℕ = c.in_ok-members_in.field-0 in
    let found : AreNumbersTo c.args.sets rows item c.args.items numbers = subst (λ (rs : List (List Bool)). AreNumbersTo c.args.sets rs item c.args.items numbers) c.as_slice.ensures.value c.in_ok-members_in.ensures in
    subst (λ (lists : List (List ℕ)). AreCoveredTo h c.args.covered.now (c.loop-item.item-index + 1) lists) (sym c.in_ok-push.ensures.items)
    (covered_more h c.args.covered.now c.loop-item.item-index c.loop-item.lists.items numbers c.loop-item.invariant
    (numbers_told h rows item numbers c.in_ok-rows.ensures
    (record { sets = λ n holder reaches. reached_set c.args.sets c.args.items c.args.pairs.now c.requires.placed reaches.0 n holder reaches.1 }) found))
