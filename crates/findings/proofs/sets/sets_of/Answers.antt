use Rattle.std.proofs.Common.{◌≤◌, ℕ, List, length, map, ap, subst, ◌∙◌, arith}
use Rattle.std.proofs.lemmas.List.{take_all}
use Rattle.program_file.specs.declared.program_file.ItemTable.{ItemTable}
use Rattle.system_set.specs.Coverage.{AreCovered}
use Rattle.findings.proofs.SetsFound.{sets_found}
use Rattle.findings.proofs.sets.sets_of.Goals as goal

-- the names of all sets, and the members of each
pub returns : goal.returns
returns c = λ known few few_systems.
    let sets = c.args.sets.now in
    let inv = c.loop-number.invariant in
    let past : length sets ≤ c.loop-number.number = omega (arith, c.loop-number-test.false) in
    let numbers = c.as_slice.ensures.value in
    sets_found sets c.args.systems.now _ c.in_ok-hierarchy.hierarchy c.loop-number.numbers.items c.in_ok-lists.lists.items (c.in_ok-hierarchy.ensures.declared known)
    (inv.names ∙ ap (map (λ (set : ItemTable). set.name.now)) (take_all c.loop-number.number sets past))
    (omega (arith, inv.count, past, c.loop-number.auto.number-end)) (λ n low. inv.numbers n (omega (arith, low, past)))
    (subst (λ (ns : List ℕ). AreCovered c.in_ok-hierarchy.hierarchy ns c.in_ok-lists.lists.items) numbers c.in_ok-lists.ensures) (c.in_ok-members.ensures ∙ c.as_slice-2.ensures.value)
