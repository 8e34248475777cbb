use Rattle.std.proofs.Common.{◌≡◌, ◌∙◌, Bool, List, Vec, ap, length, subst}
use Rattle.std.specs.declared.alloc.Global.{Global}
use Rattle.kinds.specs.declared.value.Value.{Value}
use Rattle.program_file.specs.declared.program_file.ChainTable.{ChainTable}
use Rattle.program_file.specs.declared.program_file.ItemTable.{ItemTable}
use Rattle.program_file.specs.declared.program_file.SystemTable.{SystemTable}
use Rattle.lints.specs.Collected.{Adds, Among}
use Rattle.lints.specs.Lints.{IsLint, IsOfChain, IsOfTable, present_kinds}
use Rattle.lints.specs.Constants.{IsOfCondition}
use Rattle.lints.specs.Repeats.{IsOfSetItem}
use Rattle.lints.specs.declared.lint.Lint.{Lint}
use Rattle.lints.proofs.Growing.{adds_both}
use Rattle.lints.proofs.linting.lints_of.Goals as goal

-- what is found of some tables is so of others that are the same
tables_as : (present kept : List Bool) (tables others : List SystemTable) (xs ys : List Lint) → present ≡ kept → tables ≡ others → Adds (Among (length tables) (IsOfTable present tables)) xs ys → Adds (Among (length others) (IsOfTable kept others)) xs ys
tables_as present kept tables others xs ys same same_tables added =
    subst (λ (ts : List SystemTable). Adds (Among (length ts) (IsOfTable kept ts)) xs ys) same_tables
    (subst (λ (p : List Bool). Adds (Among (length tables) (IsOfTable p tables)) xs ys) same added)

pub returns : goal.returns
unfolding IsLint
returns c =
    let present = c.in_ok-present.ensures
    ∙ (ap (λ (es : List (Vec Value Global)). present_kinds es c.as_slice-systems.result.now) c.as_slice.ensures.value
    ∙ ap (λ (ts : List SystemTable). present_kinds c.args.file.now.entities.items ts) c.as_slice-systems.ensures.value) in
    let known = c.as_slice-2.ensures.value ∙ present in
    subst (λ (start : List Lint). Adds (IsLint c.args.file.now c.args.built.now c.args.members.now c.args.pairs.now) start c.add_of_races.new.found.items) c.new-found.ensures.items
    (adds_both _ _ _ _ _ (tables_as _ _ _ _ _ _ known c.as_slice-systems.ensures.value c.in_ok-add_of_systems.ensures)
    (adds_both _ _ _ _ _ c.in_ok-add_of_sets.ensures
    (adds_both _ _ _ _ _ (subst (λ (sets : List ItemTable). Adds (Among (length sets) (IsOfSetItem sets)) c.add_of_sets.new.found.items c.add_of_set_items.new.found.items) c.as_slice-3.ensures.value c.in_ok-add_of_set_items.ensures)
    (adds_both _ _ _ _ _ (subst (λ (chains : List ChainTable). Adds (Among (length chains) (IsOfChain chains)) c.add_of_set_items.new.found.items c.add_of_chains.new.found.items) c.as_slice-4.ensures.value c.in_ok-add_of_chains.ensures)
    (adds_both _ _ _ _ _ (subst (λ (kept : List Bool). Adds (Among (length c.args.built.now.conditions) (IsOfCondition c.args.built.now c.args.file.now.resources kept)) c.add_of_chains.new.found.items c.add_of_conditions.new.found.items) (c.as_slice-5.ensures.value ∙ present) c.in_ok-add_of_conditions.ensures)
    (adds_both _ _ _ _ _ c.in_ok-add_of_event_kinds.ensures
    (adds_both _ _ _ _ _ c.in_ok-add_of_starts.ensures c.in_ok-add_of_races.ensures)))))))
