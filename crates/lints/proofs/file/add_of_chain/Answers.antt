use Rattle.std.proofs.Common.{ℕ, ◌∙◌, List, ap, length, nat_lt, subst, sym}
use Rattle.std.specs.Borrow.{Bor}
use Rattle.program_file.specs.declared.program_file.ChainTable.{ChainTable}
use Rattle.lints.specs.Collected.{Adds, Tested}
use Rattle.lints.specs.Lints.{IsOfChain}
use Rattle.lints.specs.declared.lint.Lint.TheVariants as lint
use Rattle.lints.proofs.Growing.{adds_at, adds_tested}
use Rattle.lints.proofs.file.add_of_chain.Goals as goal

pub returns : goal.returns
unfolding IsOfChain
returns c = adds_at (λ (chain : ChainTable). Tested (nat_lt (length chain.items.items) 2) (lint.LoneChain c.args.number)) c.args.chains.now c.args.number c.index-chains-number.result _ _ c.requires c.index-chains-number.is
    (subst (λ (chain : ChainTable). Adds (Tested (nat_lt (length chain.items.items) 2) (lint.LoneChain c.args.number)) c.args.found.now.items c.add_where.new.found.items) (sym c.index-chains-number.is)
    (adds_tested _ _ _ _ _ (c.is_lone-is.ensures ∙ ap (λ (items : List (Bor (List ℕ))). nat_lt (length items) 2) c.as_slice.ensures.value) c.in_ok-add_where.ensures))
