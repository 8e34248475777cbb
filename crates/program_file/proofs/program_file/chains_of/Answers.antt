use Rattle.std.proofs.Common.{map, subst, rules}
use Rattle.toml.specs.View.{table_view}
use Rattle.program_file.specs.Tables.{IsChainIn}
use Rattle.program_file.specs.Faults.{HasChain, IsListFault}
use Rattle.program_file.specs.PlaceFault.{IsNoText, NoneIs}
use Rattle.program_file.proofs.Blocks.{zip-take}
use Rattle.program_file.proofs.Mapped.{of-mapped}
use Rattle.program_file.proofs.Wrong.{err-both, told-at, wrong-whole, next-wrong}
use Rattle.program_file.specs.declared.place.Place.TheVariants.{Chain}
use Rattle.program_file.proofs.program_file.chains_of.Goals as goal
use Rattle.model.proofs.lists.Results.{handed_on}

-- the next chain is read
pub loop-number-preserved : goal.loop-number-preserved
loop-number-preserved c =
    zip-take (λ inner chain. IsChainIn (table_view inner.now) chain) c.args.tables.now c.loop-number.number-counter c.index-tables-number.result c.loop-number.chains.items _
    c.in_ok-chain.chain (search rules) c.loop-number-test.true c.loop-number.invariant
    (subst (λ inner. IsChainIn (table_view inner.now) c.in_ok-chain.chain) c.index-tables-number.is
    (of-mapped (IsChainIn (table_view c.index-tables-number.result.now)) _ c.read.result c.map_err.result c.in_ok-chain.chain c.map_err.ensures.cases c.map_err.ensures.variant c.in_ok-chain.was c.read.ensures.said))

-- a table is the first that is wrong
pub returns-in_err-chain-clause-fault : goal.returns-in_err-chain-clause-fault
returns-in_err-chain-clause-fault c =
    let table = table_view c.index-tables-number.result.now in
    let Told = IsListFault (λ number. Chain number) HasChain IsChainIn (map (λ inner. table_view inner.now) c.args.tables.now) in
    handed_on Told c.from_residual.result c.in_err-chain.field-0.0 c.from_residual.ensures.1
    (told-at (λ e. NoneIs (IsChainIn table) e × IsNoText e) Told (Chain c.loop-number.number-counter) c.read.result c.map_err.result c.in_err-chain.field-0.0 _ c.map_err.ensures.cases c.in_err-chain.was
    (err-both (NoneIs (IsChainIn table)) IsNoText c.read.result c.read.ensures.refused c.read.ensures.only) (λ e f q. search rules)
    (λ e wrong. next-wrong HasChain IsChainIn (λ inner. table_view inner.now) (λ x. x) (λ number. Chain number) c.loop-number.number-counter c.args.tables.now c.loop-number.chains.items
    c.index-tables-number.result c.index-tables-number.result c.loop-number.invariant c.loop-number-test.true c.index-tables-number.is e (wrong-whole (IsChainIn table) e wrong.0 wrong.1)))
