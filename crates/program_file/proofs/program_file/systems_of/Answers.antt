use Rattle.std.proofs.Common.{map, subst, rules}
use Rattle.toml.specs.View.{table_view}
use Rattle.program_file.specs.Tables.{IsSystemIn}
use Rattle.program_file.specs.Faults.{HasSystemKeys, HasSystem, IsListFault, IsWrong}
use Rattle.program_file.proofs.Blocks.{zip-take}
use Rattle.program_file.proofs.Mapped.{of-mapped}
use Rattle.program_file.proofs.Wrong.{told-at, next-wrong}
use Rattle.program_file.specs.declared.place.Place.TheVariants.{System}
use Rattle.program_file.proofs.program_file.systems_of.Goals as goal
use Rattle.model.proofs.lists.Results.{handed_on}

-- the next system is read
pub loop-number-preserved : goal.loop-number-preserved
loop-number-preserved c =
    zip-take (λ inner system. IsSystemIn (table_view inner.now) system) c.args.tables.now c.loop-number.number-counter c.index-tables-number.result c.loop-number.systems.items _
    c.in_ok-system.system (search rules) c.loop-number-test.true c.loop-number.invariant
    (subst (λ inner. IsSystemIn (table_view inner.now) c.in_ok-system.system) c.index-tables-number.is
    (of-mapped (IsSystemIn (table_view c.index-tables-number.result.now)) _ c.read.result c.map_err.result c.in_ok-system.system c.map_err.ensures.cases c.map_err.ensures.variant c.in_ok-system.was c.read.ensures.said))

-- a table is the first that is wrong
pub returns-in_err-system-clause-fault : goal.returns-in_err-system-clause-fault
returns-in_err-system-clause-fault c =
    let table = table_view c.index-tables-number.result.now in
    let Told = IsListFault (λ number. System number) HasSystemKeys IsSystemIn (map (λ inner. table_view inner.now) c.args.tables.now) in
    handed_on Told c.from_residual.result c.in_err-system.field-0.0 c.from_residual.ensures.1
    (told-at (IsWrong (HasSystemKeys table) (HasSystem table)) Told (System c.loop-number.number-counter) c.read.result c.map_err.result c.in_err-system.field-0.0 _ c.map_err.ensures.cases c.in_err-system.was
    c.read.ensures.wrong (λ e f q. search rules)
    (λ e wrong. next-wrong HasSystemKeys IsSystemIn (λ inner. table_view inner.now) (λ x. x) (λ number. System number) c.loop-number.number-counter c.args.tables.now c.loop-number.systems.items
    c.index-tables-number.result c.index-tables-number.result c.loop-number.invariant c.loop-number-test.true c.index-tables-number.is e wrong))
