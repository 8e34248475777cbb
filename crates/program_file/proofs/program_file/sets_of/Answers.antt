use Rattle.std.proofs.Common.{map, subst, rules}
use Rattle.toml.specs.View.{table_view}
use Rattle.program_file.specs.Tables.{IsSetIn}
use Rattle.program_file.specs.Faults.{HasSetKeys, HasSet, IsListFault, IsWrong}
use Rattle.program_file.proofs.Blocks.{zip-take}
use Rattle.program_file.proofs.Mapped.{of-mapped}
use Rattle.program_file.proofs.Wrong.{told-at, next-wrong}
use Rattle.program_file.specs.declared.place.Place.TheVariants.{Set}
use Rattle.program_file.proofs.program_file.sets_of.Goals as goal
use Rattle.model.proofs.lists.Results.{handed_on}

-- the next set is read
pub loop-number-preserved : goal.loop-number-preserved
loop-number-preserved c =
    zip-take (λ inner set. IsSetIn (table_view inner.now) set) c.args.tables.now c.loop-number.number-counter c.index-tables-number.result c.loop-number.sets.items _
    c.in_ok-set.set (search rules) c.loop-number-test.true c.loop-number.invariant
    (subst (λ inner. IsSetIn (table_view inner.now) c.in_ok-set.set) c.index-tables-number.is
    (of-mapped (IsSetIn (table_view c.index-tables-number.result.now)) _ c.set_of.result c.map_err.result c.in_ok-set.set c.map_err.ensures.cases c.map_err.ensures.variant c.in_ok-set.was c.set_of.ensures.ok))

-- a table is the first that is wrong
pub returns-in_err-set-clause-fault : goal.returns-in_err-set-clause-fault
returns-in_err-set-clause-fault c =
    let table = table_view c.index-tables-number.result.now in
    let Told = IsListFault (λ number. Set number) HasSetKeys IsSetIn (map (λ inner. table_view inner.now) c.args.tables.now) in
    handed_on Told c.from_residual.result c.in_err-set.field-0.0 c.from_residual.ensures.1
    (told-at (IsWrong (HasSetKeys table) (HasSet table)) Told (Set c.loop-number.number-counter) c.set_of.result c.map_err.result c.in_err-set.field-0.0 _ c.map_err.ensures.cases c.in_err-set.was
    c.set_of.ensures.wrong (λ e f q. search rules)
    (λ e wrong. next-wrong HasSetKeys IsSetIn (λ inner. table_view inner.now) (λ x. x) (λ number. Set number) c.loop-number.number-counter c.args.tables.now c.loop-number.sets.items
    c.index-tables-number.result c.index-tables-number.result c.loop-number.invariant c.loop-number-test.true c.index-tables-number.is e wrong))
