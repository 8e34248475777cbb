use Rattle.std.proofs.Common.{map, subst, rules}
use Rattle.toml.specs.View.{table_view}
use Rattle.program_file.specs.Tables.{IsEntityIn, IsEntityOf}
use Rattle.program_file.specs.Faults.{HasEntity, IsListFault}
use Rattle.program_file.specs.PlaceFault.{IsNoText, NoneIs}
use Rattle.program_file.proofs.Blocks.{zip-take}
use Rattle.program_file.proofs.Mapped.{of-mapped}
use Rattle.program_file.proofs.Wrong.{err-both, told-at, wrong-whole, next-wrong}
use Rattle.program_file.specs.declared.place.Place.TheVariants.{Entity}
use Rattle.program_file.proofs.program_file.entities_of.Goals as goal
use Rattle.model.proofs.lists.Results.{handed_on}

-- the next entity is read
pub loop-number-preserved : goal.loop-number-preserved
loop-number-preserved c =
    zip-take (λ inner components. IsEntityIn (table_view inner.now) components.items) c.args.tables.now c.loop-number.number-counter c.index-tables-number.result c.loop-number.entities.items _
    c.in_ok-entity.entity (search rules) c.loop-number-test.true c.loop-number.invariant
    (subst (λ inner. IsEntityIn (table_view inner.now) c.in_ok-entity.entity.items) c.index-tables-number.is
    (of-mapped (IsEntityOf (table_view c.index-tables-number.result.now)) _ c.components_of.result c.map_err.result c.in_ok-entity.entity c.map_err.ensures.cases c.map_err.ensures.variant c.in_ok-entity.was c.components_of.ensures.ok))

-- a table is the first that is wrong
pub returns-in_err-entity-clause-fault : goal.returns-in_err-entity-clause-fault
returns-in_err-entity-clause-fault c =
    let table = table_view c.index-tables-number.result.now in
    let Told = IsListFault (λ number. Entity number) HasEntity IsEntityIn (map (λ inner. table_view inner.now) c.args.tables.now) in
    handed_on Told c.from_residual.result c.in_err-entity.field-0.0 c.from_residual.ensures.1
    (told-at (λ e. NoneIs (IsEntityIn table) e × IsNoText e) Told (Entity c.loop-number.number-counter) c.components_of.result c.map_err.result c.in_err-entity.field-0.0 _ c.map_err.ensures.cases c.in_err-entity.was
    (err-both (NoneIs (IsEntityIn table)) IsNoText c.components_of.result c.components_of.ensures.refused c.components_of.ensures.only) (λ e f q. search rules)
    (λ e wrong. next-wrong HasEntity IsEntityIn (λ inner. table_view inner.now) (λ components. components.items) (λ number. Entity number) c.loop-number.number-counter c.args.tables.now c.loop-number.entities.items
    c.index-tables-number.result c.index-tables-number.result c.loop-number.invariant c.loop-number-test.true c.index-tables-number.is e (wrong-whole (IsEntityIn table) e wrong.0 wrong.1)))
