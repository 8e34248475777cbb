use Rattle.std.proofs.Common.{◌≡◌, List, codes, map, take, sym, subst, rules}
use Rattle.std.specs.List.{AllZip, AllByRecursion}
use Rattle.std.proofs.lemmas.List.{take_all}
use Rattle.toml.specs.View.{table_view}
use Rattle.toml.specs.Data.{Members}
use Rattle.program_file.specs.Faults.{HasBlockKeys, HasBlocks, IsUnkeyed}
use Rattle.program_file.specs.Keys.{HasTables}
use Rattle.program_file.specs.Tables.{IsBlockTextsIn}
use Rattle.program_file.proofs.Blocks.{zip-take, zip-map}
use Rattle.program_file.proofs.Refusals.{one-tables}
use Rattle.program_file.proofs.Wrong.{seen-each, unkeyed, unkeyed-part}
use Rattle.program_file.proofs.program_file.blocks_of.Goals as goal
use Rattle.model.proofs.lists.Results.{handed_on}

-- the keys of the next block are read
pub loop-block-preserved : goal.loop-block-preserved
loop-block-preserved c =
    zip-take (λ inner block. IsBlockTextsIn (table_view inner.now) block) c.deref-block-items.result.now c.loop-block.block-index c.block-item.result c.loop-block.blocks.items _
    c.in_ok-read.field-0 (search rules) c.loop-block-test.true c.loop-block.invariant
    (subst (λ inner. IsBlockTextsIn (table_view inner.now) c.in_ok-read.field-0) c.block-item.is c.in_ok-read.ensures.ok)

-- each block has its table
pub returns-clause-ok : goal.returns-clause-ok
returns-clause-ok c =
    let tables = c.in_ok-tables.tables.items in
    let blocks = c.loop-block.blocks.items in
    let all : take c.loop-block.block-index c.deref-block-items.result.now ≡ tables = search (rules, take_all) in
    record {
      tables = map (λ inner. table_view inner.now) tables;
      there = c.in_ok-tables.ensures.ok;
      each = zip-map IsBlockTextsIn (λ inner. table_view inner.now) tables blocks
          (subst (λ inners. AllZip (λ inner block. IsBlockTextsIn (table_view inner.now) block) inners blocks) all c.loop-block.invariant);
    }

-- there are no such tables
pub returns-in_err-tables-clause-unkeyed : goal.returns-in_err-tables-clause-unkeyed
returns-in_err-tables-clause-unkeyed c =
    let table = table_view c.args.table.now in
    let fault = c.in_err-tables.field-0.0 in
    handed_on (IsUnkeyed (HasBlocks table)) c.from_residual.result fault c.from_residual.ensures.1
    (unkeyed (λ (blocks : List Members). HasTables (codes "do") blocks table) (HasBlocks table) fault (λ blocks. (blocks.0, blocks.1)) c.in_err-tables.ensures.refused c.in_err-tables.ensures.err)

-- or one of them has not the keys of a block
pub returns-in_err-read-clause-unkeyed : goal.returns-in_err-read-clause-unkeyed
returns-in_err-read-clause-unkeyed c =
    let table = table_view c.args.table.now in
    let fault = c.in_err-read.field-0.0 in
    let inners = c.deref-block-items.result.now in
    let all : inners ≡ c.in_ok-tables.tables.items = search rules in
    let there : HasTables (codes "do") (map (λ inner. table_view inner.now) inners) table = rw all c.in_ok-tables.ensures.ok in
    handed_on (IsUnkeyed (HasBlocks table)) c.from_residual-in_err-read.result fault c.from_residual-in_err-read.ensures.1
    (unkeyed-part (HasBlockKeys (table_view c.block-item.result.now)) (HasBlocks table) fault
    (λ blocks. subst (λ inner. HasBlockKeys (table_view inner.now)) (sym c.block-item.is)
    (seen-each HasBlockKeys (λ inner. table_view inner.now) inners c.loop-block.block-index c.block-item.result c.loop-block-test.true
    (subst (AllByRecursion HasBlockKeys) (one-tables (codes "do") table blocks.0 (map (λ inner. table_view inner.now) inners) blocks.1 there) blocks.2)))
    c.in_err-read.ensures.unkeyed)
