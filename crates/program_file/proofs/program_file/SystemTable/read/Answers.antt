use Rattle.std.specs.Prelude.{All}
use Rattle.toml.specs.View.{table_view}
use Rattle.program_file.specs.Faults.{HasSystem, HasSystemKeys, IsWrong}
use Rattle.tokens.specs.Name.{IsName}
use Rattle.program_file.specs.PlaceFault.{IsNoValue, NoneIs}
use Rattle.program_file.specs.Tables.{AreTextsOf, IsSystemIn, IsSystemRead}
use Rattle.program_file.specs.declared.program_file.SystemTable.{SystemTable}
use Rattle.program_file.proofs.Mapped.{of-ok}
use Rattle.program_file.proofs.Systems.{system-keys, system-read, texts-of}
use Rattle.program_file.proofs.Wrong.{err-both, wrong-keys, wrong-text}
use Rattle.program_file.proofs.program_file.SystemTable.read.Goals as goal
use Rattle.model.proofs.lists.Results.{handed_on, err_as}

-- it is what the table says
said : goal.returns-clause-said
said c =
    let texts = c.in_ok-read.field-0 in
    of-ok (IsSystemRead texts) (IsSystemIn (table_view c.args.table.now)) c.read_system.result (λ system read. system-read (table_view c.args.table.now) texts system c.in_ok-read.ensures.ok read) c.read_system.ensures.ok

pub returns-clause-said : goal.returns-clause-said
returns-clause-said c = said c

-- so its names are names
pub returns-clause-named : goal.returns-clause-named
returns-clause-named c = of-ok (IsSystemIn (table_view c.args.table.now)) (λ (system : SystemTable). IsName system.item.name.now) c.read_system.result (λ system is. is.item.named) (said c)

pub returns-clause-inside : goal.returns-clause-inside
returns-clause-inside c = of-ok (IsSystemIn (table_view c.args.table.now)) (λ (system : SystemTable). All (λ name. IsName name.now) system.item.inside.items) c.read_system.result (λ system is. is.item.inside.1) (said c)

pub returns-clause-before : goal.returns-clause-before
returns-clause-before c = of-ok (IsSystemIn (table_view c.args.table.now)) (λ (system : SystemTable). All (λ name. IsName name.now) system.item.before.items) c.read_system.result (λ system is. is.item.before.1) (said c)

pub returns-clause-after : goal.returns-clause-after
returns-clause-after c = of-ok (IsSystemIn (table_view c.args.table.now)) (λ (system : SystemTable). All (λ name. IsName name.now) system.item.after.items) c.read_system.result (λ system is. is.item.after.1) (said c)

-- the keys are wrong
pub returns-in_err-read-clause-wrong : goal.returns-in_err-read-clause-wrong
returns-in_err-read-clause-wrong c =
    let table = table_view c.args.table.now in
    let fault = c.in_err-read.field-0.0 in
    handed_on (IsWrong (HasSystemKeys table) (HasSystem table)) c.from_residual.result fault c.from_residual.ensures.1 (wrong-keys (HasSystemKeys table) (HasSystem table) fault c.in_err-read.ensures.unkeyed)

-- or no system has such texts
pub returns-clause-wrong : goal.returns-clause-wrong
returns-clause-wrong c =
    let table = table_view c.args.table.now in
    let texts = c.in_ok-read.field-0 in
    err_as (λ e. NoneIs (AreTextsOf texts) e × IsNoValue e) (IsWrong (HasSystemKeys table) (HasSystem table)) c.read_system.result
    (λ e h. wrong-text (AreTextsOf texts) (HasSystemKeys table) (HasSystem table) e (system-keys table texts c.in_ok-read.ensures.ok) (texts-of table texts c.in_ok-read.ensures.ok) h.0 h.1)
    (err-both (NoneIs (AreTextsOf texts)) IsNoValue c.read_system.result c.read_system.ensures.refused c.read_system.ensures.only)
