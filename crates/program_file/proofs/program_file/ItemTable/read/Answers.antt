use Rattle.std.proofs.Common.{List, map}
use Rattle.std.specs.Prelude.{All}
use Rattle.toml.specs.View.{table_view}
use Rattle.run_condition.specs.Grammar.{IsCondition}
use Rattle.run_condition.specs.declared.cond.Cond.{Cond}
use Rattle.program_file.specs.PlaceFault.{IsNoValue, NoneIs}
use Rattle.program_file.specs.Readings.{AreSpelled}
use Rattle.program_file.specs.Faults.{HasItem, HasItemKeys, IsWrong}
use Rattle.tokens.specs.Name.{IsName}
use Rattle.program_file.specs.Tables.{IsItemIn, IsItemRead}
use Rattle.program_file.specs.declared.program_file.ItemTable.{ItemTable}
use Rattle.program_file.proofs.Items.{item-read, texts-keys}
use Rattle.program_file.proofs.Mapped.{of-ok}
use Rattle.program_file.proofs.Unread.{conditions-of}
use Rattle.program_file.proofs.Wrong.{err-both, wrong-keys, wrong-text}
use Rattle.program_file.proofs.program_file.ItemTable.read.Goals as goal
use Rattle.model.proofs.lists.Results.{handed_on, err_as}

-- it is what the table says
said : goal.returns-clause-said
said c =
    let texts = c.in_ok-read.field-0 in
    of-ok (IsItemRead texts) (IsItemIn (table_view c.args.table.now)) c.read_item.result (λ item read. item-read (table_view c.args.table.now) texts item c.in_ok-read.ensures.said read) c.read_item.ensures.ok

pub returns-clause-said : goal.returns-clause-said
returns-clause-said c = said c

-- so its names are names
pub returns-clause-named : goal.returns-clause-named
returns-clause-named c = of-ok (IsItemIn (table_view c.args.table.now)) (λ (item : ItemTable). IsName item.name.now) c.read_item.result (λ item is. is.named) (said c)

pub returns-clause-inside : goal.returns-clause-inside
returns-clause-inside c = of-ok (IsItemIn (table_view c.args.table.now)) (λ (item : ItemTable). All (λ name. IsName name.now) item.inside.items) c.read_item.result (λ item is. is.inside.1) (said c)

pub returns-clause-before : goal.returns-clause-before
returns-clause-before c = of-ok (IsItemIn (table_view c.args.table.now)) (λ (item : ItemTable). All (λ name. IsName name.now) item.before.items) c.read_item.result (λ item is. is.before.1) (said c)

pub returns-clause-after : goal.returns-clause-after
returns-clause-after c = of-ok (IsItemIn (table_view c.args.table.now)) (λ (item : ItemTable). All (λ name. IsName name.now) item.after.items) c.read_item.result (λ item is. is.after.1) (said c)

-- the keys are wrong
pub returns-in_err-read-clause-wrong : goal.returns-in_err-read-clause-wrong
returns-in_err-read-clause-wrong c =
    let table = table_view c.args.table.now in
    let fault = c.in_err-read.field-0.0 in
    handed_on (IsWrong (HasItemKeys table) (HasItem table)) c.from_residual.result fault c.from_residual.ensures.1 (wrong-keys (HasItemKeys table) (HasItem table) fault c.in_err-read.ensures.unkeyed)

-- or no item has such conditions
pub returns-clause-wrong : goal.returns-clause-wrong
returns-clause-wrong c =
    let table = table_view c.args.table.now in
    let texts = c.in_ok-read.field-0 in
    let Read = λ (conditions : List Cond). AreSpelled IsCondition conditions (map (λ text. text.now) texts.conditions.items) in
    err_as (λ e. NoneIs Read e × IsNoValue e) (IsWrong (HasItemKeys table) (HasItem table)) c.read_item.result
    (λ e h. wrong-text Read (HasItemKeys table) (HasItem table) e (texts-keys table texts c.in_ok-read.ensures.said)
    (λ item. (item.0.conditions.items, conditions-of table texts item.0.conditions.items c.in_ok-read.ensures.said item.1.conditions)) h.0 h.1)
    (err-both (NoneIs Read) IsNoValue c.read_item.result c.read_item.ensures.refused c.read_item.ensures.only)
