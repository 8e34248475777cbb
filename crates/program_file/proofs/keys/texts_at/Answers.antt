use Rattle.std.proofs.Common.{ℕ, List}
use Rattle.toml.specs.Data.{string}
use Rattle.toml.specs.View.{table_view}
use Rattle.program_file.specs.Keys.{HasTexts}
use Rattle.program_file.proofs.Refusals.{NoneIs-exit, list-refused}
use Rattle.program_file.proofs.keys.texts_at.Goals as goal

-- an item is no text
pub returns-in_err-text_of-clause-refused : goal.returns-in_err-text_of-clause-refused
returns-in_err-text_of-clause-refused c =
    let key = c.args.key.now in
    let owner = table_view c.args.table.now in
    NoneIs-exit (λ (all : List (List ℕ)). HasTexts key all owner) c.from_residual-in_err-text_of.result c.in_err-text_of.field-0.0 c.from_residual-in_err-text_of.ensures.1
    (list-refused string key owner c.in_ok-item-items.item-items.now c.loop-item.item-index c.item-item.result c.item-item.result c.in_err-text_of.field-0.0
    c.in_ok-item-items.ensures.ok c.loop-item-test.true c.item-item.is c.in_err-text_of.ensures.refused)
