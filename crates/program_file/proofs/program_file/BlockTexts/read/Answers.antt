use Rattle.std.proofs.Common.{ℕ, Bor, List, codes, map, sym, subst}
use Rattle.toml.specs.View.{table_view}
use Rattle.program_file.specs.Faults.{HasBlockKeys, IsUnkeyed}
use Rattle.program_file.specs.Keys.{HasOnly, HasTexts}
use Rattle.program_file.proofs.Wrong.{unkeyed, unkeyed-value}
use Rattle.program_file.proofs.program_file.BlockTexts.read.Goals as goal
use Rattle.model.proofs.lists.Results.{handed_on}

-- another key is there
pub returns-in_err-refuse_unknown-clause-unkeyed : goal.returns-in_err-refuse_unknown-clause-unkeyed
returns-in_err-refuse_unknown-clause-unkeyed c =
    let table = table_view c.args.table.now in
    let fault = c.in_err-refuse_unknown.field-0.0 in
    handed_on (IsUnkeyed (HasBlockKeys table)) c.from_residual.result fault c.from_residual.ensures.1
    (unkeyed-value (HasBlockKeys table) fault c.in_err-refuse_unknown.ensures.refused.0
    (λ keys. c.in_err-refuse_unknown.ensures.refused.1 (subst (λ (names : List (Bor (List ℕ))). HasOnly (map (λ name. name.now) names) table) (sym c.as_slice.ensures) keys.only)))

-- or no code
pub returns-in_err-refuse_missing-clause-unkeyed : goal.returns-in_err-refuse_missing-clause-unkeyed
returns-in_err-refuse_missing-clause-unkeyed c =
    let table = table_view c.args.table.now in
    let fault = c.in_err-refuse_missing.field-0.0 in
    handed_on (IsUnkeyed (HasBlockKeys table)) c.from_residual-in_err-refuse_missing.result fault c.from_residual-in_err-refuse_missing.ensures.1
    (unkeyed-value (HasBlockKeys table) fault c.in_err-refuse_missing.ensures.refused.0 (λ keys. c.in_err-refuse_missing.ensures.refused.1 keys.given))

-- or it does not say how often
pub returns-in_err-rounds_of-clause-unkeyed : goal.returns-in_err-rounds_of-clause-unkeyed
returns-in_err-rounds_of-clause-unkeyed c =
    let table = table_view c.args.table.now in
    let fault = c.in_err-rounds_of.field-0.0 in
    handed_on (IsUnkeyed (HasBlockKeys table)) c.from_residual-in_err-rounds_of.result fault c.from_residual-in_err-rounds_of.ensures.1
    (unkeyed-value (HasBlockKeys table) fault c.in_err-rounds_of.ensures.refused.0 (λ keys. c.in_err-rounds_of.ensures.refused.1 keys.rounds.0 keys.rounds.1))

-- or the code is no list of texts
pub returns-in_err-texts_at-clause-unkeyed : goal.returns-in_err-texts_at-clause-unkeyed
returns-in_err-texts_at-clause-unkeyed c =
    let table = table_view c.args.table.now in
    let fault = c.in_err-texts_at.field-0.0 in
    handed_on (IsUnkeyed (HasBlockKeys table)) c.from_residual-in_err-texts_at.result fault c.from_residual-in_err-texts_at.ensures.1
    (unkeyed (λ (texts : List (List ℕ)). HasTexts (codes "code") texts table) (HasBlockKeys table) fault (λ keys. keys.code) c.in_err-texts_at.ensures.refused c.in_err-texts_at.ensures.err)
