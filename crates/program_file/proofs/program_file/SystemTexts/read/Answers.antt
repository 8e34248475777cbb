use Rattle.std.proofs.Common.{ℕ, Bor, List, codes, map, sym, subst}
use Rattle.toml.specs.View.{table_view}
use Rattle.program_file.specs.Faults.{HasBlocks, HasItemKeys, HasSystemKeys, HasTouchedKeys, IsUnkeyed}
use Rattle.program_file.specs.Keys.{HasOnly, HasTexts}
use Rattle.program_file.proofs.Systems.{touched-keys}
use Rattle.program_file.proofs.Wrong.{unkeyed, unkeyed-part, unkeyed-value}
use Rattle.program_file.proofs.program_file.SystemTexts.read.Goals as goal
use Rattle.model.proofs.lists.Results.{handed_on}

-- each part is what its keys say
pub returns-clause-ok : goal.returns-clause-ok
returns-clause-ok c = record {
  only = subst (λ (names : List (Bor (List ℕ))). HasOnly (map (λ name. name.now) names) (table_view c.args.table.now)) c.as_slice.ensures c.in_ok-refuse_unknown.ensures.ok;
  item = c.in_ok-read.ensures.said;
  queries = c.in_ok-texts_at.ensures.ok;
  touched = c.in_ok-read-2.ensures.ok;
  blocks = c.in_ok-blocks_of.ensures.ok;
}

-- another key is there, or the keys of a part are wrong
pub returns-in_err-refuse_unknown-clause-unkeyed : goal.returns-in_err-refuse_unknown-clause-unkeyed
returns-in_err-refuse_unknown-clause-unkeyed c =
    let table = table_view c.args.table.now in
    let fault = c.in_err-refuse_unknown.field-0.0 in
    handed_on (IsUnkeyed (HasSystemKeys table)) c.from_residual.result fault c.from_residual.ensures.1
    (unkeyed-value (HasSystemKeys table) fault c.in_err-refuse_unknown.ensures.refused.0
    (λ keys. c.in_err-refuse_unknown.ensures.refused.1 (subst (λ (names : List (Bor (List ℕ))). HasOnly (map (λ name. name.now) names) table) (sym c.as_slice.ensures) keys.only)))

pub returns-in_err-read-clause-unkeyed : goal.returns-in_err-read-clause-unkeyed
returns-in_err-read-clause-unkeyed c =
    let table = table_view c.args.table.now in
    let fault = c.in_err-read.field-0.0 in
    handed_on (IsUnkeyed (HasSystemKeys table)) c.from_residual-in_err-read.result fault c.from_residual-in_err-read.ensures.1
    (unkeyed-part (HasItemKeys table) (HasSystemKeys table) fault (λ keys. keys.item) c.in_err-read.ensures.unkeyed)

pub returns-in_err-texts_at-clause-unkeyed : goal.returns-in_err-texts_at-clause-unkeyed
returns-in_err-texts_at-clause-unkeyed c =
    let table = table_view c.args.table.now in
    let fault = c.in_err-texts_at.field-0.0 in
    handed_on (IsUnkeyed (HasSystemKeys table)) c.from_residual-in_err-texts_at.result fault c.from_residual-in_err-texts_at.ensures.1
    (unkeyed (λ (texts : List (List ℕ)). HasTexts (codes "query") texts table) (HasSystemKeys table) fault (λ keys. keys.queries) c.in_err-texts_at.ensures.refused c.in_err-texts_at.ensures.err)

pub returns-in_err-read-2-clause-unkeyed : goal.returns-in_err-read-2-clause-unkeyed
returns-in_err-read-2-clause-unkeyed c =
    let table = table_view c.args.table.now in
    let fault = c.in_err-read-2.field-0.0 in
    handed_on (IsUnkeyed (HasSystemKeys table)) c.from_residual-in_err-read-2.result fault c.from_residual-in_err-read-2.ensures.1
    (unkeyed-part (HasTouchedKeys table) (HasSystemKeys table) fault (λ keys. touched-keys table keys) c.in_err-read-2.ensures.unkeyed)

pub returns-in_err-blocks_of-clause-unkeyed : goal.returns-in_err-blocks_of-clause-unkeyed
returns-in_err-blocks_of-clause-unkeyed c =
    let table = table_view c.args.table.now in
    let fault = c.in_err-blocks_of.field-0.0 in
    handed_on (IsUnkeyed (HasSystemKeys table)) c.from_residual-in_err-blocks_of.result fault c.from_residual-in_err-blocks_of.ensures.1
    (unkeyed-part (HasBlocks table) (HasSystemKeys table) fault (λ keys. keys.blocks) c.in_err-blocks_of.ensures.unkeyed)
