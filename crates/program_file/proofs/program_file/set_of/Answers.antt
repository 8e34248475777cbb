use Rattle.std.proofs.Common.{ℕ, Bor, List, map, sym, subst}
use Rattle.toml.specs.View.{table_view}
use Rattle.program_file.specs.Keys.{HasOnly}
use Rattle.program_file.specs.Faults.{HasItem, HasItemKeys, HasSet, HasSetKeys, IsWrong}
use Rattle.program_file.specs.Tables.{IsItemIn, IsSetIn}
use Rattle.program_file.proofs.Mapped.{of-ok}
use Rattle.program_file.proofs.Wrong.{unkeyed-value, wrong-keys, wrong-part}
use Rattle.program_file.proofs.program_file.set_of.Goals as goal
use Rattle.model.proofs.lists.Results.{handed_on, err_as}

-- no other key is there, and the item is read
pub returns-clause-ok : goal.returns-clause-ok
returns-clause-ok c =
    let table = table_view c.args.table.now in
    of-ok (IsItemIn table) (IsSetIn table) c.read.result
    (λ set item. record {
      only = subst (λ (names : List (Bor (List ℕ))). HasOnly (map (λ name. name.now) names) table) c.as_slice.ensures c.in_ok-refuse_unknown.ensures.ok;
      item = item;
    }) c.read.ensures.said

-- another key is there
pub returns-in_err-refuse_unknown-clause-wrong : goal.returns-in_err-refuse_unknown-clause-wrong
returns-in_err-refuse_unknown-clause-wrong c =
    let table = table_view c.args.table.now in
    let fault = c.in_err-refuse_unknown.field-0.0 in
    handed_on (IsWrong (HasSetKeys table) (HasSet table)) c.from_residual.result fault c.from_residual.ensures.1
    (wrong-keys (HasSetKeys table) (HasSet table) fault (unkeyed-value (HasSetKeys table) fault c.in_err-refuse_unknown.ensures.refused.0
    (λ keys. c.in_err-refuse_unknown.ensures.refused.1 (subst (λ (names : List (Bor (List ℕ))). HasOnly (map (λ name. name.now) names) table) (sym c.as_slice.ensures) keys.only))))

-- or the item is wrong
pub returns-clause-wrong : goal.returns-clause-wrong
returns-clause-wrong c =
    let table = table_view c.args.table.now in
    let only = subst (λ (names : List (Bor (List ℕ))). HasOnly (map (λ name. name.now) names) table) c.as_slice.ensures c.in_ok-refuse_unknown.ensures.ok in
    err_as (IsWrong (HasItemKeys table) (HasItem table)) (IsWrong (HasSetKeys table) (HasSet table)) c.read.result
    (λ e. wrong-part (HasItemKeys table) (HasItem table) (HasSetKeys table) (HasSet table) e (λ keys. keys.item) (λ item. record { only = only; item = item }) (λ set. (set.0, set.1.item))) c.read.ensures.wrong
