use Rattle.std.proofs.Common.{ℕ, Bor, List, codes, map, sym, subst}
use Rattle.toml.specs.Data.{Members}
use Rattle.toml.specs.View.{table_view}
use Rattle.program_file.specs.Faults.{HasTop, IsUnkeyed}
use Rattle.program_file.specs.Keys.{HasOnly, HasTable, HasTables}
use Rattle.program_file.proofs.Wrong.{unkeyed, unkeyed-value, value-no_text}
use Rattle.program_file.proofs.program_file.Top.read.Goals as goal
use Rattle.std.proofs.lemmas.Result.{IfOk-from_err}
use Rattle.model.proofs.lists.Results.{handed_on}

-- another key is there
pub returns-in_err-refuse_unknown : goal.returns-in_err-refuse_unknown
returns-in_err-refuse_unknown c =
    let document = table_view c.args.document.now in
    let fault = c.in_err-refuse_unknown.field-0.0 in
    record {
      keys = IfOk-from_err c.from_residual.result _ c.from_residual.ensures.0;
      resources = IfOk-from_err c.from_residual.result _ c.from_residual.ensures.0;
      entities = IfOk-from_err c.from_residual.result _ c.from_residual.ensures.0;
      sets = IfOk-from_err c.from_residual.result _ c.from_residual.ensures.0;
      systems = IfOk-from_err c.from_residual.result _ c.from_residual.ensures.0;
      chains = IfOk-from_err c.from_residual.result _ c.from_residual.ensures.0;
      unkeyed =
          handed_on (IsUnkeyed (HasTop document)) c.from_residual.result fault c.from_residual.ensures.1
          (unkeyed-value (HasTop document) fault c.in_err-refuse_unknown.ensures.refused.0
          (λ top. c.in_err-refuse_unknown.ensures.refused.1 (subst (λ (names : List (Bor (List ℕ))). HasOnly (map (λ name. name.now) names) document) (sym c.as_slice.ensures) top.1.only)));
    }

-- or the resources are no table
pub returns-in_err-table_at : goal.returns-in_err-table_at
returns-in_err-table_at c =
    let document = table_view c.args.document.now in
    let fault = c.in_err-table_at.field-0.0 in
    record {
      keys = IfOk-from_err c.from_residual-in_err-table_at.result _ c.from_residual-in_err-table_at.ensures.0;
      resources = IfOk-from_err c.from_residual-in_err-table_at.result _ c.from_residual-in_err-table_at.ensures.0;
      entities = IfOk-from_err c.from_residual-in_err-table_at.result _ c.from_residual-in_err-table_at.ensures.0;
      sets = IfOk-from_err c.from_residual-in_err-table_at.result _ c.from_residual-in_err-table_at.ensures.0;
      systems = IfOk-from_err c.from_residual-in_err-table_at.result _ c.from_residual-in_err-table_at.ensures.0;
      chains = IfOk-from_err c.from_residual-in_err-table_at.result _ c.from_residual-in_err-table_at.ensures.0;
      unkeyed =
          handed_on (IsUnkeyed (HasTop document)) c.from_residual-in_err-table_at.result fault c.from_residual-in_err-table_at.ensures.1
          (unkeyed (λ (members : Members). HasTable (codes "resources") members document) (HasTop document) fault (λ top. (top.0.resources, top.1.resources)) c.in_err-table_at.ensures.refused (value-no_text fault c.in_err-table_at.ensures.err));
    }

-- or the others no lists of tables
pub returns-in_err-tables_at : goal.returns-in_err-tables_at
returns-in_err-tables_at c =
    let document = table_view c.args.document.now in
    let fault = c.in_err-tables_at.field-0.0 in
    record {
      keys = IfOk-from_err c.from_residual-in_err-tables_at.result _ c.from_residual-in_err-tables_at.ensures.0;
      resources = IfOk-from_err c.from_residual-in_err-tables_at.result _ c.from_residual-in_err-tables_at.ensures.0;
      entities = IfOk-from_err c.from_residual-in_err-tables_at.result _ c.from_residual-in_err-tables_at.ensures.0;
      sets = IfOk-from_err c.from_residual-in_err-tables_at.result _ c.from_residual-in_err-tables_at.ensures.0;
      systems = IfOk-from_err c.from_residual-in_err-tables_at.result _ c.from_residual-in_err-tables_at.ensures.0;
      chains = IfOk-from_err c.from_residual-in_err-tables_at.result _ c.from_residual-in_err-tables_at.ensures.0;
      unkeyed =
          handed_on (IsUnkeyed (HasTop document)) c.from_residual-in_err-tables_at.result fault c.from_residual-in_err-tables_at.ensures.1
          (unkeyed (λ (tables : List Members). HasTables (codes "entity") tables document) (HasTop document) fault (λ top. (top.0.entities, top.1.entities)) c.in_err-tables_at.ensures.refused c.in_err-tables_at.ensures.err);
    }

pub returns-in_err-tables_at-2 : goal.returns-in_err-tables_at-2
returns-in_err-tables_at-2 c =
    let document = table_view c.args.document.now in
    let fault = c.in_err-tables_at-2.field-0.0 in
    record {
      keys = IfOk-from_err c.from_residual-in_err-tables_at-2.result _ c.from_residual-in_err-tables_at-2.ensures.0;
      resources = IfOk-from_err c.from_residual-in_err-tables_at-2.result _ c.from_residual-in_err-tables_at-2.ensures.0;
      entities = IfOk-from_err c.from_residual-in_err-tables_at-2.result _ c.from_residual-in_err-tables_at-2.ensures.0;
      sets = IfOk-from_err c.from_residual-in_err-tables_at-2.result _ c.from_residual-in_err-tables_at-2.ensures.0;
      systems = IfOk-from_err c.from_residual-in_err-tables_at-2.result _ c.from_residual-in_err-tables_at-2.ensures.0;
      chains = IfOk-from_err c.from_residual-in_err-tables_at-2.result _ c.from_residual-in_err-tables_at-2.ensures.0;
      unkeyed =
          handed_on (IsUnkeyed (HasTop document)) c.from_residual-in_err-tables_at-2.result fault c.from_residual-in_err-tables_at-2.ensures.1
          (unkeyed (λ (tables : List Members). HasTables (codes "set") tables document) (HasTop document) fault (λ top. (top.0.sets, top.1.sets)) c.in_err-tables_at-2.ensures.refused c.in_err-tables_at-2.ensures.err);
    }

pub returns-in_err-tables_at-3 : goal.returns-in_err-tables_at-3
returns-in_err-tables_at-3 c =
    let document = table_view c.args.document.now in
    let fault = c.in_err-tables_at-3.field-0.0 in
    record {
      keys = IfOk-from_err c.from_residual-in_err-tables_at-3.result _ c.from_residual-in_err-tables_at-3.ensures.0;
      resources = IfOk-from_err c.from_residual-in_err-tables_at-3.result _ c.from_residual-in_err-tables_at-3.ensures.0;
      entities = IfOk-from_err c.from_residual-in_err-tables_at-3.result _ c.from_residual-in_err-tables_at-3.ensures.0;
      sets = IfOk-from_err c.from_residual-in_err-tables_at-3.result _ c.from_residual-in_err-tables_at-3.ensures.0;
      systems = IfOk-from_err c.from_residual-in_err-tables_at-3.result _ c.from_residual-in_err-tables_at-3.ensures.0;
      chains = IfOk-from_err c.from_residual-in_err-tables_at-3.result _ c.from_residual-in_err-tables_at-3.ensures.0;
      unkeyed =
          handed_on (IsUnkeyed (HasTop document)) c.from_residual-in_err-tables_at-3.result fault c.from_residual-in_err-tables_at-3.ensures.1
          (unkeyed (λ (tables : List Members). HasTables (codes "system") tables document) (HasTop document) fault (λ top. (top.0.systems, top.1.systems)) c.in_err-tables_at-3.ensures.refused c.in_err-tables_at-3.ensures.err);
    }

pub returns-in_err-tables_at-4 : goal.returns-in_err-tables_at-4
returns-in_err-tables_at-4 c =
    let document = table_view c.args.document.now in
    let fault = c.in_err-tables_at-4.field-0.0 in
    record {
      keys = IfOk-from_err c.from_residual-in_err-tables_at-4.result _ c.from_residual-in_err-tables_at-4.ensures.0;
      resources = IfOk-from_err c.from_residual-in_err-tables_at-4.result _ c.from_residual-in_err-tables_at-4.ensures.0;
      entities = IfOk-from_err c.from_residual-in_err-tables_at-4.result _ c.from_residual-in_err-tables_at-4.ensures.0;
      sets = IfOk-from_err c.from_residual-in_err-tables_at-4.result _ c.from_residual-in_err-tables_at-4.ensures.0;
      systems = IfOk-from_err c.from_residual-in_err-tables_at-4.result _ c.from_residual-in_err-tables_at-4.ensures.0;
      chains = IfOk-from_err c.from_residual-in_err-tables_at-4.result _ c.from_residual-in_err-tables_at-4.ensures.0;
      unkeyed =
          handed_on (IsUnkeyed (HasTop document)) c.from_residual-in_err-tables_at-4.result fault c.from_residual-in_err-tables_at-4.ensures.1
          (unkeyed (λ (tables : List Members). HasTables (codes "chain") tables document) (HasTop document) fault (λ top. (top.0.chains, top.1.chains)) c.in_err-tables_at-4.ensures.refused c.in_err-tables_at-4.ensures.err);
    }
