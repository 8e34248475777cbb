use Rattle.std.proofs.Common.{List, codes}
use Rattle.toml.specs.View.{table_view}
use Rattle.kinds.specs.declared.res.Res.{Res}
use Rattle.kinds.specs.declared.res.Event.{Event}
use Rattle.program_file.specs.Faults.{HasTouchedKeys, IsUnkeyed}
use Rattle.program_file.specs.Keys.{HasEvents, HasResources}
use Rattle.program_file.proofs.Wrong.{unkeyed, unkeyed-value}
use Rattle.program_file.proofs.program_file.Touched.read.Goals as goal
use Rattle.model.proofs.lists.Results.{handed_on}

-- they are what their keys say
pub returns-clause-ok : goal.returns-clause-ok
returns-clause-ok c = record {
  res = c.in_ok-resources_at.ensures.ok;
  res_mut = c.in_ok-resources_at-2.ensures.ok;
  reads = c.in_ok-events_at.ensures.ok;
  writes = c.in_ok-events_at-2.ensures.ok;
  spawns = c.in_ok-number_at.ensures.ok;
}

-- or one of them is nothing that its key may have
pub returns-in_err-resources_at-clause-unkeyed : goal.returns-in_err-resources_at-clause-unkeyed
returns-in_err-resources_at-clause-unkeyed c =
    let table = table_view c.args.table.now in
    let fault = c.in_err-resources_at.field-0.0 in
    handed_on (IsUnkeyed (HasTouchedKeys table)) c.from_residual.result fault c.from_residual.ensures.1
    (unkeyed (λ (resources : List Res). HasResources (codes "res") resources table) (HasTouchedKeys table) fault (λ keys. keys.res) c.in_err-resources_at.ensures.refused c.in_err-resources_at.ensures.err)

pub returns-in_err-resources_at-2-clause-unkeyed : goal.returns-in_err-resources_at-2-clause-unkeyed
returns-in_err-resources_at-2-clause-unkeyed c =
    let table = table_view c.args.table.now in
    let fault = c.in_err-resources_at-2.field-0.0 in
    handed_on (IsUnkeyed (HasTouchedKeys table)) c.from_residual-in_err-resources_at-2.result fault c.from_residual-in_err-resources_at-2.ensures.1
    (unkeyed (λ (resources : List Res). HasResources (codes "res_mut") resources table) (HasTouchedKeys table) fault (λ keys. keys.res_mut) c.in_err-resources_at-2.ensures.refused c.in_err-resources_at-2.ensures.err)

pub returns-in_err-events_at-clause-unkeyed : goal.returns-in_err-events_at-clause-unkeyed
returns-in_err-events_at-clause-unkeyed c =
    let table = table_view c.args.table.now in
    let fault = c.in_err-events_at.field-0.0 in
    handed_on (IsUnkeyed (HasTouchedKeys table)) c.from_residual-in_err-events_at.result fault c.from_residual-in_err-events_at.ensures.1
    (unkeyed (λ (events : List Event). HasEvents (codes "reads") events table) (HasTouchedKeys table) fault (λ keys. keys.reads) c.in_err-events_at.ensures.refused c.in_err-events_at.ensures.err)

pub returns-in_err-events_at-2-clause-unkeyed : goal.returns-in_err-events_at-2-clause-unkeyed
returns-in_err-events_at-2-clause-unkeyed c =
    let table = table_view c.args.table.now in
    let fault = c.in_err-events_at-2.field-0.0 in
    handed_on (IsUnkeyed (HasTouchedKeys table)) c.from_residual-in_err-events_at-2.result fault c.from_residual-in_err-events_at-2.ensures.1
    (unkeyed (λ (events : List Event). HasEvents (codes "writes") events table) (HasTouchedKeys table) fault (λ keys. keys.writes) c.in_err-events_at-2.ensures.refused c.in_err-events_at-2.ensures.err)

pub returns-in_err-number_at-clause-unkeyed : goal.returns-in_err-number_at-clause-unkeyed
returns-in_err-number_at-clause-unkeyed c =
    let table = table_view c.args.table.now in
    let fault = c.in_err-number_at.field-0.0 in
    handed_on (IsUnkeyed (HasTouchedKeys table)) c.from_residual-in_err-number_at.result fault c.from_residual-in_err-number_at.ensures.1
    (unkeyed-value (HasTouchedKeys table) fault c.in_err-number_at.ensures.refused.0 (λ keys. c.in_err-number_at.ensures.refused.1 keys.spawns.0 keys.spawns.1))
