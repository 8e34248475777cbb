use Rattle.std.proofs.Common.{ℕ, List, codes}
use Rattle.std.specs.List.{AllByRecursion}
use Rattle.toml.specs.View.{table_view}
use Rattle.program_file.specs.Keys.{HasTexts, HasText}
use Rattle.tokens.specs.Name.{IsName}
use Rattle.program_file.specs.Faults.{HasItemKeys, IsUnkeyed}
use Rattle.program_file.proofs.Wrong.{unkeyed, value-no_text}
use Rattle.program_file.proofs.program_file.ItemTexts.read.Goals as goal
use Rattle.model.proofs.lists.Results.{handed_on}
use Rattle.std.proofs.lemmas.Result.{IfOk-from_err}

-- each list is that of its key
pub returns-clause-said : goal.returns-clause-said
returns-clause-said c = record {
  name = c.in_ok-name_at.ensures.said;
  named = c.in_ok-name_at.ensures.name;
  inside = (c.in_ok-names_at.ensures.said, c.in_ok-names_at.ensures.names);
  before = (c.in_ok-names_at-2.ensures.said, c.in_ok-names_at-2.ensures.names);
  after = (c.in_ok-names_at-3.ensures.said, c.in_ok-names_at-3.ensures.names);
  before_ignore_deferred = (c.in_ok-names_at-4.ensures.said, c.in_ok-names_at-4.ensures.names);
  after_ignore_deferred = (c.in_ok-names_at-5.ensures.said, c.in_ok-names_at-5.ensures.names);
  ambiguous_with = (c.in_ok-names_at-6.ensures.said, c.in_ok-names_at-6.ensures.names);
  conditions = c.in_ok-texts_at.ensures.ok;
}

-- there is no such name
pub returns-in_err-name_at-clause-unkeyed : goal.returns-in_err-name_at-clause-unkeyed
returns-in_err-name_at-clause-unkeyed c =
    let table = table_view c.args.table.now in
    let fault = c.in_err-name_at.field-0.0 in
    handed_on (IsUnkeyed (HasItemKeys table)) c.from_residual.result fault c.from_residual.ensures.1
    (unkeyed (λ (text : List ℕ). HasText (codes "name") text table × IsName text) (HasItemKeys table) fault (λ keys. (keys.name.0, (keys.name.1, keys.name.2))) c.in_err-name_at.ensures.refused (value-no_text fault c.in_err-name_at.ensures.err))

-- nor such names
pub returns-in_err-names_at-clause-unkeyed : goal.returns-in_err-names_at-clause-unkeyed
returns-in_err-names_at-clause-unkeyed c =
    let table = table_view c.args.table.now in
    let fault = c.in_err-names_at.field-0.0 in
    handed_on (IsUnkeyed (HasItemKeys table)) c.from_residual-in_err-names_at.result fault c.from_residual-in_err-names_at.ensures.1
    (unkeyed (λ (texts : List (List ℕ)). HasTexts (codes "in") texts table × AllByRecursion IsName texts) (HasItemKeys table) fault (λ keys. (keys.inside.0, (keys.inside.1, keys.inside.2))) c.in_err-names_at.ensures.refused c.in_err-names_at.ensures.err)

pub returns-in_err-names_at-2-clause-unkeyed : goal.returns-in_err-names_at-2-clause-unkeyed
returns-in_err-names_at-2-clause-unkeyed c =
    let table = table_view c.args.table.now in
    let fault = c.in_err-names_at-2.field-0.0 in
    handed_on (IsUnkeyed (HasItemKeys table)) c.from_residual-in_err-names_at-2.result fault c.from_residual-in_err-names_at-2.ensures.1
    (unkeyed (λ (texts : List (List ℕ)). HasTexts (codes "before") texts table × AllByRecursion IsName texts) (HasItemKeys table) fault (λ keys. (keys.before.0, (keys.before.1, keys.before.2))) c.in_err-names_at-2.ensures.refused c.in_err-names_at-2.ensures.err)

pub returns-in_err-names_at-3-clause-unkeyed : goal.returns-in_err-names_at-3-clause-unkeyed
returns-in_err-names_at-3-clause-unkeyed c =
    let table = table_view c.args.table.now in
    let fault = c.in_err-names_at-3.field-0.0 in
    handed_on (IsUnkeyed (HasItemKeys table)) c.from_residual-in_err-names_at-3.result fault c.from_residual-in_err-names_at-3.ensures.1
    (unkeyed (λ (texts : List (List ℕ)). HasTexts (codes "after") texts table × AllByRecursion IsName texts) (HasItemKeys table) fault (λ keys. (keys.after.0, (keys.after.1, keys.after.2))) c.in_err-names_at-3.ensures.refused c.in_err-names_at-3.ensures.err)

pub returns-in_err-names_at-4-clause-unkeyed : goal.returns-in_err-names_at-4-clause-unkeyed
returns-in_err-names_at-4-clause-unkeyed c =
    let table = table_view c.args.table.now in
    let fault = c.in_err-names_at-4.field-0.0 in
    handed_on (IsUnkeyed (HasItemKeys table)) c.from_residual-in_err-names_at-4.result fault c.from_residual-in_err-names_at-4.ensures.1
    (unkeyed (λ (texts : List (List ℕ)). HasTexts (codes "before_ignore_deferred") texts table × AllByRecursion IsName texts) (HasItemKeys table) fault (λ keys. (keys.before_ignore_deferred.0, (keys.before_ignore_deferred.1, keys.before_ignore_deferred.2))) c.in_err-names_at-4.ensures.refused c.in_err-names_at-4.ensures.err)

pub returns-in_err-names_at-5-clause-unkeyed : goal.returns-in_err-names_at-5-clause-unkeyed
returns-in_err-names_at-5-clause-unkeyed c =
    let table = table_view c.args.table.now in
    let fault = c.in_err-names_at-5.field-0.0 in
    handed_on (IsUnkeyed (HasItemKeys table)) c.from_residual-in_err-names_at-5.result fault c.from_residual-in_err-names_at-5.ensures.1
    (unkeyed (λ (texts : List (List ℕ)). HasTexts (codes "after_ignore_deferred") texts table × AllByRecursion IsName texts) (HasItemKeys table) fault (λ keys. (keys.after_ignore_deferred.0, (keys.after_ignore_deferred.1, keys.after_ignore_deferred.2))) c.in_err-names_at-5.ensures.refused c.in_err-names_at-5.ensures.err)

pub returns-in_err-names_at-6-clause-unkeyed : goal.returns-in_err-names_at-6-clause-unkeyed
returns-in_err-names_at-6-clause-unkeyed c =
    let table = table_view c.args.table.now in
    let fault = c.in_err-names_at-6.field-0.0 in
    handed_on (IsUnkeyed (HasItemKeys table)) c.from_residual-in_err-names_at-6.result fault c.from_residual-in_err-names_at-6.ensures.1
    (unkeyed (λ (texts : List (List ℕ)). HasTexts (codes "ambiguous_with") texts table × AllByRecursion IsName texts) (HasItemKeys table) fault (λ keys. (keys.ambiguous_with.0, (keys.ambiguous_with.1, keys.ambiguous_with.2))) c.in_err-names_at-6.ensures.refused c.in_err-names_at-6.ensures.err)

-- nor such conditions
pub returns-in_err-texts_at-clause-unkeyed : goal.returns-in_err-texts_at-clause-unkeyed
returns-in_err-texts_at-clause-unkeyed c =
    let table = table_view c.args.table.now in
    let fault = c.in_err-texts_at.field-0.0 in
    handed_on (IsUnkeyed (HasItemKeys table)) c.from_residual-in_err-texts_at.result fault c.from_residual-in_err-texts_at.ensures.1
    (unkeyed (λ (texts : List (List ℕ)). HasTexts (codes "if") texts table) (HasItemKeys table) fault (λ keys. keys.conditions) c.in_err-texts_at.ensures.refused c.in_err-texts_at.ensures.err)

-- at an error there is no item
pub returns-in_err-name_at-clause-said : goal.returns-in_err-name_at-clause-said
returns-in_err-name_at-clause-said c = IfOk-from_err c.from_residual.result _ c.from_residual.ensures.0

pub returns-in_err-names_at-clause-said : goal.returns-in_err-names_at-clause-said
returns-in_err-names_at-clause-said c = IfOk-from_err c.from_residual-in_err-names_at.result _ c.from_residual-in_err-names_at.ensures.0

pub returns-in_err-names_at-2-clause-said : goal.returns-in_err-names_at-2-clause-said
returns-in_err-names_at-2-clause-said c = IfOk-from_err c.from_residual-in_err-names_at-2.result _ c.from_residual-in_err-names_at-2.ensures.0

pub returns-in_err-names_at-3-clause-said : goal.returns-in_err-names_at-3-clause-said
returns-in_err-names_at-3-clause-said c = IfOk-from_err c.from_residual-in_err-names_at-3.result _ c.from_residual-in_err-names_at-3.ensures.0

pub returns-in_err-names_at-4-clause-said : goal.returns-in_err-names_at-4-clause-said
returns-in_err-names_at-4-clause-said c = IfOk-from_err c.from_residual-in_err-names_at-4.result _ c.from_residual-in_err-names_at-4.ensures.0

pub returns-in_err-names_at-5-clause-said : goal.returns-in_err-names_at-5-clause-said
returns-in_err-names_at-5-clause-said c = IfOk-from_err c.from_residual-in_err-names_at-5.result _ c.from_residual-in_err-names_at-5.ensures.0

pub returns-in_err-names_at-6-clause-said : goal.returns-in_err-names_at-6-clause-said
returns-in_err-names_at-6-clause-said c = IfOk-from_err c.from_residual-in_err-names_at-6.result _ c.from_residual-in_err-names_at-6.ensures.0

pub returns-in_err-texts_at-clause-said : goal.returns-in_err-texts_at-clause-said
returns-in_err-texts_at-clause-said c = IfOk-from_err c.from_residual-in_err-texts_at.result _ c.from_residual-in_err-texts_at.ensures.0
