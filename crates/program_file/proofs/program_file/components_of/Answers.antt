use Rattle.std.proofs.Common.{◌≡◌, ◌∙◌, List, [], ◌∷◌, ◌++◌, append_assoc, ap, sym, subst, string_bytes, rules, arith}
use Rattle.std.proofs.lemmas.Grind.{common_steps}
use Rattle.toml.specs.View.{view, members_view, table_view}
use Rattle.toml.proofs.Views.{Entry}
use Rattle.kinds.specs.declared.value.Value.{Value}
use Rattle.program_file.specs.PlaceFault.{NoneIs}
use Rattle.program_file.specs.Tables.{IsComponentIn, IsEntityIn}
use Rattle.program_file.proofs.Entities.{entity-push}
use Rattle.program_file.proofs.Refusals.{NoneIs-exit}
use Rattle.program_file.proofs.Unread.{entity-refused}
use Rattle.program_file.proofs.program_file.components_of.Goals as goal

-- the next member is read
pub loop-key-preserved : goal.loop-key-preserved
loop-key-preserved c =
    let (done, whole, said) = c.loop-key.invariant in
    let e : Entry = (c.in-Some.key.now, c.in-Some.value.now) in
    let component = c.in_ok-component_of.field-0 in
    let more = c.push.new.self.items in
    let iter : c.loop-key.key-iterator ≡ e ∷ c.next.new.self = grind (arith, common_steps) in
    let pushed : more ≡ c.loop-key.components.items ++ component ∷ [] = search rules in
    let there : IsComponentIn (string_bytes e.0) (view e.1) component = subst (λ name. IsComponentIn name (view e.1) component) c.as_str.ensures.value c.in_ok-component_of.ensures.ok in (
      done ++ e ∷ [],
      whole ∙ ap (λ t. done ++ t) iter ∙ sym (append_assoc done (e ∷ []) c.next.new.self),
      subst (λ (components : List Value). IsEntityIn (members_view (done ++ e ∷ [])) components) (sym pushed) (entity-push done e c.loop-key.components.items component said there),
    )

-- a member is no component
pub returns-in_err-component_of-clause-refused : goal.returns-in_err-component_of-clause-refused
returns-in_err-component_of-clause-refused c =
    let (done, whole, said) = c.loop-key.invariant in
    let e : Entry = (c.in-Some.key.now, c.in-Some.value.now) in
    let iter : c.loop-key.key-iterator ≡ e ∷ c.next.new.self = grind (arith, common_steps) in
    NoneIs-exit (IsEntityIn (table_view c.args.table.now)) c.from_residual.result c.in_err-component_of.field-0.0 c.from_residual.ensures.1
    (entity-refused c.args.table.now.entries done e c.next.new.self c.in_err-component_of.field-0.0 (whole ∙ ap (λ t. done ++ t) iter)
    (subst (λ name. NoneIs (IsComponentIn name (view e.1)) c.in_err-component_of.field-0.0) c.as_str.ensures.value c.in_err-component_of.ensures.refused))
