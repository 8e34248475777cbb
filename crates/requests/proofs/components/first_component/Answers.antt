-- The fields are the words behind the name, as many as the kind has.
use Rattle.std.proofs.Common.{ℕ, map, take, sym, ap, ◌∙◌, arith}
use Rattle.std.proofs.lemmas.List.{length-map}
use Rattle.std.specs.List.{take-map}
use Rattle.kinds.specs.Kind.{kind_number}
use Rattle.kinds.specs.Components.{widths}
use Rattle.body.specs.Inputs.{given_by}
use Rattle.requests.proofs.ComponentTexts.{no_kind, no_room, no_fields, only_component}
use Rattle.requests.proofs.components.first_component.Goals as goal

pub returns-in_err-kind : goal.returns-in_err-kind
returns-in_err-kind c = rw (c.from_residual-in_err-kind.ensures, c.in_ok-name.ensures.cases.0) (no_kind c.in_ok-name.name.now.now (map (λ word. word.now) c.in_ok-name.behind.now) c.in_err-kind.ensures)

pub returns-in_err-fields : goal.returns-in_err-fields
returns-in_err-fields c =
    let long = length-map c.in_ok-name.behind.now (λ word. word.now) in
    rw (c.from_residual-in_err-fields.ensures, c.in_ok-name.ensures.cases.0) (no_room c.in_ok-name.name.now.now (map (λ word. word.now) c.in_ok-name.behind.now) c.in_ok-kind.kind c.in_ok-kind.ensures
    (omega (arith, long, c.in_err-fields.ensures.cases, c.width-width.ensures)))

pub returns-in_err-component_of : goal.returns-in_err-component_of
returns-in_err-component_of c =
    let cut = c.in_ok-fields.ensures.cases in
    rw (c.from_residual-in_err-component_of.ensures, c.in_ok-name.ensures.cases.0) (no_fields c.in_ok-name.name.now.now (map (λ word. word.now) c.in_ok-name.behind.now) c.in_ok-kind.kind c.in_ok-kind.ensures
    (map (λ word. word.now) c.in_ok-fields.fields.now)
    (ap (map (λ word. word.now)) (cut.1 ∙ ap (λ (n : ℕ). take n c.in_ok-name.behind.now) c.width-width.ensures) ∙ sym (take-map (λ word. word.now) (widths (kind_number c.in_ok-kind.kind)) c.in_ok-name.behind.now))
    c.in_err-component_of.ensures.fields)

pub returns : goal.returns
returns c =
    let cut = c.in_ok-fields.ensures.cases in
    let long = length-map c.in_ok-name.behind.now (λ word. word.now) in
    rw (c.in_ok-name.ensures.cases.0, c.width-width.ensures) (only_component c.in_ok-name.name.now.now (map (λ word. word.now) c.in_ok-name.behind.now) c.in_ok-kind.kind c.in_ok-kind.ensures
    (map (λ word. word.now) c.in_ok-fields.fields.now) (given_by c.in_ok-component_of.field-0)
    (ap (map (λ word. word.now)) (cut.1 ∙ ap (λ (n : ℕ). take n c.in_ok-name.behind.now) c.width-width.ensures) ∙ sym (take-map (λ word. word.now) (widths (kind_number c.in_ok-kind.kind)) c.in_ok-name.behind.now))
    (omega (arith, long, cut.0, c.width-width.ensures)) c.in_ok-component_of.ensures.kind c.in_ok-component_of.ensures.fields)
