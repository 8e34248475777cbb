use Rattle.std.proofs.Common.{◌≡◌, ◌++◌, ℕ, List, Some, None, OnOk, sym, ap, ◌∙◌, subst, string_bytes}
use Rattle.std.specs.List.{position}
use Rattle.std.proofs.lemmas.List.{append-nil}
use Rattle.archetype_store.proofs.Rows.{is_of}
use Rattle.kinds.specs.Kind.{kind_number}
use Rattle.state_lines.proofs.Fetched.{kind_at_place, kind_nowhere}
use Rattle.state_lines.proofs.rows.push_kind.Goals as goal

pub returns-in-Some : goal.returns-in-Some
returns-in-Some c =
    let found = subst (λ (k : ℕ). position (is_of k) c.args.components.now ≡ Some c.in-Some.place) c.number.ensures (sym c.place_of.ensures ∙ c.in-Some.is) in
    subst (λ (t : List ℕ). OnOk c.push_component.result (string_bytes c.push_component.new.text ≡ string_bytes c.args.text.now ++ t)) (kind_at_place (kind_number c.args.kind) c.args.components.now c.in-Some.place _ found) c.push_component.ensures

pub returns-in-None : goal.returns-in-None
returns-in-None c =
    let none = subst (λ (k : ℕ). position (is_of k) c.args.components.now ≡ None) c.number.ensures (sym c.place_of.ensures ∙ c.in-None.is) in
    sym (append-nil (string_bytes c.args.text.now)) ∙ ap (λ t. string_bytes c.args.text.now ++ t) (sym (kind_nowhere (kind_number c.args.kind) c.args.components.now none))
