use Rattle.std.proofs.Common.{ℕ, ◌<◌, ◌≡◌, List, [], length, get_or, sym, ap, ◌∙◌, subst, arith}
use Rattle.std.proofs.lemmas.List.{get_or_default}
use Rattle.model.specs.steps.Schedule.{Schedule}
use Rattle.schedule_builder.specs.Rows.{IsRow}
use Rattle.schedule_builder.specs.Conditions.{IsClash, HasConditionRows}
use Rattle.schedule_builder.proofs.built.Built.clashes.Goals as goal

pub returns : goal.returns
unfolding HasConditionRows
returns c =
    let rows : List (List ℕ) = c.self.inside.clashes.items in
    let condition : ℕ = c.args.condition in
    let are = c.self.invariant.1.clashes in
    let same : length c.self.inside.conditions.items ≡ length c.args.self.now.conditions = ap (λ (s : Schedule). length s.conditions) c.self.view_is in
    let low : condition < length c.self.inside.conditions.items = omega arith in
    let read : get_or rows condition [] ≡ c.index.result.now = get_or_default rows condition [] c.index.result.now (omega (arith, are.long)) ∙ sym c.index.ensures in
    subst (λ (s : Schedule). IsRow (length s.systems) (IsClash s.systems s.conditions condition) c.index.result.now) c.self.view_is
    (subst (λ (r : List ℕ). IsRow (length c.self.inside.systems.items) (IsClash c.self.inside.systems.items c.self.inside.conditions.items condition) r) read (are.each condition low))
