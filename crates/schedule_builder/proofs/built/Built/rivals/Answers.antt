use Rattle.std.proofs.Common.{ℕ, ◌<◌, ◌≡◌, List, [], length, get_or, sym, ap, ◌∙◌, subst, arith}
use Rattle.std.proofs.lemmas.List.{get_or_default}
use Rattle.model.specs.steps.Schedule.{Schedule}
use Rattle.schedule_builder.specs.Rows.{IsRow, IsRival}
use Rattle.schedule_builder.proofs.built.Built.rivals.Goals as goal

pub returns : goal.returns
returns c =
    let rows : List (List ℕ) = c.self.inside.rivals.items in
    let number : ℕ = c.args.number in
    let are = c.self.invariant.2.rivals in
    let same : length c.self.inside.systems.items ≡ length c.args.self.now.systems = ap (λ (s : Schedule). length s.systems) c.self.view_is in
    let low : number < length c.self.inside.systems.items = omega arith in
    let read : get_or rows number [] ≡ c.index.result.now = get_or_default rows number [] c.index.result.now (omega (arith, are.long)) ∙ sym c.index.ensures in
    subst (λ (s : Schedule). IsRow (length s.systems) (IsRival s.systems number) c.index.result.now) c.self.view_is
    (subst (λ (r : List ℕ). IsRow (length c.self.inside.systems.items) (IsRival c.self.inside.systems.items number) r) read (are.each number low))
