use Rattle.std.proofs.Common.{◌≡◌, ℕ, suc, List, [], ◌∷◌, length, refl, sym, ap, ◌∙◌, subst}
use Rattle.archetype_store.specs.Layout.{archetype_at}
use Rattle.model.specs.declared.entities.Entity.{Entity}
use Rattle.query_plan.specs.Places.{IsCounted, every_row, rows_of_places}
use Rattle.series.proofs.series.count_at.Goals as goal

-- a row for each entity
as_many : (n place : ℕ) (es : List Entity) → length (every_row n place es) ≡ length es
as_many n place [] = refl
as_many n place (e ∷ es) = ap suc (as_many n (suc place) es)

pub returns-in-All-clause-count : goal.returns-in-All-clause-count
returns-in-All-clause-count c =
    let layout = c.args._world.now.layout in
    let es = (archetype_at layout c.in-All._archetype).entities in
    let counted : length es ≡ c.in-All.count = subst (IsCounted layout) c.in-All.is c.requires in
    sym counted ∙ sym (as_many c.in-All._archetype 0 es) ∙ ap (λ places. length (rows_of_places layout places)) (sym c.in-All.is)
