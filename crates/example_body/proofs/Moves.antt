-- The place and the step of a row, as components and as what is shown.
use Rattle.std.proofs.Common.{◌≡◌, ℤ, pos, ◌+ℤ◌, List, [], ◌∷◌, Option, Some, None, option_map, unwrap_or, refl, ap₂, ◌∙◌}
use Rattle.std.specs.Int.{saturate_signed}
use mir.Syntax.{w64}
use Rattle.kinds.specs.declared.types.Position.{Position}
use Rattle.kinds.specs.declared.types.Velocity.{Velocity}
use Rattle.kinds.specs.Components.{position_words, velocity_words}
use Rattle.example_body.specs.Drift.{moved}

-- what stands for a component that there is none of
abbrev no_place : Position
no_place = record { x = pos 0; y = pos 0 }

abbrev no_step : Velocity
no_step = record { x = pos 0; y = pos 0 }

by_axis : (place : Option Position) (step : Option Velocity) →
    saturate_signed w64 ((unwrap_or place no_place).x +ℤ (unwrap_or step no_step).x) ∷ saturate_signed w64 ((unwrap_or place no_place).y +ℤ (unwrap_or step no_step).y) ∷ []
    ≡ moved (option_map position_words place) (option_map velocity_words step)
by_axis None None = refl
by_axis None (Some v) = refl
by_axis (Some p) None = refl
by_axis (Some p) (Some v) = refl

-- the sums are those of the definition
pub sums : (place : Option Position) (step : Option Velocity) (from by : Option (List ℤ)) (p : Position) (v : Velocity) (x y : ℤ) →
    option_map position_words place ≡ from → option_map velocity_words step ≡ by → p ≡ unwrap_or place no_place → v ≡ unwrap_or step no_step →
    x ≡ saturate_signed w64 (p.x +ℤ v.x) → y ≡ saturate_signed w64 (p.y +ℤ v.y) → x ∷ y ∷ [] ≡ moved from by
sums place step from by p v x y f b e g h k =
    ap₂ (λ a c. a ∷ c ∷ [])
    (h ∙ ap₂ (λ (q : Position) (w : Velocity). saturate_signed w64 (q.x +ℤ w.x)) e g)
    (k ∙ ap₂ (λ (q : Position) (w : Velocity). saturate_signed w64 (q.y +ℤ w.y)) e g)
    ∙ by_axis place step ∙ ap₂ moved f b
