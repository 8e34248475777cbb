-- A list of bodies as places with bodies, and what is told of those that don't fit.
use Rattle.std.proofs.Common.{ℕ, zero, suc, ◌<◌, ◌≡◌, Bool, true, false, List, [], ◌∷◌, length, map, get_or, Option, Some, refl, sym, ◌∙◌, arith}
use Rattle.model.specs.access.Access.{Params}
use Rattle.model.specs.state.State.{State}
use Rattle.model.specs.steps.Schedule.{Schedule}
use Rattle.engine.specs.Meanings.{body_at, fits_at, IsFirstMisfit, Miscounts, Suits}
use Rattle.engine.proofs.FirstState.{counts_right}

-- the body at a place
pub at_body : {B : Type 0} (bodies : List B) (n : ℕ) (d : B) → n < length bodies → body_at (map Some bodies) n ≡ Some (get_or bodies n d)
at_body [] n d known = absurd (omega arith)
at_body (b ∷ bodies) zero d known = refl
at_body (b ∷ bodies) (suc n) d known = at_body bodies n d (omega arith)

pub unlike : (b : Bool) → b ≡ true → b ≡ false → ⊥
unlike b e f = absurd (let g : true ≡ false = sym e ∙ f in cc)

-- where the bodies and memories are those of the schedule there is no miscount, and no misfit
pub suits_counts : {B : Type 0} (fits : B → Params → Bool) (s : Schedule) (slots : List (Option B)) (state : State) → Suits fits s slots state → Miscounts s slots state → ⊥
suits_counts fits s slots state suits = counts_right s slots state suits.body_count suits.memories

pub suits_fits : {B : Type 0} (fits : B → Params → Bool) (s : Schedule) (slots : List (Option B)) (state : State) (n : ℕ) → Suits fits s slots state → IsFirstMisfit fits s slots state n → ⊥
suits_fits fits s slots state n suits found = unlike (fits_at fits s slots n) (suits.fit n found.known) found.misfit
