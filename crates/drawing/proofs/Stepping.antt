-- The shapes of steps, one after the other.
use Rattle.std.proofs.Common.{◌≡◌, ℕ, ◌+◌, ◌<◌, ◌≤◌, List, ◌∷◌, ◌++◌, Option, length, drop, get_or, append_assoc, sym, ap, ◌∙◌}
use Rattle.std.proofs.lemmas.List.{at_drop_more, at_drop_all, append-nil}
use Rattle.model.specs.declared.steps.Step.{Step}
use Rattle.drawing.specs.declared.shape.Shape.{Shape}
use Rattle.drawing.specs.declared.lanes.Running.{Running}
use Rattle.drawing.specs.Lanes.{lanes_after, next_at, step_shapes, steps_shapes}

pub steps_next : (top bottom : ℕ) (lanes moved : List (Option Running)) (at next : ℕ) (steps : List Step) (i : ℕ) (d step : Step) (old new all : List Shape) → i < length steps → step ≡ get_or steps i d →
    old ++ steps_shapes top bottom lanes at (drop i steps) ≡ all → new ≡ old ++ step_shapes top bottom lanes at step → moved ≡ lanes_after lanes at step → next ≡ next_at at →
    new ++ steps_shapes top bottom moved next (drop (i + 1) steps) ≡ all
steps_next top bottom lanes moved at next steps i d step old new all low here is more lanes_is next_is =
    let left : List Step = drop (i + 1) steps in
    let piece : List Shape = step_shapes top bottom lanes at step in
    let now : steps_shapes top bottom lanes at (drop i steps) ≡ piece ++ steps_shapes top bottom (lanes_after lanes at step) (next_at at) left =
    at_drop_more (steps_shapes top bottom lanes at) steps i d low ∙ ap (λ (x : Step). steps_shapes top bottom lanes at (x ∷ left)) (sym here) in
    ap (λ (xs : List Shape). xs ++ steps_shapes top bottom moved next left) more
    ∙ (append_assoc old piece (steps_shapes top bottom moved next left)
    ∙ (ap (λ (ls : List (Option Running)). old ++ (piece ++ steps_shapes top bottom ls next left)) lanes_is
    ∙ (ap (λ (n : ℕ). old ++ (piece ++ steps_shapes top bottom (lanes_after lanes at step) n left)) next_is
    ∙ (ap (λ (xs : List Shape). old ++ xs) (sym now) ∙ is))))

pub steps_end : (top bottom : ℕ) (lanes : List (Option Running)) (at : ℕ) (steps : List Step) (i : ℕ) (made all : List Shape) → length steps ≤ i → made ++ steps_shapes top bottom lanes at (drop i steps) ≡ all → made ≡ all
steps_end top bottom lanes at steps i made all past is =
    sym (append-nil made) ∙ (ap (λ (xs : List Shape). made ++ xs) (sym (at_drop_all (steps_shapes top bottom lanes at) steps i past)) ∙ is)
