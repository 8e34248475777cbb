-- What is written piece by piece.
use Rattle.std.proofs.Common.{◌≡◌, List, ◌++◌, append_assoc, sym, ap, ◌∙◌}

-- a piece behind others
pub joined : {X : Type 0} (first now next before piece : List X) → now ≡ first ++ before → next ≡ now ++ piece → next ≡ first ++ (before ++ piece)
joined first now next before piece is more = more ∙ (ap (λ xs. xs ++ piece) is ∙ append_assoc first before piece)

-- one of two parts
pub joined_two : {X : Type 0} (first now next before piece end : List X) → now ≡ first ++ before → next ≡ now ++ (piece ++ end) → next ≡ first ++ ((before ++ piece) ++ end)
joined_two first now next before piece end is more = joined first now next before (piece ++ end) is more ∙ ap (λ xs. first ++ xs) (sym (append_assoc before piece end))
