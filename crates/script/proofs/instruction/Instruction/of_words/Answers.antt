-- The words are those that the pattern names.
use Rattle.std.proofs.Common.{◌≡◌, ◌-◌, ◌≤◌, List, [], ◌∷◌, length, get_or, map, take, drop, refl, sym, ap, ap₂, ◌∙◌, subst, arith}
use Rattle.parsing.specs.Reads.{Reads}
use Rattle.script.specs.Instruction.{AreInstruction}
use Rattle.script.proofs.instruction.Instruction.of_words.Goals as goal

whole : {A : Type 0} (xs : List A) → take (length xs) xs ≡ xs
whole [] = refl
whole (x ∷ xs) = ap (λ ys. x ∷ ys) (whole xs)

of-three-up : {A B : Type 0} (f : A → B) (xs : List A) (d : A) (first : B) → 3 ≤ length xs → f (get_or xs 0 d) ≡ first → map f xs ≡ first ∷ f (get_or xs 1 d) ∷ f (get_or xs 2 d) ∷ map f (take (length xs - 3) (drop 3 xs))
of-three-up f [] d first l h = absurd (omega arith)
of-three-up f (a ∷ []) d first l h = absurd (omega arith)
of-three-up f (a ∷ b ∷ []) d first l h = absurd (omega arith)
of-three-up f (a ∷ b ∷ c ∷ xs) d first l h =
    let rest : length (a ∷ b ∷ c ∷ xs) - 3 ≡ length xs = omega arith in
    ap₂ (λ x ys. x ∷ f b ∷ f c ∷ map f ys) h (sym (ap (λ n. take n xs) rest ∙ whole xs))

pub returns-then-is_insert : goal.returns-then-is_insert
returns-then-is_insert c = subst (λ ws. Reads AreInstruction ws c.insert.result) (sym (of-three-up (λ word. word.now) c.args.words.now _ _ (omega (arith, c.in-len3-up.len_at_least)) (c.is_insert.ensures.0 c.if-is_insert.true))) c.insert.ensures
