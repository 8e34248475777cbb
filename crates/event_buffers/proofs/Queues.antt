-- The queues of all kinds: one of them changed.
use Rattle.std.proofs.Common.{◌≡◌, ℕ, zero, suc, List, [], ◌∷◌, length, set, get_or, refl, ap, ap₂, arith}
use Rattle.model.specs.Lists.{update_at}

-- an element changed by number is that element set
pub update_at-set : {A : Type 0} (f : A → A) (d : A) (xs : List A) (i : ℕ) → set xs i (f (get_or xs i d)) ≡ update_at i f xs
update_at-set f d [] i = refl
update_at-set f d (x ∷ xs) zero = refl
update_at-set f d (x ∷ xs) (suc i) = ap (◌∷◌ x) (update_at-set f d xs i)

-- copies of all four are the same list
pub copied_four : {A : Type 0} (xs : List A) (a b c d : A) (a' b' c' d' : A) → length xs ≡ 4 → a' ≡ get_or xs 0 a → b' ≡ get_or xs 1 b → c' ≡ get_or xs 2 c → d' ≡ get_or xs 3 d → a' ∷ b' ∷ c' ∷ d' ∷ [] ≡ xs
copied_four [] a b c d a' b' c' d' long ha hb hc hd = absurd (omega arith)
copied_four (w ∷ []) a b c d a' b' c' d' long ha hb hc hd = absurd (omega arith)
copied_four (w ∷ x ∷ []) a b c d a' b' c' d' long ha hb hc hd = absurd (omega arith)
copied_four (w ∷ x ∷ y ∷ []) a b c d a' b' c' d' long ha hb hc hd = absurd (omega arith)
copied_four (w ∷ x ∷ y ∷ z ∷ []) a b c d a' b' c' d' long ha hb hc hd = ap₂ ◌∷◌ ha (ap₂ ◌∷◌ hb (ap₂ ◌∷◌ hc (ap (λ q. q ∷ []) hd)))
copied_four (v ∷ w ∷ x ∷ y ∷ z ∷ zs) a b c d a' b' c' d' long ha hb hc hd = absurd (omega arith)
