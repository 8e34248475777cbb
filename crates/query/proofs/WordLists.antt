-- The words that references lead to, where it is known how many there are.
use Rattle.std.proofs.Common.{◌<◌, ◌≤◌, ◌-◌, ℕ, Bor, List, [], ◌∷◌, map, length, get_or, take, drop, subst, arith}
use Rattle.std.proofs.lemmas.List.{take_all}

-- none
pub no_words : (P : List (List ℕ) → Type 0) (words : List (Bor (List ℕ))) → length words < 1 → P [] → P (map (λ (word : Bor (List ℕ)). word.now) words)
no_words P [] high h = h
no_words P (a ∷ words) high h = absurd (omega arith)

-- one
pub one_word : (P : List (List ℕ) → Type 0) (words : List (Bor (List ℕ))) (d : Bor (List ℕ)) → 1 ≤ length words → length words < 2 →
    P ((get_or words 0 d).now ∷ []) → P (map (λ (word : Bor (List ℕ)). word.now) words)
one_word P [] d low high h = absurd (omega arith)
one_word P (a ∷ []) d low high h = h
one_word P (a ∷ b ∷ words) d low high h = absurd (omega arith)

-- two
pub two_words : (P : List (List ℕ) → Type 0) (words : List (Bor (List ℕ))) (d e : Bor (List ℕ)) → 2 ≤ length words → length words < 3 →
    P ((get_or words 0 d).now ∷ (get_or words 1 e).now ∷ []) → P (map (λ (word : Bor (List ℕ)). word.now) words)
two_words P [] d e low high h = absurd (omega arith)
two_words P (a ∷ []) d e low high h = absurd (omega arith)
two_words P (a ∷ b ∷ []) d e low high h = h
two_words P (a ∷ b ∷ c ∷ words) d e low high h = absurd (omega arith)

-- three, and however many more
pub three_words : (P : List (List ℕ) → Type 0) (words : List (Bor (List ℕ))) (d e f : Bor (List ℕ)) → 3 ≤ length words →
    P ((get_or words 0 d).now ∷ (get_or words 1 e).now ∷ (get_or words 2 f).now ∷ map (λ (word : Bor (List ℕ)). word.now) (take (length words - 3) (drop 3 words))) →
    P (map (λ (word : Bor (List ℕ)). word.now) words)
three_words P [] d e f low h = absurd (omega arith)
three_words P (a ∷ []) d e f low h = absurd (omega arith)
three_words P (a ∷ b ∷ []) d e f low h = absurd (omega arith)
three_words P (a ∷ b ∷ c ∷ words) d e f low h =
    subst (λ (ws : List (Bor (List ℕ))). P (a.now ∷ b.now ∷ c.now ∷ map (λ (word : Bor (List ℕ)). word.now) ws)) (take_all (length (a ∷ b ∷ c ∷ words) - 3) words (omega arith)) h

-- four, and however many more
pub four_words : (P : List (List ℕ) → Type 0) (words : List (Bor (List ℕ))) (d e f g : Bor (List ℕ)) → 4 ≤ length words →
    P ((get_or words 0 d).now ∷ (get_or words 1 e).now ∷ (get_or words 2 f).now ∷ (get_or words 3 g).now ∷ map (λ (word : Bor (List ℕ)). word.now) (take (length words - 4) (drop 4 words))) →
    P (map (λ (word : Bor (List ℕ)). word.now) words)
four_words P [] d e f g low h = absurd (omega arith)
four_words P (a ∷ []) d e f g low h = absurd (omega arith)
four_words P (a ∷ b ∷ []) d e f g low h = absurd (omega arith)
four_words P (a ∷ b ∷ c ∷ []) d e f g low h = absurd (omega arith)
four_words P (a ∷ b ∷ c ∷ x ∷ words) d e f g low h =
    subst (λ (ws : List (Bor (List ℕ))). P (a.now ∷ b.now ∷ c.now ∷ x.now ∷ map (λ (word : Bor (List ℕ)). word.now) ws)) (take_all (length (a ∷ b ∷ c ∷ x ∷ words) - 4) words (omega arith)) h
