-- The words of an `or` term: which alternatives they are, and that they are no others.
use Rattle.std.proofs.Common.{◌≡◌, ℕ, List, [], ◌∷◌, codes, refl, ap, ◌∙◌}
use Rattle.parsing.specs.Reads.{SpellsNone, SpellsOnly}
use Rattle.query.specs.declared.alternative.Alternative.{Alternative}
use Rattle.query.specs.declared.alternative.Alternatives.{Alternatives}
use Rattle.query.specs.declared.alternative.Alternatives.TheVariants.{Zero, One, Two, Three, Four, Five}
use Rattle.query.specs.declared.term.Term.TheVariants.{Or}
use Rattle.query.specs.Grammar.{AreAlternative, AreTerm}

-- the words are those of an `or` term of these alternatives
abbrev pub AreOr : Alternatives → List (List ℕ) → Type 0
AreOr alternatives = AreTerm (Or alternatives)

-- five words are those of two alternatives
two_parts : (o u k v l : List ℕ) (alternatives : Alternatives) → AreOr alternatives (o ∷ u ∷ k ∷ v ∷ l ∷ []) →
    (a : Alternative) × (b : Alternative) × (alternatives ≡ Two (a ∷ b ∷ [])) × AreAlternative a (u ∷ k ∷ []) × AreAlternative b (v ∷ l ∷ [])
two_parts o u k v l Zero h = absurd h
two_parts o u k v l (One xs) h = absurd h
two_parts o u k v l (Two ([])) h = absurd h
two_parts o u k v l (Two (a ∷ [])) h = absurd h
two_parts o u k v l (Two (a ∷ b ∷ [])) h = (a, b, refl, h.1, h.2)
two_parts o u k v l (Two (a ∷ b ∷ e ∷ xs)) h = absurd h
two_parts o u k v l (Three ([])) h = absurd h
two_parts o u k v l (Three (a ∷ [])) h = absurd h
two_parts o u k v l (Three (a ∷ b ∷ [])) h = absurd h
two_parts o u k v l (Three (a ∷ b ∷ c ∷ [])) h = absurd h
two_parts o u k v l (Three (a ∷ b ∷ c ∷ e ∷ xs)) h = absurd h
two_parts o u k v l (Four ([])) h = absurd h
two_parts o u k v l (Four (a ∷ [])) h = absurd h
two_parts o u k v l (Four (a ∷ b ∷ [])) h = absurd h
two_parts o u k v l (Four (a ∷ b ∷ c ∷ [])) h = absurd h
two_parts o u k v l (Four (a ∷ b ∷ c ∷ d ∷ [])) h = absurd h
two_parts o u k v l (Four (a ∷ b ∷ c ∷ d ∷ e ∷ xs)) h = absurd h
two_parts o u k v l (Five xs) h = absurd h

-- two alternatives that are read are an `or` term
pub two_read : (u k v l : List ℕ) (a b : Alternative) → SpellsOnly AreAlternative (u ∷ k ∷ []) a → SpellsOnly AreAlternative (v ∷ l ∷ []) b →
    SpellsOnly AreOr (codes "or" ∷ u ∷ k ∷ v ∷ l ∷ []) (Two (a ∷ b ∷ []))
two_read u k v l a b first second = (
  (refl, first.0, second.0),
  λ alternatives h.
      let p = two_parts (codes "or") u k v l alternatives h in
      p.2 ∙ (ap (λ y. Two (y ∷ p.1 ∷ [])) (first.1 p.0 p.3) ∙ ap (λ y. Two (a ∷ y ∷ [])) (second.1 p.1 p.4)),
)

-- the first of two is no alternative
pub two_without_first : (u k v l : List ℕ) → SpellsNone AreAlternative (u ∷ k ∷ []) → SpellsNone AreOr (codes "or" ∷ u ∷ k ∷ v ∷ l ∷ [])
two_without_first u k v l none alternatives h = let p = two_parts (codes "or") u k v l alternatives h in none p.0 p.3

-- the second of two is no alternative
pub two_without_second : (u k v l : List ℕ) → SpellsNone AreAlternative (v ∷ l ∷ []) → SpellsNone AreOr (codes "or" ∷ u ∷ k ∷ v ∷ l ∷ [])
two_without_second u k v l none alternatives h = let p = two_parts (codes "or") u k v l alternatives h in none p.1 p.4

-- seven words are those of three alternatives
three_parts : (o u k v l w m : List ℕ) (alternatives : Alternatives) → AreOr alternatives (o ∷ u ∷ k ∷ v ∷ l ∷ w ∷ m ∷ []) →
    (a : Alternative) × (b : Alternative) × (c : Alternative) × (alternatives ≡ Three (a ∷ b ∷ c ∷ [])) × AreAlternative a (u ∷ k ∷ []) × AreAlternative b (v ∷ l ∷ []) × AreAlternative c (w ∷ m ∷ [])
three_parts o u k v l w m Zero h = absurd h
three_parts o u k v l w m (One xs) h = absurd h
three_parts o u k v l w m (Two ([])) h = absurd h
three_parts o u k v l w m (Two (a ∷ [])) h = absurd h
three_parts o u k v l w m (Two (a ∷ b ∷ [])) h = absurd h
three_parts o u k v l w m (Two (a ∷ b ∷ e ∷ xs)) h = absurd h
three_parts o u k v l w m (Three ([])) h = absurd h
three_parts o u k v l w m (Three (a ∷ [])) h = absurd h
three_parts o u k v l w m (Three (a ∷ b ∷ [])) h = absurd h
three_parts o u k v l w m (Three (a ∷ b ∷ c ∷ [])) h = (a, b, c, refl, h.1, h.2, h.3)
three_parts o u k v l w m (Three (a ∷ b ∷ c ∷ e ∷ xs)) h = absurd h
three_parts o u k v l w m (Four ([])) h = absurd h
three_parts o u k v l w m (Four (a ∷ [])) h = absurd h
three_parts o u k v l w m (Four (a ∷ b ∷ [])) h = absurd h
three_parts o u k v l w m (Four (a ∷ b ∷ c ∷ [])) h = absurd h
three_parts o u k v l w m (Four (a ∷ b ∷ c ∷ d ∷ [])) h = absurd h
three_parts o u k v l w m (Four (a ∷ b ∷ c ∷ d ∷ e ∷ xs)) h = absurd h
three_parts o u k v l w m (Five xs) h = absurd h

-- three alternatives that are read are an `or` term
pub three_read : (u k v l w m : List ℕ) (a b c : Alternative) → SpellsOnly AreAlternative (u ∷ k ∷ []) a → SpellsOnly AreAlternative (v ∷ l ∷ []) b → SpellsOnly AreAlternative (w ∷ m ∷ []) c →
    SpellsOnly AreOr (codes "or" ∷ u ∷ k ∷ v ∷ l ∷ w ∷ m ∷ []) (Three (a ∷ b ∷ c ∷ []))
three_read u k v l w m a b c first second third = (
  (refl, first.0, second.0, third.0),
  λ alternatives h.
      let p = three_parts (codes "or") u k v l w m alternatives h in
      p.3 ∙ (ap (λ y. Three (y ∷ p.1 ∷ p.2 ∷ [])) (first.1 p.0 p.4) ∙ ap (λ y. Three (a ∷ y ∷ p.2 ∷ [])) (second.1 p.1 p.5) ∙ ap (λ y. Three (a ∷ b ∷ y ∷ [])) (third.1 p.2 p.6)),
)

-- the first of three is no alternative
pub three_without_first : (u k v l w m : List ℕ) → SpellsNone AreAlternative (u ∷ k ∷ []) → SpellsNone AreOr (codes "or" ∷ u ∷ k ∷ v ∷ l ∷ w ∷ m ∷ [])
three_without_first u k v l w m none alternatives h = let p = three_parts (codes "or") u k v l w m alternatives h in none p.0 p.4

-- the second of three is no alternative
pub three_without_second : (u k v l w m : List ℕ) → SpellsNone AreAlternative (v ∷ l ∷ []) → SpellsNone AreOr (codes "or" ∷ u ∷ k ∷ v ∷ l ∷ w ∷ m ∷ [])
three_without_second u k v l w m none alternatives h = let p = three_parts (codes "or") u k v l w m alternatives h in none p.1 p.5

-- the third of three is no alternative
pub three_without_third : (u k v l w m : List ℕ) → SpellsNone AreAlternative (w ∷ m ∷ []) → SpellsNone AreOr (codes "or" ∷ u ∷ k ∷ v ∷ l ∷ w ∷ m ∷ [])
three_without_third u k v l w m none alternatives h = let p = three_parts (codes "or") u k v l w m alternatives h in none p.2 p.6

-- nine words are those of four alternatives
four_parts : (o u k v l w m x n : List ℕ) (alternatives : Alternatives) → AreOr alternatives (o ∷ u ∷ k ∷ v ∷ l ∷ w ∷ m ∷ x ∷ n ∷ []) →
    (a : Alternative) × (b : Alternative) × (c : Alternative) × (d : Alternative) × (alternatives ≡ Four (a ∷ b ∷ c ∷ d ∷ [])) ×
    AreAlternative a (u ∷ k ∷ []) × AreAlternative b (v ∷ l ∷ []) × AreAlternative c (w ∷ m ∷ []) × AreAlternative d (x ∷ n ∷ [])
four_parts o u k v l w m x n Zero h = absurd h
four_parts o u k v l w m x n (One xs) h = absurd h
four_parts o u k v l w m x n (Two ([])) h = absurd h
four_parts o u k v l w m x n (Two (a ∷ [])) h = absurd h
four_parts o u k v l w m x n (Two (a ∷ b ∷ [])) h = absurd h
four_parts o u k v l w m x n (Two (a ∷ b ∷ e ∷ xs)) h = absurd h
four_parts o u k v l w m x n (Three ([])) h = absurd h
four_parts o u k v l w m x n (Three (a ∷ [])) h = absurd h
four_parts o u k v l w m x n (Three (a ∷ b ∷ [])) h = absurd h
four_parts o u k v l w m x n (Three (a ∷ b ∷ c ∷ [])) h = absurd h
four_parts o u k v l w m x n (Three (a ∷ b ∷ c ∷ e ∷ xs)) h = absurd h
four_parts o u k v l w m x n (Four ([])) h = absurd h
four_parts o u k v l w m x n (Four (a ∷ [])) h = absurd h
four_parts o u k v l w m x n (Four (a ∷ b ∷ [])) h = absurd h
four_parts o u k v l w m x n (Four (a ∷ b ∷ c ∷ [])) h = absurd h
four_parts o u k v l w m x n (Four (a ∷ b ∷ c ∷ d ∷ [])) h = (a, b, c, d, refl, h.1, h.2, h.3, h.4)
four_parts o u k v l w m x n (Four (a ∷ b ∷ c ∷ d ∷ e ∷ xs)) h = absurd h
four_parts o u k v l w m x n (Five xs) h = absurd h

-- four alternatives that are read are an `or` term
pub four_read : (u k v l w m x n : List ℕ) (a b c d : Alternative) → SpellsOnly AreAlternative (u ∷ k ∷ []) a → SpellsOnly AreAlternative (v ∷ l ∷ []) b →
    SpellsOnly AreAlternative (w ∷ m ∷ []) c → SpellsOnly AreAlternative (x ∷ n ∷ []) d → SpellsOnly AreOr (codes "or" ∷ u ∷ k ∷ v ∷ l ∷ w ∷ m ∷ x ∷ n ∷ []) (Four (a ∷ b ∷ c ∷ d ∷ []))
four_read u k v l w m x n a b c d first second third fourth = (
  (refl, first.0, second.0, third.0, fourth.0),
  λ alternatives h.
      let p = four_parts (codes "or") u k v l w m x n alternatives h in
      p.4 ∙ (ap (λ y. Four (y ∷ p.1 ∷ p.2 ∷ p.3 ∷ [])) (first.1 p.0 p.5) ∙ ap (λ y. Four (a ∷ y ∷ p.2 ∷ p.3 ∷ [])) (second.1 p.1 p.6) ∙ ap (λ y. Four (a ∷ b ∷ y ∷ p.3 ∷ [])) (third.1 p.2 p.7)
      ∙ ap (λ y. Four (a ∷ b ∷ c ∷ y ∷ [])) (fourth.1 p.3 p.8)),
)

-- the first of four is no alternative
pub four_without_first : (u k v l w m x n : List ℕ) → SpellsNone AreAlternative (u ∷ k ∷ []) → SpellsNone AreOr (codes "or" ∷ u ∷ k ∷ v ∷ l ∷ w ∷ m ∷ x ∷ n ∷ [])
four_without_first u k v l w m x n none alternatives h = let p = four_parts (codes "or") u k v l w m x n alternatives h in none p.0 p.5

-- the second of four is no alternative
pub four_without_second : (u k v l w m x n : List ℕ) → SpellsNone AreAlternative (v ∷ l ∷ []) → SpellsNone AreOr (codes "or" ∷ u ∷ k ∷ v ∷ l ∷ w ∷ m ∷ x ∷ n ∷ [])
four_without_second u k v l w m x n none alternatives h = let p = four_parts (codes "or") u k v l w m x n alternatives h in none p.1 p.6

-- the third of four is no alternative
pub four_without_third : (u k v l w m x n : List ℕ) → SpellsNone AreAlternative (w ∷ m ∷ []) → SpellsNone AreOr (codes "or" ∷ u ∷ k ∷ v ∷ l ∷ w ∷ m ∷ x ∷ n ∷ [])
four_without_third u k v l w m x n none alternatives h = let p = four_parts (codes "or") u k v l w m x n alternatives h in none p.2 p.7

-- the fourth of four is no alternative
pub four_without_fourth : (u k v l w m x n : List ℕ) → SpellsNone AreAlternative (x ∷ n ∷ []) → SpellsNone AreOr (codes "or" ∷ u ∷ k ∷ v ∷ l ∷ w ∷ m ∷ x ∷ n ∷ [])
four_without_fourth u k v l w m x n none alternatives h = let p = four_parts (codes "or") u k v l w m x n alternatives h in none p.3 p.8
