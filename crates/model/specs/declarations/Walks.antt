-- Lists of which each element is good, or one is the first that is bad; and walks, from each number of a list to the next.
use Rattle.std.specs.Prelude.{ℕ, ◌≡◌, ◌⊎◌, false, List, [], ◌∷◌}
use Rattle.model.specs.Lists.{has}

-- each element is good
abbrev pub EachIs : {A : Type 0} → (A → Type 0) → List A → Type 0
EachIs Good [] = Unit {0}
EachIs Good (x ∷ xs) = Good x × EachIs Good xs

-- x is bad, and each element before it is good
abbrev pub IsFirstBad : {A : Type 0} → (A → Type 0) → (A → Type 0) → List A → A → Type 0
IsFirstBad Good Bad [] x = ⊥
IsFirstBad Good Bad (y ∷ ys) x = ((x ≡ y) × Bad y) ⊎ (Good y × IsFirstBad Good Bad ys x)

-- no number stands twice
abbrev pub IsOnceEach : List ℕ → Type 0
IsOnceEach [] = Unit {0}
IsOnceEach (n ∷ ns) = (has n ns ≡ false) × IsOnceEach ns

-- each number is related to the next
abbrev pub IsWalk : (ℕ → ℕ → Type 0) → List ℕ → Type 0
IsWalk Step [] = Unit {0}
IsWalk Step (m ∷ []) = Unit {0}
IsWalk Step (m ∷ n ∷ ns) = Step m n × IsWalk Step (n ∷ ns)
