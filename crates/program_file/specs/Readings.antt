-- Values that texts spell, each its own.
use Rattle.std.specs.Prelude.{ℕ, List, [], ◌∷◌}
use Rattle.parsing.specs.Reads.{SpellsOnly}

-- as many values as texts, each the only one that its text spells
abbrev pub AreSpelled : {A : Type 0} → (A → List ℕ → Type 0) → List A → List (List ℕ) → Type 0
AreSpelled Spells [] [] = Unit {0}
AreSpelled Spells [] (text ∷ texts) = ⊥
AreSpelled Spells (x ∷ xs) [] = ⊥
AreSpelled Spells (x ∷ xs) (text ∷ texts) = SpellsOnly Spells text x × AreSpelled Spells xs texts
