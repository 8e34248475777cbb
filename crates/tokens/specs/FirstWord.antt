-- The first word of a text.
use Rattle.std.specs.Prelude.{◌≡◌, ℕ, List, ◌++◌}
use Rattle.parsing.specs.Words.{AreSpaces, IsWord, EndsWord}

-- the first word of a text, behind any number of spaces, and what follows it
abbrev pub IsFirstWord : List ℕ × List ℕ → List ℕ → Type 0
IsFirstWord first text = (front : List ℕ) × AreSpaces front × IsWord first.0 × EndsWord first.1 × (text ≡ front ++ (first.0 ++ first.1))
