-- Names.
use Rattle.std.specs.Prelude.{ℕ, ◌≤◌, ◌≡◌, ◌⊎◌, List, [], ◌∷◌, length}
use Rattle.std.specs.List.{AllByRecursion}

-- a to z
abbrev pub IsLetter : ℕ → Type 0
IsLetter b = (97 ≤ b) × (b ≤ 122)

-- a to z, 0 to 9, or _
abbrev pub IsNameByte : ℕ → Type 0
IsNameByte b = IsLetter b ⊎ (((48 ≤ b) × (b ≤ 57)) ⊎ (b ≡ 95))

-- the first byte is a letter
abbrev pub BeginsWithLetter : List ℕ → Type 0
BeginsWithLetter [] = ⊥
BeginsWithLetter (b ∷ bs) = IsLetter b

-- 1 to 32 characters of a to z, 0 to 9 and _, the first a letter
abbrev pub IsName : List ℕ → Type 0
IsName text = BeginsWithLetter text × AllByRecursion IsNameByte text × (length text ≤ 32)
