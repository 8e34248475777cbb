-- The lines of a reader. A line ends with the byte 10.
use Rattle.std.specs.Prelude.{◌≡◌, ◌≢◌, ℕ, ◌<◌, ◌≤◌, List, [], ◌∷◌, ◌++◌, length, take, Option, Some, IfSome}
use Rattle.std.specs.List.{AllByRecursion}
use Rattle.std.specs.Io.KnownBytes.{Consumes}
use Rattle.streams.specs.declared.lines.Line.{Line}
use Rattle.streams.specs.declared.lines.Line.TheVariants.{Whole, TooLong, End}
use Rattle.streams.specs.declared.lines.Shown.{Shown}
use Rattle.streams.specs.declared.lines.Shown.TheVariants.{Part, Rest, Nothing}

-- the end of a line is not among these bytes
abbrev pub IsUnended : List ℕ → Type 0
IsUnended bytes = AllByRecursion (λ b. b ≢ 10) bytes

-- what a reader loses where it gives a line: the line, with its end. A whole line is this one, and within the limit. At the end nothing is
-- left, and no line ended in what was
abbrev pub GivesLine : ℕ → Option (List ℕ) → Option (List ℕ) → List ℕ → Line → Type 0
GivesLine limit old new line Whole = IsUnended line × (length line ≤ limit) × Consumes old new (line ++ 10 ∷ [])
GivesLine limit old new line TooLong = (long : List ℕ) × IsUnended long × (limit < length long) × Consumes old new (long ++ 10 ∷ [])
GivesLine limit old new line End = IfSome old (λ rest. IsUnended rest × (new ≡ Some []))

-- what a reader loses where it fails: at most a part of a line, without its end
abbrev pub LosesPart : Option (List ℕ) → Option (List ℕ) → Type 0
LosesPart old new = (lost : List ℕ) × IsUnended lost × Consumes old new lost

-- a line grew by these bytes, as far as it has room
abbrev pub GrowsWithin : ℕ → List ℕ → List ℕ → List ℕ → Type 0
GrowsWithin room old new part = IsUnended part × (new ≡ take room (old ++ part))

-- what a reader loses where it shows some of a line
abbrev pub TakesShown : ℕ → Option (List ℕ) → Option (List ℕ) → List ℕ → List ℕ → Shown → Type 0
TakesShown room old new line grown Part = (part : List ℕ) × GrowsWithin room line grown part × Consumes old new part
TakesShown room old new line grown Rest = (part : List ℕ) × GrowsWithin room line grown part × Consumes old new (part ++ 10 ∷ [])
TakesShown room old new line grown Nothing = IfSome old (λ rest. (rest ≡ []) × (new ≡ Some []))
