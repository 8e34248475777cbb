-- How a condition is found at the front of a text: its word, what is in its brackets, and the rest.
use Rattle.std.specs.Prelude.{◌≡◌, ◌≢◌, ℕ, true, List, [], ◌∷◌, ◌++◌, Option, None, Some, Result, Ok, Err, ◌⊎◌, MatchOption}
use Rattle.std.specs.Borrow.{Bor}
use Rattle.parsing.specs.declared.read_error.ReadError.{ReadError}
use Rattle.parsing.specs.Reads.{SpellsOnly, Refuses}
use Rattle.parsing.specs.Words.{AreSpaces}
use Rattle.run_condition.specs.Grammar.{is_mark}

-- what follows a plain text: nothing, or a bracket or a comma first
abbrev pub StartsMark : List ℕ → Type 0
StartsMark [] = Unit {0}
StartsMark (b ∷ bs) = is_mark b ≡ true

-- what may follow a condition: nothing, or a closing bracket or a comma first
abbrev pub Ends : List ℕ → Type 0
Ends [] = Unit {0}
Ends (b ∷ bs) = (b ≡ 41) ⊎ (b ≡ 44)

-- a text begins with the text of a value, and then comes the rest
abbrev pub AtFront : {A : Type 0} → (A → List ℕ → Type 0) → A × List ℕ → List ℕ → Type 0
AtFront Spells v text = (front : List ℕ) × (text ≡ front ++ v.1) × Ends v.1 × Spells v.0 front

-- behind a closing bracket: spaces, and the rest
abbrev pub Closes : List ℕ → List ℕ → Type 0
Closes rest text = (tail : List ℕ) × AreSpaces tail × Ends rest × (text ≡ tail ++ rest)

-- a closing bracket, spaces, and the rest
abbrev pub IsClosing : List ℕ → List ℕ → Type 0
IsClosing rest text = (after : List ℕ) × (text ≡ 41 ∷ after) × Closes rest after

-- a text begins with the text of a value and a comma, and then comes the rest
abbrev pub BeforeComma : {A : Type 0} → (A → List ℕ → Type 0) → A × List ℕ → List ℕ → Type 0
BeforeComma Spells v text = AtFront Spells (v.0, 44 ∷ v.1) text

-- behind an opening bracket: what is inside, the closing one, spaces, and the rest
abbrev pub InBrackets : {A : Type 0} → (A → List ℕ → Type 0) → A × List ℕ → List ℕ → Type 0
InBrackets Spells v text = (inside : List ℕ) × (after : List ℕ) × (text ≡ inside ++ 41 ∷ after) × Closes v.1 after × Spells v.0 inside

-- behind a word: the rest, or brackets and the rest
abbrev pub Behind : {A : Type 0} → (A → Option (List ℕ) → Type 0) → A × List ℕ → List ℕ → Type 0
Behind Made v text =
    (Made v.0 None × Ends v.1 × (text ≡ v.1)) ⊎ ((more : List ℕ) × (text ≡ 40 ∷ more) × InBrackets (λ x inside. Made x (Some inside)) v more)

-- a reader that gives the one value and the rest
abbrev pub ReadsRest : {A : Type 0} → (A × List ℕ → List ℕ → Type 0) → List ℕ → Result (A × Bor (List ℕ)) ReadError → Type 0
ReadsRest Spells text (Ok v) = SpellsOnly Spells text (v.0, v.1.now)
ReadsRest Spells text (Err e) = Refuses Spells text e

-- a reader that gives a text
abbrev pub ReadsText : (List ℕ → List ℕ → Type 0) → List ℕ → Result (Bor (List ℕ)) ReadError → Type 0
ReadsText Spells text (Ok v) = SpellsOnly Spells text v.now
ReadsText Spells text (Err e) = Refuses Spells text e

-- what stands behind this byte at the front, or nothing where it isn't there
abbrev pub IsBehind : ℕ → List ℕ → Option (Bor (List ℕ)) → Type 0
IsBehind b text result = MatchOption result ((rest : List ℕ) → text ≢ b ∷ rest) (λ rest. text ≡ b ∷ rest.now)
