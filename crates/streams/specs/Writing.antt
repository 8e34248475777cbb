-- What a text that is written leaves with a writer.
use Rattle.std.specs.Prelude.{◌≡◌, ◌==◌, ℕ, List, [], ◌∷◌, ◌++◌, Option, Result, MatchResult}
use Rattle.std.specs.List.{before_first}
use Rattle.std.specs.Io.KnownBytes.{Appends}

-- a writer took a beginning of the text
abbrev pub AppendsFront : Option (List ℕ) → Option (List ℕ) → List ℕ → Type 0
AppendsFront old new text = (front : List ℕ) × (rest : List ℕ) × (text ≡ front ++ rest) × Appends old new front

-- a writer took the text at `Ok`, and a beginning of it at `Err`
abbrev pub WritesWhole : {T E : Type 0} → Option (List ℕ) → Option (List ℕ) → Result T E → List ℕ → Type 0
WritesWhole old new r text = MatchResult r (λ _. Appends old new text) (λ _. AppendsFront old new text)

-- the first line of a text, without its end
abbrev pub first_line_of : List ℕ → List ℕ
first_line_of text = before_first (λ byte. byte == 10) text

-- the first line of a text, with its end
abbrev pub line_of : List ℕ → List ℕ
line_of text = first_line_of text ++ 10 ∷ []
