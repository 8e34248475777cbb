-- What words are that stand behind a command: one, two, a name, or a component in front.
use Rattle.std.specs.Prelude.{◌≡◌, ℕ, ◌≤◌, List, [], ◌∷◌, length, take}
use Rattle.model.specs.state.Loaded.{Given}
use Rattle.tokens.specs.Name.{IsName}
use Rattle.requests.specs.Grammar.{AreComponent}

-- the words are this one alone, and these two
abbrev pub IsOnly : List ℕ → List (List ℕ) → Type 0
IsOnly word words = words ≡ word ∷ []

abbrev pub ArePair : List ℕ × List ℕ → List (List ℕ) → Type 0
ArePair pair words = words ≡ pair.0 ∷ pair.1 ∷ []

-- the words are a name alone
abbrev pub IsOnlyName : List ℕ → List (List ℕ) → Type 0
IsOnlyName name words = IsOnly name words × IsName name

-- so many of the words, from the first, are a component
abbrev pub BeginsWithComponent : Given × ℕ → List (List ℕ) → Type 0
BeginsWithComponent first words = AreComponent first.0 (take first.1 words) × (first.1 ≤ length words)
