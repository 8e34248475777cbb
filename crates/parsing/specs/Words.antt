-- Words with spaces between. A space is the byte 32 alone.
use Rattle.std.specs.Prelude.{◌≡◌, ◌≢◌, ℕ, List, [], ◌∷◌, ◌++◌}
use Rattle.std.specs.List.{AllByRecursion}

-- spaces and nothing else, or no byte at all
abbrev pub AreSpaces : List ℕ → Type 0
AreSpaces text = AllByRecursion (λ b. b ≡ 32) text

-- none of the bytes is c
abbrev pub Lacks : ℕ → List ℕ → Type 0
Lacks c text = AllByRecursion (λ b. b ≢ c) text

-- one byte or more, and no space
abbrev pub IsWord : List ℕ → Type 0
IsWord word = (word ≢ []) × Lacks 32 word

-- what follows a word: nothing, or a space first
abbrev pub EndsWord : List ℕ → Type 0
EndsWord [] = Unit {0}
EndsWord (b ∷ bs) = b ≡ 32

-- the words of a text, in order: one or more spaces between, and any number at either end
abbrev pub AreWordsOf : List (List ℕ) → List ℕ → Type 0
AreWordsOf [] text = AreSpaces text
AreWordsOf (word ∷ words) text = (front : List ℕ) × (rest : List ℕ)
    × AreSpaces front × IsWord word × EndsWord rest × (text ≡ front ++ (word ++ rest)) × AreWordsOf words rest

-- a text spells a value where its words do
abbrev pub ByWords : {A : Type 0} → (A → List (List ℕ) → Type 0) → A → List ℕ → Type 0
ByWords Spells x text = (words : List (List ℕ)) × AreWordsOf words text × Spells x words
