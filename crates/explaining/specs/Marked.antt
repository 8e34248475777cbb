-- What is marked of a text: what stands there reads as it.
use Rattle.std.specs.Prelude.{ℕ, ◌≡◌, ◌⊎◌, List, [], slice_index, Some, IsSome}
use Rattle.text_marks.specs.Lines.{Spells}
use Rattle.text_marks.specs.declared.marks.Span.{Span}
use Rattle.toml.specs.Parse.{parse_value}
use Rattle.toml_parser.specs.Strings.{Key, key, quoted}
use Rattle.explaining.specs.declared.target.Part.{Part}
use Rattle.explaining.specs.declared.target.Part.TheVariants as part

-- ---- what a text reads as

-- it is a key, of which this is the last part
abbrev pub ReadsKey : List ℕ → List ℕ → Type 0
ReadsKey word there = (read : Key) × (key there ≡ Some (read, [])) × (read.1 ≡ word)

-- it is this text, in quotes
abbrev pub ReadsText : List ℕ → List ℕ → Type 0
ReadsText word there = (read : List ℕ) × (quoted there ≡ Some (read, [])) × (read ≡ word)

-- it is a value
abbrev pub ReadsValue : List ℕ → Type 0
ReadsValue there = IsSome (parse_value there)

-- it begins with a byte
abbrev pub Begins : ℕ → List ℕ → Type 0
Begins byte there = slice_index there 0 ≡ byte

-- ---- the same of what stands at a span

abbrev pub StandsAt : (List ℕ → Type 0) → List ℕ → Span → Type 0
StandsAt Is text span = (there : List ℕ) × Spells text span there × Is there

abbrev pub IsKeyAt : List ℕ → List ℕ → Span → Type 0
IsKeyAt text word span = StandsAt (ReadsKey word) text span

abbrev pub IsTextAt : List ℕ → List ℕ → Span → Type 0
IsTextAt text word span = StandsAt (ReadsText word) text span

abbrev pub IsValueAt : List ℕ → Span → Type 0
IsValueAt text span = StandsAt ReadsValue text span

abbrev pub BeginsAt : List ℕ → ℕ → Span → Type 0
BeginsAt text byte span = StandsAt (Begins byte) text span

-- it is this word, or a key of which the word is the last part, or a header
abbrev pub IsKeyOrHeader : List ℕ → List ℕ → Span → Type 0
IsKeyOrHeader text word span = Spells text span word ⊎ (IsKeyAt text word span ⊎ BeginsAt text 91 span)

-- what is marked of a table begins with a brace, or is its header; of a key it reads as that key, or is a header; of a value it reads as one, or is the key;
-- of a word of a text it is that word, or reads as the text
abbrev pub IsMarked : List ℕ → List ℕ → Part → Span → Type 0
IsMarked text word part.Table span = BeginsAt text 123 span ⊎ BeginsAt text 91 span
IsMarked text word part.Key span = IsKeyOrHeader text word span
IsMarked text word part.Value span = IsValueAt text span ⊎ IsKeyOrHeader text word span
IsMarked text word (part.Word whole from within) span = Spells text span within.now ⊎ IsTextAt text whole.now span
