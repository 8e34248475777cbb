-- What it is to read a text by a grammar. A grammar is a relation `Spells` between values and texts: a reader gives the one
-- value that its text spells, and refuses the text just where it spells none.
use Rattle.std.specs.Prelude.{◌≡◌, Option, Some, None, Result, Ok, Err}
use Rattle.parsing.specs.declared.read_error.ReadError.{ReadError}
use Rattle.parsing.specs.declared.read_error.ReadError.TheVariants.{Outside, Memory}

-- the text spells no value
abbrev pub SpellsNone : {A T : Type 0} → (A → T → Type 0) → T → Type 0
SpellsNone {A} Spells text = (v : A) → Spells v text → ⊥

-- the text spells this value, and no other
abbrev pub SpellsOnly : {A T : Type 0} → (A → T → Type 0) → T → A → Type 0
SpellsOnly {A} Spells text x = Spells x text × ((v : A) → Spells v text → v ≡ x)

-- the answer of a reader: the one value that the text spells, or none where it spells none
abbrev pub Reads : {A T : Type 0} → (A → T → Type 0) → T → Option A → Type 0
Reads Spells text None = SpellsNone Spells text
Reads Spells text (Some x) = SpellsOnly Spells text x

-- what an error of a reader says: the text spells nothing, unless an allocation failed
abbrev pub Refuses : {A T : Type 0} → (A → T → Type 0) → T → ReadError → Type 0
Refuses Spells text Outside = SpellsNone Spells text
Refuses Spells text Memory = Unit {0}

-- the answer of a reader that takes memory
abbrev pub ReadsUnlessMemory : {A T : Type 0} → (A → T → Type 0) → T → Result A ReadError → Type 0
ReadsUnlessMemory Spells text (Ok x) = SpellsOnly Spells text x
ReadsUnlessMemory Spells text (Err e) = Refuses Spells text e

-- a text spells what is seen of a value where it spells the value
abbrev pub SpellsSeen : {A B T : Type 0} → (A → B) → (A → T → Type 0) → B → T → Type 0
SpellsSeen {A} seen Spells y text = (x : A) × Spells x text × (y ≡ seen x)
