-- Parts with commas between. A comma is the byte 44.
use Rattle.std.specs.Prelude.{◌≡◌, ◌≢◌, ℕ, List, []}
use Rattle.std.specs.List.{AllByRecursion, AllZip, join_with_byte}
use Rattle.parsing.specs.Words.{Lacks}

-- the parts of a text, in order: one or more, a comma between each two, and none within a part. A part may be empty.
abbrev pub ArePartsOf : List (List ℕ) → List ℕ → Type 0
ArePartsOf parts text = (parts ≢ []) × AllByRecursion (Lacks 44) parts × (text ≡ join_with_byte 44 parts)

-- a text spells a list of values where its parts spell them, each its own
abbrev pub ByParts : {A : Type 0} → (A → List ℕ → Type 0) → List A → List ℕ → Type 0
ByParts Spells xs text = (parts : List (List ℕ)) × ArePartsOf parts text × AllZip Spells xs parts
