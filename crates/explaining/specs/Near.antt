-- Names that are near a word.
use Rattle.std.specs.Prelude.{ℕ, ◌≡◌, ◌≤◌, ◌<◌, List, length, slice_get, Some, IfSome}
use Rattle.std.specs.Borrow.{Bor}
use Rattle.std.specs.Str.{chars}
use Rattle.strsim.specs.Edits.{osa_table}
use Rattle.explaining.specs.declared.names.Candidate.{Candidate}

-- how many characters of a text are other ones, more or fewer than those of another; two neighbours that are swapped count once
abbrev pub distance : List ℕ → List ℕ → ℕ
distance word name = (osa_table (chars word) (chars name)).last_row (length (chars name))

-- of the first names, so many, none is nearer to a word than this
abbrev pub NoneIsNearer : List ℕ → List (Bor (List ℕ)) → ℕ → ℕ → Type 0
NoneIsNearer word names count least = (k : ℕ) → k < count → IfSome (slice_get names k) (λ name. least ≤ distance word name.now)

-- the name of this number is so far from a word, and of the first names, so many, none is nearer
pub record IsNearest (word : List ℕ) (names : List (Bor (List ℕ))) (count : ℕ) (nearest : Candidate) : Type 0 where
  pub within : nearest.number < length names
  pub far : IfSome (slice_get names nearest.number) (λ name. nearest.distance ≡ distance word name.now)
  pub least : NoneIsNearer word names count nearest.distance

-- a name is one of some, none of which is nearer to a word
pub record IsNear (word : List ℕ) (names : List (Bor (List ℕ))) (name : Bor (List ℕ)) : Type 0 where
  pub number : ℕ
  pub there : slice_get names number ≡ Some name
  pub least : NoneIsNearer word names (length names) (distance word name.now)
