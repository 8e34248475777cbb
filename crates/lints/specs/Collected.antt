-- Lists of what is found: what is added to one.
use Rattle.std.specs.Prelude.{ℕ, ◌≡◌, ◌<◌, ◌++◌, ◌⊎◌, Bool, true, List, length}
use Rattle.std.specs.List.{All, Contains}
use Rattle.lints.specs.declared.lint.Lint.{Lint}

-- no more is found than so many
abbrev pub most_lints : ℕ
most_lints = 50

-- it is the one that is told where something is so
abbrev pub Told : Type 0 → Lint → Lint → Type 0
Told Is told lint = Is × (lint ≡ told)

-- the same of a test
abbrev pub Tested : Bool → Lint → Lint → Type 0
Tested test told lint = Told (test ≡ true) told lint

-- it is one of the one sort or of the other
abbrev pub Either : (Lint → Type 0) → (Lint → Type 0) → Lint → Type 0
Either Is IsOther lint = Is lint ⊎ IsOther lint

-- it is one of so many numbers
pub record Among (count : ℕ) (Is : ℕ → Lint → Type 0) (lint : Lint) : Type 0 where
  pub number : ℕ
  pub below : number < count
  pub is : Is number lint

-- a list is longer by some of a sort: each of these is one, and each one is among them where the list is not full
pub record Adds (Is : Lint → Type 0) (old new : List Lint) : Type 0 where
  pub more : List Lint
  pub same : new ≡ old ++ more
  pub each : All Is more
  pub all : length new < most_lints → (lint : Lint) → Is lint → Contains more lint
