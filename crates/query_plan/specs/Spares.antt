-- How many values are kept for use again.
use Rattle.std.specs.Prelude.{ℕ, suc, ◌≡◌, ◌⊎◌, Option, Some, None}

-- one is taken where one is kept, else none
abbrev pub IsTaken : {T : Type 0} → ℕ → Option T → ℕ → Type 0
IsTaken old None new = (old ≡ 0) × (new ≡ 0)
IsTaken old (Some spare) new = old ≡ suc new

-- one more is kept, or none where there is no memory for its place
abbrev pub IsGiven : ℕ → ℕ → Type 0
IsGiven old new = (new ≡ old) ⊎ (new ≡ suc old)
