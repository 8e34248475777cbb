-- A text among others.
use Rattle.std.specs.Prelude.{ℕ, ◌≡◌, List, Any}
use Rattle.std.specs.Borrow.{Bor}

-- a text is one of these
abbrev pub IsAmong : List ℕ → List (Bor (List ℕ)) → Type 0
IsAmong text known = Any (λ name. name.now ≡ text) known
