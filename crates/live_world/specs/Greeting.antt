-- The lines with which a host is greeted.
use Rattle.std.specs.Prelude.{ℕ, ◌≡◌, ◌↔◌, Bool, true, false, cond, List, ◌∷◌, [], ◌++◌, length, codes}
use Rattle.std.specs.Fmt.{decimal}
use Rattle.hex.specs.Hex.{encode_lower}
use Rattle.model.specs.steps.Ambiguity.{HasNoFilter, Settled}
use Rattle.model.specs.steps.Schedule.{Schedule}

-- the word of an answer
abbrev pub word_of : Bool → List ℕ
word_of answer = cond answer (codes "yes") (codes "no")

-- a line of a name and a text
abbrev pub line_of : List ℕ → List ℕ → List ℕ
line_of name text = name ++ 32 ∷ text ++ 10 ∷ []

-- the lines of a file with this digest
abbrev pub greeting_text : List ℕ → ℕ → ℕ → Bool → Bool → List ℕ
greeting_text digest systems workers settled filters =
    line_of (codes "ecsplay") (codes "1")
    ++ line_of (codes "file") (encode_lower digest)
    ++ line_of (codes "systems") (decimal systems)
    ++ line_of (codes "workers") (decimal workers)
    ++ line_of (codes "settled") (word_of settled)
    ++ line_of (codes "filters") (word_of filters)

-- the greeting of a session of the file with this digest, with so many workers
pub record IsGreeting (digest : List ℕ) (s : Schedule) (workers : ℕ) (text : List ℕ) : Type 0 where
  pub settled : Bool
  pub settles : (settled ≡ true) ↔ Settled s
  pub filters : Bool
  pub filtered : (filters ≡ false) ↔ HasNoFilter s
  pub same : text ≡ greeting_text digest (length s.systems) workers settled filters
