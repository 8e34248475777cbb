-- The lines that follow a request.
use Rattle.std.specs.Prelude.{ℕ, ◌≡◌, ◌<◌, List, ◌∷◌, [], ◌++◌, length, flat_map, Option, Some, None, Result, Ok, Err, IfSome}
use Rattle.std.specs.List.{AllByRecursion}
use Rattle.std.specs.Io.KnownBytes.{Consumes}
use Rattle.streams.specs.declared.reading.ReadFault.{ReadFault}
use Rattle.streams.specs.Lines.{IsUnended}
use Rattle.session.specs.declared.body_lines.Follows.{Follows}
use Rattle.session.specs.declared.body_lines.Follows.TheVariants.{Whole, TooLong, Failed}

-- the most bytes of them
abbrev pub most_body_bytes : ℕ
most_body_bytes = 268435456

-- a text of so many lines, each with its end
abbrev pub ended : List ℕ → List ℕ
ended line = line ++ 10 ∷ []

pub record AreLines (count : ℕ) (text : List ℕ) : Type 0 where
  pub lines : List (List ℕ)
  pub many : length lines ≡ count
  pub each : AllByRecursion IsUnended lines
  pub spelled : text ≡ flat_map ended lines

-- a text of fewer lines, behind which the end of a line may be wanting
pub record AreFewer (count : ℕ) (text : List ℕ) : Type 0 where
  pub here : ℕ
  pub fewer : here < count
  pub front : List ℕ
  pub last : List ℕ
  pub lines : AreLines here front
  pub over : IsUnended last
  pub spelled : text ≡ front ++ last

-- what is known of a text: it is this one; or it is too long
abbrev pub IsKnownAs : Follows → List ℕ → List ℕ → Type 0
IsKnownAs Whole text body = body ≡ text
IsKnownAs TooLong text body = most_body_bytes < length text
IsKnownAs Failed text body = Unit {0}

-- so many lines were read
pub record HaveRead (count : ℕ) (before after : Option (List ℕ)) (body : List ℕ) (known : Follows) : Type 0 where
  pub text : List ℕ
  pub lines : AreLines count text
  pub read : Consumes before after text
  pub is : IsKnownAs known text body

-- so many lines were read; or the input ended before
abbrev pub ReadsBody : ℕ → Option (List ℕ) → Option (List ℕ) → List ℕ → Result (Option Follows) ReadFault → Type 0
ReadsBody count before after body (Ok (Some known)) = HaveRead count before after body known
ReadsBody count before after body (Ok None) = IfSome before (λ rest. AreFewer count rest × (after ≡ Some []))
ReadsBody count before after body (Err fault) = Unit {0}

-- ---- one line

-- a line was passed over, or the input ended before
abbrev pub PassesLine : Follows → Option (List ℕ) → Option (List ℕ) → Result (Option Follows) ReadFault → Type 0
PassesLine known before after (Ok (Some next)) = (next ≡ known) × ((line : List ℕ) × IsUnended line × Consumes before after (ended line))
PassesLine known before after (Ok None) = IfSome before (λ rest. IsUnended rest × (after ≡ Some []))
PassesLine known before after (Err fault) = Unit {0}

-- with this line, what is known of a text becomes what is known of the text with it
abbrev pub GoesOn : Follows → List ℕ → List ℕ → List ℕ → Follows → Type 0
GoesOn known old new line next = (text : List ℕ) → IsKnownAs known text old → IsKnownAs next (text ++ ended line) new

-- a line was read, or the input ended before
abbrev pub TakesLine : Follows → Option (List ℕ) → Option (List ℕ) → List ℕ → List ℕ → Result (Option Follows) ReadFault → Type 0
TakesLine known before after old new (Ok (Some next)) = (line : List ℕ) × IsUnended line × Consumes before after (ended line) × GoesOn known old new line next
TakesLine known before after old new (Ok None) = IfSome before (λ rest. IsUnended rest × (after ≡ Some []))
TakesLine known before after old new (Err fault) = Unit {0}
