-- Findings as lines of JSON.
use Rattle.std.specs.Prelude.{ℕ, ◌≡◌, ◌≤◌, List, Option, Some, None, codes}
use Rattle.serde_json.specs.Data.{Data, depth, null, string}
use Rattle.serde_json.specs.Find.{get}
use Rattle.serde_json.specs.Read.{read}
use Rattle.serde_json.specs.View.{view}
use Rattle.serde_json.specs.declared.value.Value.{Value}
use Rattle.diagnostics.specs.declared.finding.Level.{Level}
use Rattle.diagnostics.specs.declared.finding.Level.TheVariants as level

abbrev pub level_word : Level → List ℕ
level_word level.Error = codes "error"
level_word level.Warning = codes "warning"

-- a line that is told, or null for none
abbrev pub said_line : Option (List ℕ) → Data
said_line None = null
said_line (Some line) = string line

-- a value is an object with this code, this level and this line, whose values nest no deeper than the readers of JSON go
pub record HasHead (code : List ℕ) (level : Level) (line : Data) (value : Value) : Type 0 where
  pub code_is : get (codes "code") (view value) ≡ Some (string code)
  pub level_is : get (codes "level") (view value) ≡ Some (string (level_word level))
  pub line_is : get (codes "line") (view value) ≡ Some line
  pub shallow : depth (view value) ≤ 3

-- a text reads as an object with this code, this level and this line
pub record IsSaid (code : List ℕ) (level : Level) (line : Data) (text : List ℕ) : Type 0 where
  pub said : Data
  pub reads : read text ≡ Some said
  pub code_is : get (codes "code") said ≡ Some (string code)
  pub level_is : get (codes "level") said ≡ Some (string (level_word level))
  pub line_is : get (codes "line") said ≡ Some line
