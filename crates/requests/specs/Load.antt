-- The text of the request behind which the text of a state follows.
use Rattle.std.specs.Prelude.{ℕ, Bool, true, false, List, codes}
use Rattle.parsing.specs.Integer.{IsNumber}
use Rattle.parsing.specs.Reads.{SpellsNone}
use Rattle.parsing.specs.Words.{AreSpaces}
use Rattle.tokens.specs.FirstWord.{IsFirstWord}
use Rattle.requests.specs.declared.load.Load.{Load}

-- how it ends: with no word, or with `anyway` alone where the state may be one of another program file
abbrev pub EndsLoad : Bool → List ℕ → Type 0
EndsLoad false text = SpellsNone IsFirstWord text
EndsLoad true text = (rest : List ℕ) × IsFirstWord (codes "anyway", rest) text × AreSpaces rest

-- how many lines follow, and how it ends
abbrev pub IsBehindLoad : Load → List ℕ → Type 0
IsBehindLoad load text = (lines : List ℕ) × (rest : List ℕ) × IsFirstWord (lines, rest) text × IsNumber load.lines lines × EndsLoad load.anyway rest

-- the line asks for this
abbrev pub IsLoad : Load → List ℕ → Type 0
IsLoad load line = (rest : List ℕ) × IsFirstWord (codes "load", rest) line × IsBehindLoad load rest
