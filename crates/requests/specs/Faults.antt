-- Why a line is no request.
use Rattle.std.specs.Prelude.{◌≡◌, ℕ, List, codes}
use Rattle.parsing.specs.Reads.{SpellsNone}
use Rattle.tokens.specs.FirstWord.{IsFirstWord}
use Rattle.parsing.specs.declared.read_error.ReadError.{ReadError}
use Rattle.parsing.specs.declared.read_error.ReadError.TheVariants as read_error
use Rattle.requests.specs.declared.command.Command.{Command}
use Rattle.requests.specs.declared.command.Command.TheVariants as command
use Rattle.requests.specs.declared.request.RequestFault.{RequestFault}
use Rattle.requests.specs.declared.request.RequestFault.TheVariants.{Unknown, Query, Memory}
use Rattle.requests.specs.Grammar.{BeginsWithTick, Asks, IsRequest}

-- a text begins with a tick
abbrev pub HasTick : List ℕ → Type 0
HasTick text = (since : ℕ) × (rest : List ℕ) × BeginsWithTick since rest text

-- the line begins as a request for the rows of a query does: with `query` and a tick
abbrev pub BeginsQuery : List ℕ → Type 0
BeginsQuery line = (rest : List ℕ) × IsFirstWord (codes "query", rest) line × HasTick rest

-- what a fault says of a line: it asks for nothing, and `Query` says that it begins as a request for rows does. An allocation may fail at
-- any time
abbrev pub IsRequestFault : List ℕ → RequestFault → Type 0
IsRequestFault line Unknown = SpellsNone IsRequest line × (BeginsQuery line → ⊥)
IsRequestFault line Query = SpellsNone IsRequest line × BeginsQuery line
IsRequestFault line Memory = Unit {0}

-- the same of the text behind a command
abbrev pub IsAskFault : Command → List ℕ → RequestFault → Type 0
IsAskFault which text Unknown = SpellsNone (Asks which) text × (which ≡ command.Query → HasTick text → ⊥)
IsAskFault which text Query = SpellsNone (Asks which) text × (which ≡ command.Query) × HasTick text
IsAskFault which text Memory = Unit {0}

-- the fault of a request that is not read
abbrev pub fault_of_read : ReadError → RequestFault
fault_of_read read_error.Outside = Unknown
fault_of_read read_error.Memory = Memory
