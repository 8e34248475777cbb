-- What is put in has as many words for each component as its kind has fields.
use Rattle.std.specs.Prelude.{ℕ, List}
use Rattle.model.specs.sessions.Inputs.{HasWidths}
use Rattle.kinds.specs.Components.{widths}
use Rattle.requests.specs.Asked.{Asked, asked_of}
use Rattle.requests.specs.Asked.Asked.{Put}
use Rattle.requests.specs.Grammar.{IsRequest}
use Rattle.requests.specs.declared.request.Request.{Request}

-- an input that is asked for has the widths of its kinds
abbrev pub AskedHasWidths : Asked → Type 0
AskedHasWidths (Put put) = HasWidths widths put
AskedHasWidths _ = Unit {0}

-- so it is in each request, and in each line that spells one
abbrev pub RequestsHaveWidths : Type 0
RequestsHaveWidths = (request : Request) → AskedHasWidths (asked_of request)

abbrev pub LinesHaveWidths : Type 0
LinesHaveWidths = (line : List ℕ) (asked : Asked) → IsRequest asked line → AskedHasWidths asked
