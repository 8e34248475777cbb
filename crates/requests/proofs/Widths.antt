-- The components that a request or a line asks for have as many words as their kinds have fields.
use Rattle.std.proofs.Common.{◌≡◌, ℕ, List, [], ◌∷◌, length, map, sym, subst}
use Rattle.std.specs.List.{AllByRecursion}
use Rattle.model.specs.sessions.Inputs.{HasWidths}
use Rattle.model.specs.state.Loaded.{Given}
use Rattle.kinds.specs.declared.value.Value.{Value}
use Rattle.kinds.specs.Components.{widths}
use Rattle.kinds.proofs.Wide.{value_width}
use Rattle.body.specs.Inputs.{given_by, input_of}
use Rattle.body.specs.declared.input.Input.{Input}
use Rattle.body.specs.declared.input.Input.TheVariants as the
use Rattle.requests.specs.Asked.{Asked}
use Rattle.requests.specs.Grammar.{AreArguments, AreComponent, AreComponents, Asks}
use Rattle.requests.specs.declared.command.Command.{Command}
use Rattle.requests.specs.declared.command.Command.TheVariants as command
use Rattle.requests.specs.declared.request.Request.TheVariants as request
use Rattle.requests.specs.Widths.{AskedHasWidths, LinesHaveWidths, RequestsHaveWidths}

-- ---- requests

-- values
all_wide : (values : List Value) → AllByRecursion (λ g. length g.words ≡ widths g.kind) (map given_by values)
all_wide [] = tt
all_wide (value ∷ values) = (value_width value, all_wide values)

input_wide : (input : Input) → HasWidths widths (input_of input)
input_wide (the.SetResource res value) = tt
input_wide (the.Emit event value) = tt
input_wide (the.Spawn values) = all_wide values.items
input_wide (the.Insert e value) = value_width value
input_wide (the.Remove e kind) = tt
input_wide (the.Despawn e) = tt

-- what is asked for
pub requests_have_widths : RequestsHaveWidths
requests_have_widths (request.Put input) = input_wide input
requests_have_widths request.Hello = tt
requests_have_widths (request.Run times) = tt
requests_have_widths request.World = tt
requests_have_widths (request.Entity id) = tt
requests_have_widths (request.Query since terms) = tt
requests_have_widths request.Resources = tt
requests_have_widths (request.Events event from) = tt
requests_have_widths request.Values = tt
requests_have_widths request.Save = tt
requests_have_widths request.Digest = tt
requests_have_widths (request.Mark name) = tt
requests_have_widths (request.Back name) = tt
requests_have_widths (request.Forget name) = tt
requests_have_widths request.Quit = tt

-- ---- lines

-- the words of a component
component_wide : (given : Given) (words : List (List ℕ)) → AreComponent given words → length given.words ≡ widths given.kind
component_wide given [] are = absurd are
component_wide given (name ∷ words) are = are.1.1

components_wide : (list : List Given) (words : List (List ℕ)) → AreComponents list words → AllByRecursion (λ g. length g.words ≡ widths g.kind) list
components_wide [] words are = tt
components_wide (given ∷ list) words are = (component_wide given are.0 are.3, components_wide list are.1 are.4)

-- what is equal to what has widths has them
wide_as : (asked other : Asked) → asked ≡ other → AskedHasWidths other → AskedHasWidths asked
wide_as asked other same wide = subst AskedHasWidths (sym same) wide

-- what the words behind a command ask for
arguments_wide : (which : Command) (asked : Asked) (words : List (List ℕ)) → AreArguments which asked words → AskedHasWidths asked
arguments_wide command.Hello asked words are = wide_as asked _ are.1 tt
arguments_wide command.Run asked [] are = absurd are
arguments_wide command.Run asked (word ∷ []) are = wide_as asked _ are.2 tt
arguments_wide command.Run asked (word ∷ next ∷ words) are = absurd are
arguments_wide command.Set asked [] are = absurd are
arguments_wide command.Set asked (name ∷ []) are = absurd are
arguments_wide command.Set asked (name ∷ word ∷ []) are = wide_as asked _ are.4 tt
arguments_wide command.Set asked (name ∷ word ∷ next ∷ words) are = absurd are
arguments_wide command.Emit asked [] are = absurd are
arguments_wide command.Emit asked (name ∷ []) are = absurd are
arguments_wide command.Emit asked (name ∷ word ∷ []) are = wide_as asked _ are.4 tt
arguments_wide command.Emit asked (name ∷ word ∷ next ∷ words) are = absurd are
arguments_wide command.Insert asked [] are = absurd are
arguments_wide command.Insert asked (id ∷ words) are = wide_as asked _ are.4 (component_wide are.1 words are.3)
arguments_wide command.Remove asked [] are = absurd are
arguments_wide command.Remove asked (name ∷ []) are = absurd are
arguments_wide command.Remove asked (name ∷ word ∷ []) are = wide_as asked _ are.4 tt
arguments_wide command.Remove asked (name ∷ word ∷ next ∷ words) are = absurd are
arguments_wide command.Despawn asked [] are = absurd are
arguments_wide command.Despawn asked (word ∷ []) are = wide_as asked _ are.2 tt
arguments_wide command.Despawn asked (word ∷ next ∷ words) are = absurd are
arguments_wide command.World asked words are = wide_as asked _ are.1 tt
arguments_wide command.Entity asked [] are = absurd are
arguments_wide command.Entity asked (word ∷ []) are = wide_as asked _ are.2 tt
arguments_wide command.Entity asked (word ∷ next ∷ words) are = absurd are
arguments_wide command.Resources asked words are = wide_as asked _ are.1 tt
arguments_wide command.Events asked [] are = absurd are
arguments_wide command.Events asked (name ∷ []) are = absurd are
arguments_wide command.Events asked (name ∷ word ∷ []) are = wide_as asked _ are.4 tt
arguments_wide command.Events asked (name ∷ word ∷ next ∷ words) are = absurd are
arguments_wide command.Values asked words are = wide_as asked _ are.1 tt
arguments_wide command.Save asked words are = wide_as asked _ are.1 tt
arguments_wide command.Digest asked words are = wide_as asked _ are.1 tt
arguments_wide command.Mark asked [] are = absurd are
arguments_wide command.Mark asked (word ∷ []) are = wide_as asked _ are.1 tt
arguments_wide command.Mark asked (word ∷ next ∷ words) are = absurd are
arguments_wide command.Back asked [] are = absurd are
arguments_wide command.Back asked (word ∷ []) are = wide_as asked _ are.1 tt
arguments_wide command.Back asked (word ∷ next ∷ words) are = absurd are
arguments_wide command.Forget asked [] are = absurd are
arguments_wide command.Forget asked (word ∷ []) are = wide_as asked _ are.1 tt
arguments_wide command.Forget asked (word ∷ next ∷ words) are = absurd are
arguments_wide command.Quit asked words are = wide_as asked _ are.1 tt
arguments_wide command.Spawn asked words are = absurd are
arguments_wide command.Query asked words are = absurd are

-- what a command and the text behind it ask for
asks_wide : (which : Command) (asked : Asked) (text : List ℕ) → Asks which asked text → AskedHasWidths asked
asks_wide command.Spawn asked text asks = wide_as asked _ asks.2.2 (components_wide asks.2.0 asks.0 asks.2.1)
asks_wide command.Query asked text asks = wide_as asked _ asks.6 tt
asks_wide command.Hello asked text asks = arguments_wide command.Hello asked asks.0 asks.2
asks_wide command.Run asked text asks = arguments_wide command.Run asked asks.0 asks.2
asks_wide command.Set asked text asks = arguments_wide command.Set asked asks.0 asks.2
asks_wide command.Emit asked text asks = arguments_wide command.Emit asked asks.0 asks.2
asks_wide command.Insert asked text asks = arguments_wide command.Insert asked asks.0 asks.2
asks_wide command.Remove asked text asks = arguments_wide command.Remove asked asks.0 asks.2
asks_wide command.Despawn asked text asks = arguments_wide command.Despawn asked asks.0 asks.2
asks_wide command.World asked text asks = arguments_wide command.World asked asks.0 asks.2
asks_wide command.Entity asked text asks = arguments_wide command.Entity asked asks.0 asks.2
asks_wide command.Resources asked text asks = arguments_wide command.Resources asked asks.0 asks.2
asks_wide command.Events asked text asks = arguments_wide command.Events asked asks.0 asks.2
asks_wide command.Values asked text asks = arguments_wide command.Values asked asks.0 asks.2
asks_wide command.Save asked text asks = arguments_wide command.Save asked asks.0 asks.2
asks_wide command.Digest asked text asks = arguments_wide command.Digest asked asks.0 asks.2
asks_wide command.Mark asked text asks = arguments_wide command.Mark asked asks.0 asks.2
asks_wide command.Back asked text asks = arguments_wide command.Back asked asks.0 asks.2
asks_wide command.Forget asked text asks = arguments_wide command.Forget asked asks.0 asks.2
asks_wide command.Quit asked text asks = arguments_wide command.Quit asked asks.0 asks.2

-- what a line asks for
pub lines_have_widths : LinesHaveWidths
lines_have_widths line asked is = asks_wide is.0 asked is.1 is.3
