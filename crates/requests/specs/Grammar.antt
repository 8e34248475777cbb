-- The text of a request: the word of a command, and what it needs behind it. Words have one or more spaces between, and any number at
-- either end.
use Rattle.std.specs.Prelude.{◌≡◌, ℕ, ℤ, ◌≤◌, List, [], ◌∷◌, ◌++◌, length, None}
use Rattle.std.specs.List.{AllZip}
use Rattle.model.specs.declared.entities.Entity.{Entity as Id}
use Rattle.model.specs.access.Query.{Term}
use Rattle.model.specs.access.QueryFaults.{query_fault}
use Rattle.model.specs.state.Loaded.{Given}
use Rattle.model.specs.sessions.Inputs.Input.{SetResource, Emit, Spawn, Insert, Remove, Despawn}
use Rattle.kinds.specs.declared.kind.Kind.{Kind}
use Rattle.kinds.specs.declared.res.Res.{Res}
use Rattle.kinds.specs.declared.res.Event.{Event}
use Rattle.kinds.specs.Kind.{IsKind, kind_number}
use Rattle.kinds.specs.Res.{IsRes, res_number, IsEvent, event_number}
use Rattle.kinds.specs.Components.{widths}
use Rattle.parsing.specs.Reads.{SpellsSeen}
use Rattle.parsing.specs.Words.{ByWords}
use Rattle.parsing.specs.Integer.{IsInteger, IsNumber}
use Rattle.tokens.specs.FirstWord.{IsFirstWord}
use Rattle.tokens.specs.LongNumber.{IsLongNumber}
use Rattle.tokens.specs.Name.{IsName}
use Rattle.query.specs.Grammar.{IsQuery}
use Rattle.requests.specs.declared.command.Command.{Command}
use Rattle.requests.specs.declared.command.Command.TheVariants as command
use Rattle.requests.specs.Asked.{Asked}
use Rattle.requests.specs.Asked.Asked.{Hello, Run, Put, World, Entity, Query, Resources, Events, Values, Save, Digest, Mark, Back, Forget, Quit}
use Rattle.requests.specs.Commands.{command_word}

-- ---- words

-- how often to run: up to 4,096 times
abbrev pub IsTimes : ℕ → List ℕ → Type 0
IsTimes n word = IsNumber n word × (n ≤ 4096)

-- an id: its index, a v, its generation
abbrev pub IsId : Id → List ℕ → Type 0
IsId e word = (index : List ℕ) × (generation : List ℕ) × IsNumber e.index index × IsNumber e.generation generation × (word ≡ index ++ (118 ∷ generation))

-- the fields of a component of a kind: as many integers as the kind has fields
abbrev pub AreFields : ℕ → List ℤ → List (List ℕ) → Type 0
AreFields kind fields words = AllZip IsInteger fields words × (length fields ≡ widths kind)

-- a component: the name of its kind, and its fields
abbrev pub AreComponent : Given → List (List ℕ) → Type 0
AreComponent given [] = ⊥
AreComponent given (name ∷ words) = SpellsSeen kind_number IsKind given.kind name × AreFields given.kind given.words words

-- components, one behind the other
abbrev pub AreComponents : List Given → List (List ℕ) → Type 0
AreComponents [] words = words ≡ []
AreComponents (given ∷ more) words = (front : List (List ℕ)) × (rest : List (List ℕ)) × (words ≡ front ++ rest) × AreComponent given front × AreComponents more rest

-- ---- what commands ask for

-- a command that needs no word behind it
abbrev pub IsBare : Asked → Asked → List (List ℕ) → Type 0
IsBare bare asked words = (words ≡ []) × (asked ≡ bare)

-- a command and the words behind it ask for this. What `spawn` and `query` need is below
abbrev pub AreArguments : Command → Asked → List (List ℕ) → Type 0
AreArguments command.Hello asked words = IsBare Hello asked words
AreArguments command.Run asked (word ∷ []) = (n : ℕ) × IsTimes n word × (asked ≡ Run n)
AreArguments command.Set asked (name ∷ word ∷ []) = (res : Res) × (z : ℤ) × IsRes res name × IsInteger z word × (asked ≡ Put (SetResource (res_number res) z))
AreArguments command.Emit asked (name ∷ word ∷ []) = (event : Event) × (z : ℤ) × IsEvent event name × IsInteger z word × (asked ≡ Put (Emit (event_number event) z))
AreArguments command.Insert asked (id ∷ words) = (e : Id) × (given : Given) × IsId e id × AreComponent given words × (asked ≡ Put (Insert e given.kind given.words))
AreArguments command.Remove asked (id ∷ name ∷ []) = (e : Id) × (kind : Kind) × IsId e id × IsKind kind name × (asked ≡ Put (Remove e (kind_number kind)))
AreArguments command.Despawn asked (id ∷ []) = (e : Id) × IsId e id × (asked ≡ Put (Despawn e))
AreArguments command.World asked words = IsBare World asked words
AreArguments command.Entity asked (id ∷ []) = (e : Id) × IsId e id × (asked ≡ Entity e)
AreArguments command.Resources asked words = IsBare Resources asked words
AreArguments command.Events asked (name ∷ word ∷ []) = (event : Event) × (from : ℕ) × IsEvent event name × IsLongNumber from word × (asked ≡ Events (event_number event) from)
AreArguments command.Values asked words = IsBare Values asked words
AreArguments command.Save asked words = IsBare Save asked words
AreArguments command.Digest asked words = IsBare Digest asked words
AreArguments command.Mark asked (name ∷ []) = IsName name × (asked ≡ Mark name)
AreArguments command.Back asked (name ∷ []) = IsName name × (asked ≡ Back name)
AreArguments command.Forget asked (name ∷ []) = IsName name × (asked ≡ Forget name)
AreArguments command.Quit asked words = IsBare Quit asked words
AreArguments _ _ _ = ⊥

-- any number of components ask for a new entity
abbrev pub AreSpawned : Asked → List (List ℕ) → Type 0
AreSpawned asked words = (given : List Given) × AreComponents given words × (asked ≡ Put (Spawn given))

-- a text begins with the word of a tick, and this follows
abbrev pub BeginsWithTick : ℕ → List ℕ → List ℕ → Type 0
BeginsWithTick since rest text = (word : List ℕ) × IsFirstWord (word, rest) text × IsLongNumber since word

-- a tick, and the text of a query without fault, ask for its rows
abbrev pub IsRows : Asked → List ℕ → Type 0
IsRows asked text = (since : ℕ) × (rest : List ℕ) × (terms : List Term)
    × BeginsWithTick since rest text × IsQuery terms rest × (query_fault terms ≡ None) × (asked ≡ Query since terms)

-- a command and the text behind it ask for this
abbrev pub Asks : Command → Asked → List ℕ → Type 0
Asks command.Spawn asked text = ByWords AreSpawned asked text
Asks command.Query asked text = IsRows asked text
Asks which asked text = ByWords (AreArguments which) asked text

-- the line asks for this
abbrev pub IsRequest : Asked → List ℕ → Type 0
IsRequest asked line = (which : Command) × (rest : List ℕ) × IsFirstWord (command_word which, rest) line × Asks which asked rest
