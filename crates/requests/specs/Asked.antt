-- What a request asks for, as the definitions have it: a query by its terms, kinds by their numbers, a name by its bytes.
use Rattle.std.specs.Prelude.{ℕ, List}
use Rattle.model.specs.declared.entities.Entity.{Entity as Id}
use Rattle.model.specs.access.Query.{Term}
use Rattle.model.specs.sessions.Inputs as inputs
use Rattle.kinds.specs.Res.{event_number}
use Rattle.body.specs.Inputs.{input_of}
use Rattle.requests.specs.declared.request.Request.{Request}
use Rattle.requests.specs.declared.request.Request.TheVariants as request

-- what is asked for
pub data Asked : Type 0 where
  Hello : Asked
  Run : (times : ℕ) → Asked
  Put : inputs.Input → Asked
  World : Asked
  Entity : Id → Asked
  Query : (since : ℕ) → (terms : List Term) → Asked
  Resources : Asked
  Events : (kind : ℕ) → (from : ℕ) → Asked
  Values : Asked
  Save : Asked
  Digest : Asked
  Mark : (name : List ℕ) → Asked
  Back : (name : List ℕ) → Asked
  Forget : (name : List ℕ) → Asked
  Quit : Asked

-- what a request asks for
abbrev pub asked_of : Request → Asked
asked_of request.Hello = Hello
asked_of (request.Run times) = Run times
asked_of (request.Put input) = Put (input_of input)
asked_of request.World = World
asked_of (request.Entity id) = Entity id
asked_of (request.Query since terms) = Query since terms
asked_of request.Resources = Resources
asked_of (request.Events event from) = Events (event_number event) from
asked_of request.Values = Values
asked_of request.Save = Save
asked_of request.Digest = Digest
asked_of (request.Mark name) = Mark name.now
asked_of (request.Back name) = Back name.now
asked_of (request.Forget name) = Forget name.now
asked_of request.Quit = Quit
