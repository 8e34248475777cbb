-- Sessions of program files, as they begin.
use Rattle.std.specs.Prelude.{ℕ, ◌≡◌, List, []}
use Rattle.live_world.specs.Greeting.{IsGreeting}
use Rattle.program.specs.Hosted.{IsEngineOf}
use Rattle.script.specs.declared.script_body.ScriptBody.{ScriptBody}
use Rattle.session.specs.Live.{Live}
use Rattle.sha2.specs.Sha256.{sha256}

-- a session of a file with these bytes: the engine of the file, nothing kept, its digest, and its greeting
pub record IsOpened (text : List ℕ) (workers : ℕ) (live : Live ScriptBody) : Type 0 where
  pub engine : IsEngineOf text live.engine
  pub marks : live.marks ≡ []
  pub file : live.file ≡ sha256 text
  pub greeting : IsGreeting (sha256 text) live.engine.schedule workers live.greeting
