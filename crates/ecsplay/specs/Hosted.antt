-- How sessions of program files end.
use Rattle.std.specs.Prelude.{ℕ, ◌≡◌, Bool, List, Option, Result, Ok, Err}
use Rattle.program.specs.Served.{IsKept, Tells}
use Rattle.program.specs.Setup.{script_means}
use Rattle.program.specs.declared.fault.Fault.{Fault}
use Rattle.program.specs.declared.fault.Fault.TheVariants as fault
use Rattle.script.specs.declared.script_body.ScriptBody.{ScriptBody}
use Rattle.session.specs.Live.{Live}
use Rattle.session.specs.Played.{IsPlayed, Streams}
use Rattle.session.specs.declared.play.PlayFault.{PlayFault}
use Rattle.session.specs.declared.play.PlayFault.TheVariants as play

-- what a session that ended early is reported as
abbrev pub fault_of_play : PlayFault → Fault
fault_of_play play.Read = fault.File
fault_of_play play.Record = fault.Write
fault_of_play play.Write = fault.Write
fault_of_play play.Memory = fault.Memory

-- the status of a session, and what is told of it
abbrev pub EndsWith : Result (Unit {0}) PlayFault → ℕ → (Option (List ℕ) × Option (List ℕ)) → Type 0
EndsWith (Ok done) status faults = (status ≡ 0) × IsKept faults
EndsWith (Err why) status faults = Tells (fault_of_play why) status faults

-- a session was played to its end, or to where its input, its record, its output or memory failed, which is told
pub record IsHosted (scope : Bool) (width : ℕ) (old new : Live ScriptBody) (before after : Streams) (status : ℕ) (faults : Option (List ℕ) × Option (List ℕ)) : Type 0 where
  pub result : Result (Unit {0}) PlayFault
  pub played : IsPlayed script_means scope width old new before after result
  pub ends : EndsWith result status faults
