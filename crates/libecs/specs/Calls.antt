-- How the calls of C end, and what they leave.
use Rattle.std.specs.Prelude.{ℕ, ◌≡◌, ◌<◌, ◌≤◌, false, List, [], ◌++◌, drop, length, Option, Some, None}
use Rattle.command_line.specs.declared.args.Work.TheVariants as work
use Rattle.libecs.specs.declared.calls.Status.{Status}
use Rattle.libecs.specs.declared.calls.Status.TheVariants.{Done, Refused, Closed, Memory, Open}
use Rattle.live_world.specs.Opened.{IsOpened}
use Rattle.live_world.specs.Sent.{HasAsked, told_in}
use Rattle.live_world.specs.declared.live_world.LiveWorld.{LiveWorld}
use Rattle.program.specs.Fault.{fault_text, status_of}
use Rattle.program.specs.Refused.{IsRefusedBy}
use Rattle.program.specs.declared.fault.Fault.{Fault}
use Rattle.streams.specs.Writing.{line_of}

-- the numbers in C
abbrev pub status_number : Status → ℕ
status_number Done = 0
status_number Refused = 1
status_number Closed = 2
status_number Memory = 3
status_number Open = 4

-- a call ended as its number says
abbrev pub EndsAs : (Status → Type 0) → ℕ → Type 0
EndsAs Ended number = (status : Status) × (number ≡ status_number status) × Ended status

-- ---- texts

-- a text was given to a caller: it stands at the front of the room that it has, where it fits, and how long it is
-- was told. Nothing else was written
pub record IsGiven (text : List ℕ) (room : List ℕ × List ℕ) (wanted : ℕ) : Type 0 where
  pub long : wanted ≡ length text
  pub fits : length text ≤ length room.0 → room.1 ≡ text ++ drop (length text) room.0
  pub lacks : length room.0 < length text → room.1 ≡ room.0

-- a text was given, or none where an allocation failed for it
abbrev pub HasTold : List ℕ → (List ℕ × List ℕ) → ℕ → Status → Type 0
HasTold text room wanted Done = IsGiven text room wanted
HasTold text room wanted Memory = IsGiven [] room wanted
HasTold text room wanted _ = ⊥

-- ---- opening

-- a world as a program file begins it
pub record IsNew (file : List ℕ) (world : LiveWorld) : Type 0 where
  pub session : IsOpened file 0 world.session
  pub untold : world.told ≡ None

-- why a program file is not opened
abbrev pub IsUnopened : List ℕ → Fault → Type 0
IsUnopened file fault = IsRefusedBy false 1 (Some file) None (work.Run 0 0 false) fault

-- a fault was told: by its line where it is one of the file, or as a failed allocation
abbrev pub IsRefusal : Fault → (List ℕ × List ℕ) → ℕ → Status → Type 0
IsRefusal fault room wanted Refused = (status_of fault ≡ 1) × IsGiven (line_of (fault_text fault)) room wanted
IsRefusal fault room wanted Memory = IsGiven [] room wanted
IsRefusal fault room wanted _ = ⊥

-- a handle was given the world of a program file; or it stays as it is
abbrev pub HasOpened : List ℕ → Option LiveWorld → Option LiveWorld → (List ℕ × List ℕ) → ℕ → Status → Type 0
HasOpened file old new room wanted Done = (old ≡ None) × ((world : LiveWorld) × (new ≡ Some world) × IsNew file world) × IsGiven [] room wanted
HasOpened file old new room wanted Open = ((world : LiveWorld) × (old ≡ Some world)) × (new ≡ old) × IsGiven [] room wanted
HasOpened file old new room wanted Closed = ⊥
HasOpened file old new room wanted status = (new ≡ old) × ((fault : Fault) × IsUnopened file fault × IsRefusal fault room wanted status)

-- ---- requests

-- a world did what bytes ask for, and its reply was given
pub record HasDone (sent : List ℕ) (before : LiveWorld) (new : Option LiveWorld) (room : List ℕ × List ℕ) (wanted : ℕ) (status : Status) : Type 0 where
  pub after : LiveWorld
  pub is : new ≡ Some after
  pub asked : HasAsked sent before after
  pub told : HasTold (told_in after) room wanted status

-- the same of a handle, where a world is open
abbrev pub HasAnswered : List ℕ → Option LiveWorld → Option LiveWorld → (List ℕ × List ℕ) → ℕ → Status → Type 0
HasAnswered sent None new room wanted status = (status ≡ Closed) × (new ≡ None) × IsGiven [] room wanted
HasAnswered sent (Some before) new room wanted status = HasDone sent before new room wanted status

-- the last reply of a world was given once more
abbrev pub HasReplied : Option LiveWorld → (List ℕ × List ℕ) → ℕ → Status → Type 0
HasReplied None room wanted status = (status ≡ Closed) × IsGiven [] room wanted
HasReplied (Some world) room wanted status = HasTold (told_in world) room wanted status
