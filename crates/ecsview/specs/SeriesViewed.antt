-- What `series` leaves.
use Rattle.std.specs.Prelude.{ℕ, ◌≡◌, ◌⊎◌, false, List, map, Option, Some, None, string_bytes}
use Rattle.std.specs.declared.alloc.Global.{Global}
use Rattle.std.specs.declared.string.String.{String}
use Rattle.command_line.specs.declared.args.Work.TheVariants as work
use Rattle.engine.specs.EngineValue.{EngineValue}
use Rattle.engine.specs.Meanings.{meanings}
use Rattle.engine.specs.declared.faults.RunFault.{RunFault}
use Rattle.engine.specs.declared.faults.RunFault.TheVariants as stop
use Rattle.program.specs.Hosted.{IsEngineOf}
use Rattle.program.specs.Refused.{IsRefusedBy, IsUnread}
use Rattle.program.specs.Served.{IsKept, Tells}
use Rattle.program.specs.Setup.{script_means}
use Rattle.program.specs.declared.fault.Fault.{Fault}
use Rattle.program.specs.declared.fault.Fault.TheVariants.{ClockSpent, IdsSpent, BodyRefused, Memory, NoWorker}
use Rattle.script.specs.declared.script_body.ScriptBody.{ScriptBody}
use Rattle.series.specs.Chart.{HasChart}
use Rattle.series.specs.Csv.{csv_text}
use Rattle.series.specs.Rows.{AreRows, AreStoppedWithin}
use Rattle.series.specs.declared.rows.Row.{Row}
use Rattle.ecsview.specs.Meanings.{IsTextPrinted}
use Rattle.ecsview.specs.Recorded.{IsReadOf}
use Rattle.ecsview.specs.declared.series_args.Format.{Format}
use Rattle.ecsview.specs.declared.series_args.Format.TheVariants.{Csv, Svg}
use Rattle.ecsview.specs.declared.series_args.SeriesArgs.{SeriesArgs}

-- the fault that tells why runs stop
abbrev pub told_of : RunFault → Fault
told_of stop.Memory = Memory
told_of stop.Spoiled = Memory
told_of stop.ClockSpent = ClockSpent
told_of stop.IdsSpent = IdsSpent
told_of stop.NoWorker = NoWorker
told_of (stop.BodyFault n) = BodyRefused

-- rows as lines with commas between the values, or as a chart
abbrev pub IsForm : Format → List (List ℕ) → List Row → String Global → Type 0
IsForm Csv names rows text = string_bytes text ≡ csv_text names rows
IsForm Svg names rows text = HasChart names rows text

abbrev pub AreTold : SeriesArgs → List Row → String Global → Type 0
AreTold args rows text = IsForm args.format (map (λ name. name.now) args.names.items) rows text

-- an engine as the runs of a file begin, of which these bytes are known
pub record IsBegun (file : Option (List ℕ)) (engine : EngineValue ScriptBody) : Type 0 where
  pub bytes : List ℕ
  pub read : IsReadOf file bytes
  pub begun : IsEngineOf bytes engine

-- a file with these bytes is refused as `ecsrun run` refuses it
pub record IsFileRefused (file : Option (List ℕ)) (fault : Fault) : Type 0 where
  pub bytes : List ℕ
  pub read : IsReadOf file bytes
  pub refused : IsRefusedBy false 1 (Some bytes) None (work.Run 0 0 false) fault

-- it has no engine: it is not read, or refused
abbrev pub IsUnbegun : Option (List ℕ) → Fault → Type 0
IsUnbegun file fault = IsUnread file fault ⊎ IsFileRefused file fault

-- the text tells the rows of the runs of an engine
pub record AreRowsTold (args : SeriesArgs) (engine : EngineValue ScriptBody) (text : String Global) : Type 0 where
  pub rows : List Row
  pub are : AreRows engine.schedule (meanings script_means engine.schedule engine.bodies) args.series.items args.every args.times engine.state rows
  pub told : AreTold args rows text

-- the runs of an engine stop, with the fault of which this one tells; or an allocation fails
pub record IsStop (args : SeriesArgs) (engine : EngineValue ScriptBody) (fault : Fault) : Type 0 where
  pub stop : RunFault
  pub stopped : AreStoppedWithin engine.schedule (meanings script_means engine.schedule engine.bodies) args.times engine.state stop
  pub told : fault ≡ told_of stop

abbrev pub AreRowsStopped : SeriesArgs → EngineValue ScriptBody → Fault → Type 0
AreRowsStopped args engine fault = IsStop args engine fault ⊎ (fault ≡ Memory)

-- the same of a file
pub record IsSeriesText (args : SeriesArgs) (file : Option (List ℕ)) (text : String Global) : Type 0 where
  pub engine : EngineValue ScriptBody
  pub begun : IsBegun file engine
  pub told : AreRowsTold args engine text

abbrev pub IsSeriesRefused : SeriesArgs → Option (List ℕ) → Fault → Type 0
IsSeriesRefused args file fault = IsUnbegun file fault ⊎ ((engine : EngineValue ScriptBody) × IsBegun file engine × AreRowsStopped args engine fault)

-- the text of the rows was printed, as far as the output took it
pub record IsSeriesPrinted (args : SeriesArgs) (file : Option (List ℕ)) (status : ℕ) (out faults : Option (List ℕ) × Option (List ℕ)) : Type 0 where
  pub text : String Global
  pub is : IsSeriesText args file text
  pub printed : IsTextPrinted (string_bytes text) status out faults

-- the work is refused with a fault, which is told, and nothing is printed
pub record IsSeriesUntold (args : SeriesArgs) (file : Option (List ℕ)) (status : ℕ) (out faults : Option (List ℕ) × Option (List ℕ)) : Type 0 where
  pub fault : Fault
  pub reason : IsSeriesRefused args file fault
  pub told : Tells fault status faults
  pub kept : IsKept out

-- one of these
abbrev pub IsSeriesViewed : SeriesArgs → Option (List ℕ) → ℕ → (Option (List ℕ) × Option (List ℕ)) → (Option (List ℕ) × Option (List ℕ)) → Type 0
IsSeriesViewed args file status out faults = IsSeriesPrinted args file status out faults ⊎ IsSeriesUntold args file status out faults
