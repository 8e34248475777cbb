-- What is told of a script that is checked.
use Rattle.std.specs.Prelude.{Option, Some, None, Result, Ok, Err}
use Rattle.script.specs.declared.fault.ScriptFault.{ScriptFault}
use Rattle.script.specs.declared.fault.CheckFault.{CheckFault}
use Rattle.script.specs.declared.fault.CheckFault.TheVariants.{Script, Memory}

-- the fault of a script that is told, if any
abbrev pub fault_told : {A : Type 0} → Result A CheckFault → Option ScriptFault
fault_told (Ok script) = None
fault_told (Err (Script fault)) = Some fault
fault_told (Err Memory) = None
