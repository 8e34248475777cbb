-- The exit status and the line of a fault, and the faults of reading, of a program file, of a schedule, of a script, of ids and of a trace's text.
use Rattle.std.specs.Prelude.{◌≡◌, ℕ, List, ◌∷◌, ◌++◌, codes, decimal, string_bytes}
use Rattle.program.specs.declared.fault.Fault.{Fault}
use Rattle.program.specs.declared.fault.Fault.TheVariants.{TooLong, Content, Build, Script, TraceTooLong, TraceLine, TraceOrder, TraceLists, BadStep, UnfinishedRun, WrongAnswer, WrongSets, ClockSpent, IdsSpent, BodyRefused, File, Write, Memory, NoWorker}
use Rattle.streams.specs.declared.reading.ReadFault.{ReadFault}
use Rattle.streams.specs.declared.reading.ReadFault.TheVariants as read
use Rattle.program_file.specs.declared.fault.FileFault.{FileFault}
use Rattle.program_file.specs.declared.fault.FileFault.TheVariants as file
use Rattle.program_file.specs.FaultText.{file_fault_text}
use Rattle.schedule_builder.specs.declared.fault.BuildFault.{BuildFault}
use Rattle.schedule_builder.specs.declared.fault.BuildFault.TheVariants as build
use Rattle.schedule_builder.specs.FaultText.{build_fault_text}
use Rattle.archetype_store.specs.declared.fault.GrantFault.{GrantFault}
use Rattle.archetype_store.specs.declared.fault.GrantFault.TheVariants as grant
use Rattle.script.specs.declared.fault.ScriptFault.{ScriptFault}
use Rattle.script.specs.Faults.{cause_text}
use Rattle.trace_checker.specs.declared.read.TextFault.{TextFault}
use Rattle.trace_checker.specs.declared.read.TextFault.TheVariants as text
use Rattle.trace_checker.specs.Verdicts.{fault_number}

-- 1 where the content is refused, 3 where input, output, memory or a thread fail
abbrev pub status_of : Fault → ℕ
status_of File = 3
status_of Write = 3
status_of Memory = 3
status_of NoWorker = 3
status_of _ = 1

-- the line of a fault, without its end
abbrev pub fault_text : Fault → List ℕ
fault_text TooLong = codes "refused P4"
fault_text (Content fault) = file_fault_text fault
fault_text (Build fault) = build_fault_text fault
fault_text (Script cause system block instruction) = codes "refused " ++ (cause_text cause ++ ((32 ∷ string_bytes system) ++ ((32 ∷ decimal block) ++ (32 ∷ decimal instruction))))
fault_text TraceTooLong = codes "refused L3"
fault_text (TraceLine line) = codes "refused L1 " ++ decimal line
fault_text (TraceOrder line) = codes "refused L2 " ++ decimal line
fault_text (TraceLists line) = codes "refused L4 " ++ decimal line
fault_text (BadStep run step fault) = codes "refused run " ++ (decimal run ++ (codes " step " ++ (decimal step ++ (codes " S" ++ decimal (fault_number fault)))))
fault_text (UnfinishedRun run) = codes "refused run " ++ (decimal run ++ codes " unfinished")
fault_text (WrongAnswer run step) = codes "refused run " ++ (decimal run ++ (codes " step " ++ (decimal step ++ codes " answer")))
fault_text (WrongSets run step) = codes "refused run " ++ (decimal run ++ (codes " step " ++ (decimal step ++ codes " sets")))
fault_text ClockSpent = codes "refused E2"
fault_text IdsSpent = codes "refused E3"
fault_text BodyRefused = codes "refused E6"
fault_text File = codes "error file"
fault_text Write = codes "error write"
fault_text Memory = codes "error memory"
fault_text NoWorker = codes "error worker"

-- what is told where the program file is not read to its end
abbrev pub fault_of_read : ReadFault → Fault
fault_of_read read.TooLong = TooLong
fault_of_read read.Failed = File
fault_of_read read.Memory = Memory

-- what is told where a trace is not read to its end
abbrev pub fault_of_trace : ReadFault → Fault
fault_of_trace read.TooLong = TraceTooLong
fault_of_trace read.Failed = File
fault_of_trace read.Memory = Memory

-- what is told where the program file is refused; a failed allocation is no fault of the file
abbrev pub fault_of_file : FileFault → Fault
fault_of_file file.Memory = Memory
fault_of_file fault = Content fault

-- what is told where a schedule is refused
abbrev pub fault_of_build : BuildFault → Fault
fault_of_build build.Memory = Memory
fault_of_build fault = Build fault

-- where ids are not granted
abbrev pub fault_of_grant : GrantFault → Fault
fault_of_grant grant.IdsSpent = IdsSpent
fault_of_grant grant.Memory = Memory

-- where the text of a trace is refused
abbrev pub fault_of_text : TextFault → Fault
fault_of_text (text.Line line) = TraceLine line
fault_of_text (text.Order line) = TraceOrder line
fault_of_text (text.Lists line) = TraceLists line
fault_of_text text.Memory = Memory

-- the fault of a script, with the name of its system, for which an allocation may fail
abbrev pub IsScriptFault : List ℕ → ScriptFault → Fault → Type 0
IsScriptFault name fault (Script cause system block instruction) =
    (cause ≡ fault.cause) × (string_bytes system ≡ name) × (block ≡ fault.block) × (instruction ≡ fault.instruction)
IsScriptFault name fault Memory = Unit {0}
IsScriptFault name fault _ = ⊥
