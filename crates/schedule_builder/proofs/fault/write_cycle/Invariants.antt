use Rattle.std.proofs.Common.{take, flat_map}
use Rattle.std.specs.Fmt.{HasWritten, IsPlainFormatter}
use Rattle.schedule_builder.specs.FaultText.{spaced_name}
use Rattle.schedule_builder.proofs.fault.write_cycle.Given as goal

abbrev pub invariant-loop-name : goal.invariant-loop-name
invariant-loop-name g l =
    IsPlainFormatter l.initial.f → HasWritten g.W.Write.write_str_gives l.initial.f (flat_map spaced_name (take l.name-index l.names)) l.f
