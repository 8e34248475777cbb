use Rattle.std.proofs.Common.{◌≡◌, map, take, string_bytes}
use Rattle.model.specs.declarations.Refusals.{names_of}
use Rattle.schedule_builder.proofs.builder.names_at.Given as goal

abbrev pub invariant-loop-number : goal.invariant-loop-number
invariant-loop-number l = map string_bytes l.names.items ≡ names_of l.desc (take l.number-index l.numbers)
