use Rattle.std.proofs.Common.{◌≡◌, take}
use Rattle.program.specs.Said.{names_said}
use Rattle.program.proofs.schedule.chain_of.Given as goal

-- the names so far
abbrev pub invariant-loop-name : goal.invariant-loop-name
invariant-loop-name l = l.chain ≡ record { items = names_said (take l.name-index l.name-items); ignores_deferred = l.table.ignores_deferred }
