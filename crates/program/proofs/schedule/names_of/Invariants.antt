use Rattle.std.proofs.Common.{◌≡◌, map, take}
use Rattle.program.proofs.schedule.names_of.Given as goal

-- the names so far
abbrev pub invariant-loop-code : goal.invariant-loop-code
invariant-loop-code l = map (λ name. name.now) l.names.items ≡ map (λ code. code.name.now) (take l.code-index l.codes)
