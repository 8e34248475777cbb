use Rattle.std.proofs.Common.{◌≡◌, map, take}
use Rattle.findings.proofs.texts.first_apart.Given as goal

-- the lines so far are the same
abbrev pub invariant-loop-place : goal.invariant-loop-place
invariant-loop-place l = take l.place (map (λ line. line.now) l.lines) ≡ take l.place (map (λ line. line.now) l.beside)
