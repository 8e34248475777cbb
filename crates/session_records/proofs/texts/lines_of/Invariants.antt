use Rattle.std.proofs.Common.{◌≡◌, map, take}
use Rattle.session_records.proofs.texts.lines_of.Given as goal

-- the lines of the entries so far
abbrev pub invariant-loop-entry : goal.invariant-loop-entry
invariant-loop-entry l = map (λ line. line.now) l.lines.items ≡ map (λ entry. entry.line.now) (take l.entry-index l.entries)
