use Rattle.std.proofs.Common.{◌≡◌, map}
use Rattle.kinds.specs.Res.{event_name}
use Rattle.program_file.proofs.keys.events_at.Given as goal

-- the event kinds so far, by their names
abbrev pub invariant-loop-name : goal.invariant-loop-name
invariant-loop-name l = map event_name l.events.items ≡ map (λ name. name.now) l.yielded
