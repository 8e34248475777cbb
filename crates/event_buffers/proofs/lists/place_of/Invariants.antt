-- None of the lists so far is of the kind.
use Rattle.std.proofs.Common.{◌≡◌, ◌+◌, drop, map, option_map}
use Rattle.kinds.specs.Res.{event_number}
use Rattle.event_buffers.specs.Lists.{ListValue, place_in}
use Rattle.event_buffers.proofs.lists.place_of.Given as goal

abbrev pub invariant-loop-place : goal.invariant-loop-place
invariant-loop-place l = place_in (map (λ (x : ListValue). x.kind) l.lists) (event_number l.kind) ≡ option_map (λ n. l.place + n) (place_in (map (λ (x : ListValue). x.kind) (drop l.place l.lists)) (event_number l.kind))
