use Rattle.std.proofs.Common.{◌≡◌, map, take}
use Rattle.query_plan.specs.Picks.{pick_seen}
use Rattle.body.specs.Picked.{spot_of, spot_seen, picked_own, picked_read}
use Rattle.body.proofs.columns.ColumnRequests.fill.Given as goal

-- where the picks so far are
abbrev pub invariant-loop-pick : goal.invariant-loop-pick
invariant-loop-pick l = record {
  own : map spot_seen l.self.own.items ≡ map spot_of (picked_own (map pick_seen (take l.pick-index l.picks)));
  read : map spot_seen l.self.read.items ≡ map spot_of (picked_read (map pick_seen (take l.pick-index l.picks)));
}
