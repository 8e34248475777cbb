-- A choice less is left, or those of the second query take the place of the first one's; and no alternative so far has a way.
use Rattle.std.proofs.Common.{◌≡◌, ◌+◌, ◌++◌, false, map, take, length}
use Rattle.std.specs.List.{list_any}
use Rattle.query.specs.Alternative.{alternative_of, alternatives_of}
use Rattle.access_set.specs.Footprints.{way_with, met_in}
use Rattle.access_set.proofs.footprint.+met_in.Given as goal

abbrev pub decreases-met_in : goal.decreases-met_in
decreases-met_in l = length l.choices.now + (length l.more.now + length l.more.now)

abbrev pub invariant-loop-alternative : goal.invariant-loop-alternative
invariant-loop-alternative l =
    list_any (λ a. met_in l.shared (way_with a l.way) (map alternatives_of l.rest ++ map alternatives_of l.more)) (map alternative_of (take l.alternative-index l.alternative-items)) ≡ false
