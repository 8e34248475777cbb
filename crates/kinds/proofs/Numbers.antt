-- What is known of all kinds, resources and event kinds at once: that their numbers are below their counts, and that no kind has more
-- than two fields. No other file takes them one by one for that.
use Rattle.std.proofs.Common.{ℕ, zero, suc, ◌≡◌, ◌<◌, ◌≤◌, true, List, [], ◌∷◌, nat_lt, slice_index, refl, arith, ltb-true}
use Rattle.std.specs.List.{list_all}
use Rattle.std.proofs.lemmas.Bool.{and_parts}
use Rattle.kinds.specs.declared.kind.Kind.TheVariants as kind
use Rattle.kinds.specs.declared.res.Res.{Res}
use Rattle.kinds.specs.declared.res.Res.TheVariants as res
use Rattle.kinds.specs.declared.res.Event.{Event}
use Rattle.kinds.specs.declared.res.Event.TheVariants as event
use Rattle.kinds.specs.Kind.{NumbersAreBelow}
use Rattle.kinds.specs.Components.{widths}
use Rattle.kinds.specs.Res.{res_number, event_number}

-- the number of a kind
pub number_below : NumbersAreBelow
number_below kind.Position = omega arith
number_below kind.Velocity = omega arith
number_below kind.Health = omega arith
number_below kind.Damage = omega arith
number_below kind.Team = omega arith
number_below kind.Timer = omega arith
number_below kind.Score = omega arith
number_below kind.Energy = omega arith
number_below kind.Charge = omega arith
number_below kind.Target = omega arith
number_below kind.Frozen = omega arith
number_below kind.Hidden = omega arith
number_below kind.Home = omega arith
number_below kind.Mass = omega arith
number_below kind.Armor = omega arith
number_below kind.Range = omega arith
number_below kind.Level = omega arith
number_below kind.Rank = omega arith
number_below kind.Sleeping = omega arith
number_below kind.Marked = omega arith

-- a number of a list of low ones is low
low_of_all : (ns : List ℕ) (i : ℕ) → list_all (λ n. nat_lt n 3) ns ≡ true → slice_index ns i ≤ 2
low_of_all [] i h = omega arith
low_of_all (n ∷ ns) zero h = let e = ltb-true n 3 (and_parts (nat_lt n 3) (list_all (λ m. nat_lt m 3) ns) h).0 in omega arith
low_of_all (n ∷ ns) (suc i) h = low_of_all ns i (and_parts (nat_lt n 3) (list_all (λ m. nat_lt m 3) ns) h).1

-- how many fields there are under a number
pub width_low : (number : ℕ) → widths number ≤ 2
width_low number = low_of_all (2 ∷ 2 ∷ 1 ∷ 1 ∷ 1 ∷ 1 ∷ 1 ∷ 1 ∷ 1 ∷ 1 ∷ 0 ∷ 0 ∷ 2 ∷ 1 ∷ 1 ∷ 1 ∷ 1 ∷ 1 ∷ 0 ∷ 0 ∷ []) number refl

-- the number of a resource
pub res_below : (r : Res) → res_number r < 8
res_below res.Round = omega arith
res_below res.Gravity = omega arith
res_below res.Total = omega arith
res_below res.Seed = omega arith
res_below res.Limit = omega arith
res_below res.Alarm = omega arith
res_below res.Mode = omega arith
res_below res.Step = omega arith

-- the number of an event kind
pub event_below : (e : Event) → event_number e < 4
event_below event.Hit = omega arith
event_below event.Heal = omega arith
event_below event.Spark = omega arith
event_below event.Done = omega arith
