-- The number and the name of each resource and of each event kind.
use Rattle.std.specs.Prelude.{◌≡◌, ℕ, List, [], ◌∷◌, codes}
use Rattle.kinds.specs.declared.res.Res.{Res}
use Rattle.kinds.specs.declared.res.Res.TheVariants.{Round, Gravity, Total, Seed, Limit, Alarm, Mode, Step}
use Rattle.kinds.specs.declared.res.Event.{Event}
use Rattle.kinds.specs.declared.res.Event.TheVariants.{Hit, Heal, Spark, Done}

-- the number of a resource
abbrev pub res_number : Res → ℕ
res_number Round = 0
res_number Gravity = 1
res_number Total = 2
res_number Seed = 3
res_number Limit = 4
res_number Alarm = 5
res_number Mode = 6
res_number Step = 7

-- the name of a resource
abbrev pub res_name : Res → List ℕ
res_name Round = codes "Round"
res_name Gravity = codes "Gravity"
res_name Total = codes "Total"
res_name Seed = codes "Seed"
res_name Limit = codes "Limit"
res_name Alarm = codes "Alarm"
res_name Mode = codes "Mode"
res_name Step = codes "Step"

-- the word names the resource
abbrev pub IsRes : Res → List ℕ → Type 0
IsRes res word = word ≡ res_name res

-- every resource, by number
abbrev pub every_res : List Res
every_res = Round ∷ Gravity ∷ Total ∷ Seed ∷ Limit ∷ Alarm ∷ Mode ∷ Step ∷ []

-- the number of an event kind
abbrev pub event_number : Event → ℕ
event_number Hit = 0
event_number Heal = 1
event_number Spark = 2
event_number Done = 3

-- the name of an event kind
abbrev pub event_name : Event → List ℕ
event_name Hit = codes "Hit"
event_name Heal = codes "Heal"
event_name Spark = codes "Spark"
event_name Done = codes "Done"

-- the word names the event kind
abbrev pub IsEvent : Event → List ℕ → Type 0
IsEvent event word = word ≡ event_name event
