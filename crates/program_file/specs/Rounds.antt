-- How often a block runs, by the values of its keys.
use Rattle.std.specs.Prelude.{◌≡◌, ◌<◌, ◌^◌, ℕ, pos, codes, Option, Some, None}
use Rattle.toml.specs.Data.{Data, Members, get_member, integer, string}
use Rattle.kinds.specs.declared.res.Event.{Event}
use Rattle.kinds.specs.Res.{event_name}
use Rattle.script.specs.declared.script_body.Rounds.{Rounds}
use Rattle.script.specs.declared.script_body.Rounds.TheVariants.{Once, EachRow, EachEvent}

-- the value is this number of 32 bits
abbrev pub IsNumber : ℕ → Data → Type 0
IsNumber n value = (n < 2 ^ 32) × (value ≡ integer (pos n))

-- the value is the name of this event kind
abbrev pub IsEventName : Event → Data → Type 0
IsEventName event value = value ≡ string (event_name event)

-- the values of a block at `each` and at `events`
pub record BlockKeys : Type 0 where
  pub each : Option Data
  pub events : Option Data

abbrev pub block_keys : Members → BlockKeys
block_keys block = record { each = get_member (codes "each") block; events = get_member (codes "events") block }

-- there is a value, of which this is said
abbrev pub IsThere : (Data → Type 0) → Option Data → Type 0
IsThere Says None = ⊥
IsThere Says (Some value) = Says value

-- the keys of a block say how often it runs: a number at `each`, or an event kind at `events`, or neither
abbrev pub SaysRounds : Rounds → BlockKeys → Type 0
SaysRounds Once keys = (keys.each ≡ None) × (keys.events ≡ None)
SaysRounds (EachRow query) keys = IsThere (IsNumber query) keys.each × (keys.events ≡ None)
SaysRounds (EachEvent event) keys = (keys.each ≡ None) × IsThere (IsEventName event) keys.events
