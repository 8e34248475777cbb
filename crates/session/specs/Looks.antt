-- What a look at a state shows.
use Rattle.std.specs.Prelude.{ℕ, Bool, true, false, List, [], ◌∷◌, ◌++◌}
use Rattle.hex.specs.Hex.{encode_lower}
use Rattle.kinds.specs.Res.{every_res}
use Rattle.model.specs.state.Events.{queue_of}
use Rattle.model.specs.state.State.{State}
use Rattle.requests.specs.Asked.{Asked}
use Rattle.requests.specs.Asked.Asked.{World, Entity, Query, Resources, Events, Values, Digest}
use Rattle.sha2.specs.Sha256.{sha256}
use Rattle.state_lines.specs.Looks.{entity_lines, event_lines, query_lines}
use Rattle.state_lines.specs.WorldText.{lines_of, world_lines}
use Rattle.state_text.specs.StateText.{values_text}

-- whether a request only looks at the state. The whole state is shown with its file, by another definition
abbrev pub is_look : Asked → Bool
is_look World = true
is_look (Entity e) = true
is_look (Query since query) = true
is_look Resources = true
is_look (Events kind from) = true
is_look Values = true
is_look Digest = true
is_look _ = false

-- the digest of the values of a state, in a line
abbrev pub digest_line : State → List ℕ
digest_line w = encode_lower (sha256 (values_text w)) ++ 10 ∷ []

-- the lines that a look shows
abbrev pub seen_by : Asked → State → List ℕ
seen_by World w = world_lines w.world w.passed_over
seen_by (Entity e) w = entity_lines e w.world.slots
seen_by (Query since query) w = query_lines since query w.world.slots
seen_by Resources w = lines_of every_res w.world.resources
seen_by (Events kind from) w = event_lines from (queue_of w.events kind)
seen_by Values w = values_text w
seen_by Digest w = digest_line w
seen_by _ w = []
