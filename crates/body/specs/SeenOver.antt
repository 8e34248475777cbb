-- What is seen of a view over queries with these sheets, these values of resources and registers, these events shown and sent, and these
-- ids and commands.
use Rattle.std.specs.Prelude.{ℕ, ◌≡◌, List, [], map, slice_get, Some, None}
use Rattle.std.specs.List.{AllByRecursion}
use Rattle.model.specs.access.Access.{Params}
use Rattle.event_buffers.specs.Lists.{ListsValue}
use Rattle.body.specs.Issued.{IssuedSeen}
use Rattle.body.specs.Seen.{Seen}
use Rattle.body.specs.Sheet.{Sheet}
use Rattle.body.specs.Together.{IsAlone}
use Rattle.body.specs.Values.{ValuesSeen, blank_values}

abbrev pub seen_over : ℕ → List Sheet → ValuesSeen → ListsValue → ListsValue → IssuedSeen → Seen
seen_over tick queries values unread sent issued = record {
  params = record { queries = map (λ (q : Sheet). q.terms) queries; res = values.res; res_mut = values.res_mut; reads = unread.kinds; writes = sent.kinds; spawns = issued.spawns };
  shown = record { rows = map (λ (q : Sheet). q.rows) queries; res = values.res_shown; res_mut = values.res_mut_shown; unread = unread.values; registers = values.registers_shown; granted = issued.granted };
  outcome = record { cells = map (λ (q : Sheet). q.cells) queries; res_mut = values.written; events = sent.values; commands = issued.commands; registers = values.registers };
  opening = record { taken = map (λ (q : Sheet). q.taken) queries; tick = tick; places = map (λ (q : Sheet). q.places) queries };
}

-- what is seen of a view that is to be opened: no queries, no events, no ids and no commands, and values that are all 0
abbrev pub blank_seen : Params → Seen
blank_seen params = seen_over 0 [] (blank_values params) (record { kinds = []; values = [] }) (record { kinds = []; values = [] }) (record { spawns = None; granted = []; commands = [] })

-- the queries of a view write at its tick, and none of them in the columns of another
pub record AreTogether (tick : ℕ) (queries : List Sheet) : Type 0 where
  pub ticks : AllByRecursion (λ (q : Sheet). q.tick ≡ tick) queries
  pub alone : (n : ℕ) (q : Sheet) → slice_get queries n ≡ Some q → IsAlone queries n q
