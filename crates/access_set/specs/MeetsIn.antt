-- Whether two queries conflict by one of some sets of kinds, each of them the bits of a word.
use Rattle.std.specs.Prelude.{ℕ, Bool, not, ◌==◌, ◌&&◌, List, Some, bit_and}
use Rattle.std.specs.List.{list_any, list_all}
use Rattle.model.specs.access.Query.{holds_in}
use Rattle.model.specs.access.Access.{Params}
use Rattle.model.specs.access.Conflict.Datum.{OfKind}
use Rattle.model.specs.access.Meeting.{MeetAt}
use Rattle.access_set.specs.declared.footprint.Footprint.{Footprint}
use Rattle.access_set.specs.Footprints.{has_bit, choices_of, kinds_shared}

-- whether the set of a word matches a query: it has what the query requires, lacks what it excludes, and has an alternative of each choice
abbrev pub footprint_matches : ℕ → Footprint → Bool
footprint_matches word f = (bit_and f.words.required word == f.words.required) && (bit_and f.words.excluded word == 0)
    && list_all (λ alternatives. list_any (holds_in (has_bit word)) alternatives) (choices_of f)

-- whether two queries conflict by the set of a word: it matches both, and has a kind that both touch and one writes
abbrev pub footprints_meet_by : Footprint → Footprint → ℕ → Bool
footprints_meet_by f g word = footprint_matches word f && footprint_matches word g && not (bit_and (kinds_shared f.words g.words) word == 0)

-- two accesses meet at some kind, by these sets
abbrev pub MeetAtKindIn : List ℕ → Params → Params → Type 0
MeetAtKindIn sets a b = (kind : ℕ) × MeetAt (Some sets) a b (OfKind kind)
