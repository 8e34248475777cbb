-- The kinds that a query touches, writes, requires and excludes, as the bits of words, and its choices; and whether two queries conflict.
use Rattle.std.specs.Prelude.{ℕ, Bool, true, not, ◌<◌, ◌==◌, ◌≡◌, ◌≢◌, ◌&&◌, ◌*◌, ◌%◌, ◌^◌, cond, List, [], ◌∷◌, ◌++◌, map, length, get_or, bit_and, bit_or, bit_xor}
use Rattle.std.specs.Int.{bit_at}
use Rattle.std.specs.List.{list_any}
use Rattle.model.specs.Lists.{IsIn}
use Rattle.model.specs.access.Query.{Alternative, Term, touches, writes}
use Rattle.model.specs.access.Query.Alternative.{Has, Lacks}
use Rattle.model.specs.access.Conflict.{choices}
use Rattle.model.specs.access.QueryFaults.{requires_kind, excludes_kind}
use Rattle.query.specs.Alternative.{alternatives_of}
use Rattle.access_set.specs.declared.footprint.Footprint.{Footprint}
use Rattle.access_set.specs.declared.footprint.Words.{Words}
use Rattle.access_set.specs.declared.footprint.Way.{Way}

-- whether a bit of a word is set
abbrev pub has_bit : ℕ → ℕ → Bool
has_bit word number = bit_at word number == 1

-- the kind of an alternative
abbrev pub kind_of : Alternative → ℕ
kind_of (Has kind) = kind
kind_of (Lacks kind) = kind

-- each alternative is of a kind that has a bit
abbrev pub AreLow : List (List Alternative) → Type 0
AreLow more = (alternatives : List Alternative) → IsIn alternatives more → (a : Alternative) → IsIn a alternatives → kind_of a < 64

-- the word with the bit of the kind
abbrev pub with_bit : ℕ → ℕ → ℕ
with_bit kind word = bit_or word (1 * 2 ^ kind % 2 ^ 64)

-- the words are those of a query
pub record IsWords (query : List Term) (words : Words) : Type 0 where
  pub touched : (kind : ℕ) → has_bit words.touched kind ≡ touches query kind
  pub written : (kind : ℕ) → has_bit words.written kind ≡ writes query kind
  pub required : (kind : ℕ) → has_bit words.required kind ≡ requires_kind query kind
  pub excluded : (kind : ℕ) → has_bit words.excluded kind ≡ excludes_kind query kind

-- the alternatives of its `or` terms
abbrev pub choices_of : Footprint → List (List Alternative)
choices_of f = map alternatives_of f.choices.items

-- the footprint is that of a query
pub record IsFootprint (query : List Term) (f : Footprint) : Type 0 where
  pub words : IsWords query f.words
  pub choices : choices_of f ≡ choices query
  pub low : AreLow (choices_of f)

-- the footprint of each of the queries
abbrev pub AreFootprints : List (List Term) → List Footprint → Type 0
AreFootprints [] [] = Unit {0}
AreFootprints [] (f ∷ footprints) = ⊥
AreFootprints (q ∷ queries) [] = ⊥
AreFootprints (q ∷ queries) (f ∷ footprints) = IsFootprint q f × AreFootprints queries footprints

-- the kinds that both touch and one writes
abbrev pub kinds_shared : Words → Words → ℕ
kinds_shared f g = bit_and (bit_and f.touched g.touched) (bit_or f.written g.written)

-- what both ask of kinds without a choice
abbrev pub way_of_both : Words → Words → Way
way_of_both f g = record { required = bit_or f.required g.required; excluded = bit_or f.excluded g.excluded }

-- a way with one more alternative
abbrev pub way_with : Alternative → Way → Way
way_with (Has kind) x = record { required = with_bit kind x.required; excluded = x.excluded }
way_with (Lacks kind) x = record { required = x.required; excluded = with_bit kind x.excluded }

-- of shared kinds those at which two queries conflict in this way: that it doesn't exclude, where it excludes nothing that it requires
abbrev pub kinds_met : ℕ → Way → ℕ
kinds_met shared x = cond (bit_and x.required x.excluded == 0) (bit_xor shared (bit_and shared x.excluded)) 0

-- whether they conflict in some way that goes on with an alternative of each choice
abbrev pub met_in : ℕ → Way → List (List Alternative) → Bool
met_in shared x [] = not (kinds_met shared x == 0)
met_in shared x (alternatives ∷ more) = list_any (λ a. met_in shared (way_with a x) more) alternatives

-- whether two queries conflict
abbrev pub footprints_meet : Footprint → Footprint → Bool
footprints_meet f g = met_in (kinds_shared f.words g.words) (way_of_both f.words g.words) (choices_of f ++ choices_of g)

-- whether they conflict at the kind
abbrev pub footprints_meet_at : Footprint → Footprint → ℕ → Bool
footprints_meet_at f g kind = met_in (bit_and (kinds_shared f.words g.words) (with_bit kind 0)) (way_of_both f.words g.words) (choices_of f ++ choices_of g)

-- whether a query can match without its `or` terms, and writes
abbrev pub is_writing : Footprint → Bool
is_writing f = not (f.words.written == 0) && (bit_and f.words.required f.words.excluded == 0)

-- the footprint of the query that touches nothing
abbrev pub no_kinds : Footprint
no_kinds = record { words = record { touched = 0; written = 0; required = 0; excluded = 0 }; choices = record { items = []; capacity = 1 } }

-- a query conflicts with another
abbrev pub MeetsBeside : List Footprint → ℕ → Type 0
MeetsBeside footprints n = (m : ℕ) × (m < length footprints) × (n ≢ m) × (footprints_meet (get_or footprints n no_kinds) (get_or footprints m no_kinds) ≡ true)

-- a query that writes conflicts with another
abbrev pub HasMeetingWriter : List Footprint → Type 0
HasMeetingWriter footprints = (n : ℕ) × (n < length footprints) × (is_writing (get_or footprints n no_kinds) ≡ true) × MeetsBeside footprints n
