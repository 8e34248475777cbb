-- What a column holds, by the shape of its kind.
use Rattle.std.specs.Prelude.{ℕ, ℤ, List, map, vec_capacity}
use Rattle.column_store.specs.declared.column.Packs.{Packs}
use Rattle.column_store.specs.declared.column.Packs.TheVariants.{Marks, Amounts, Pairs}
use Rattle.column_store.specs.Packed.{mark_words, amount_words, pair_words}

-- the words of each row
abbrev pub words_in : Packs → List (List ℤ)
words_in (Marks v) = map mark_words v.items
words_in (Amounts v) = map amount_words v.items
words_in (Pairs v) = map pair_words v.items

-- how many they are
abbrev pub width_in : Packs → ℕ
width_in (Marks v) = 0
width_in (Amounts v) = 1
width_in (Pairs v) = 2

-- for how many there is room
abbrev pub room_in : Packs → ℕ
room_in (Marks v) = vec_capacity v
room_in (Amounts v) = vec_capacity v
room_in (Pairs v) = vec_capacity v
