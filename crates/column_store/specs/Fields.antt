-- Fields of components: the words of one with a field replaced, and components with values in a field, from one on.
use Rattle.std.specs.Prelude.{ℕ, zero, suc, ℤ, pos, List, [], ◌∷◌}
use Rattle.change_ticks.specs.declared.stamp.Stamp.{Stamp}
use Rattle.model.specs.Lists.{head_or, tail_of, update_at}
use Rattle.model.specs.state.State.{Cell}

-- the words of a kind of this width, 0 where there are none
abbrev pub words_of_width : ℕ → List ℤ → List ℤ
words_of_width zero words = []
words_of_width (suc n) words = head_or (pos 0) words ∷ words_of_width n (tail_of words)

-- the same with the word at a place replaced
abbrev pub words_with : ℕ → ℕ → ℤ → List ℤ → List ℤ
words_with zero place value words = []
words_with (suc n) zero value words = value ∷ words_of_width n (tail_of words)
words_with (suc n) (suc place) value words = head_or (pos 0) words ∷ words_with n place value (tail_of words)

-- a cell with a field replaced at a tick
abbrev pub field_cell : ℕ → ℕ → ℕ → ℤ → Cell → Cell
field_cell width tick place value c = record { words = words_with width place value c.words; added = c.added; changed = tick }

-- cells with these values in a field, from one on, a value a cell
abbrev pub with_field_cells : ℕ → ℕ → ℕ → ℕ → List ℤ → List Cell → List Cell
with_field_cells width tick place i [] cells = cells
with_field_cells width tick place i (value ∷ more) cells = with_field_cells width tick place (suc i) more (update_at i (field_cell width tick place value) cells)

-- ---- the same of the words and of the stamps by themselves

abbrev pub with_field_words : ℕ → ℕ → ℕ → List ℤ → List (List ℤ) → List (List ℤ)
with_field_words width place i [] words = words
with_field_words width place i (value ∷ more) words = with_field_words width place (suc i) more (update_at i (words_with width place value) words)

-- a stamp of what was changed at a tick
abbrev pub changed_stamp : ℕ → Stamp → Stamp
changed_stamp tick s = record { added = s.added; changed = tick }

-- so many of them from one on
abbrev pub changed_stamps : ℕ → ℕ → ℕ → List Stamp → List Stamp
changed_stamps tick i zero stamps = stamps
changed_stamps tick i (suc n) stamps = changed_stamps tick (suc i) n (update_at i (changed_stamp tick) stamps)
