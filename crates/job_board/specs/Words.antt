-- What the word of a slot says: 0 where it is free, and else which job is in it, and how far that is.
use Rattle.std.specs.Prelude.{ℕ, ◌≡◌, ◌+◌, ◌*◌, ◌%◌, ◌<◌, ◌^◌, Bool, cond}
use Rattle.job_board.specs.declared.slot_state.SlotState.{SlotState}
use Rattle.job_board.specs.declared.slot_state.SlotState.TheVariants.{Free, Posted, Taken, Finished}

-- the job n waits in the slot
abbrev pub posted_word : ℕ → ℕ
posted_word n = 4 * n + 1

-- a hand has taken it
abbrev pub taken_word : ℕ → ℕ
taken_word n = 4 * n + 2

-- its outcome lies in the slot
abbrev pub finished_word : ℕ → ℕ
finished_word n = 4 * n + 3

-- a word shows this
abbrev pub Shows : ℕ → SlotState → Type 0
Shows word Free = word % 4 ≡ 0
Shows word (Posted n) = (word ≡ posted_word n) × (n < 2 ^ 62)
Shows word (Taken n) = (word ≡ taken_word n) × (n < 2 ^ 62)
Shows word (Finished n) = (word ≡ finished_word n) × (n < 2 ^ 62)

-- the word that says it
abbrev pub word_of : SlotState → ℕ
word_of Free = 0
word_of (Posted n) = posted_word n
word_of (Taken n) = taken_word n
word_of (Finished n) = finished_word n

-- a number fits a word
abbrev pub IsSmall : SlotState → Type 0
IsSmall Free = Unit {0}
IsSmall (Posted n) = n < 2 ^ 62
IsSmall (Taken n) = n < 2 ^ 62
IsSmall (Finished n) = n < 2 ^ 62

-- the closing word, which stands behind those of the slots: 1 once the board is closed
abbrev pub closing_word : Bool → ℕ
closing_word closed = cond closed 1 0
