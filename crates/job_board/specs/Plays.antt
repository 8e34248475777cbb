-- What each kind of step tells the seat that makes it.
use Rattle.std.specs.Prelude.{ℕ, ◌≡◌, ◌≢◌, ◌<◌, [], ◌∷◌, Some, None}
use mathlib.Core.Option.{some}
use lib.ListN.{get_elem?}
use Rattle.atomic_table.specs.Table.{Me, Step, rest}
use Rattle.job_board.specs.declared.view.View.{View}
use Rattle.job_board.specs.declared.view.Content.TheVariants.{Job, Outcome}
use Rattle.job_board.specs.Words.{posted_word, finished_word}
use Rattle.job_board.specs.Views.{newcomer, having_read, after_post, after_take, after_done, after_collect, after_close, after_claim, HasJob, HasPosted, Uncollected}
use Rattle.job_board.specs.Board.{Slot}

-- a view, and the slots that its seat holds
abbrev pub Seated : Type 0 → Type 0 → Type 0
Seated J O = Me (Slot J O) (View J O)

module _ {J O : Type 0} where
  -- a seat comes, and makes its first look
  abbrev pub entered : Step (Slot J O) → Seated J O → ℕ → Seated J O → Type 0
  entered st m found m' = m' ≡ (having_read newcomer ((st.word, found) ∷ []), [])

  abbrev pub looked : Step (Slot J O) → Seated J O → ℕ → Seated J O → Type 0
  looked st m found m' = m' ≡ (having_read m.0 ((st.word, found) ∷ []), m.1)

  -- what the lead sees finished it has not collected
  abbrev pub sought : Step (Slot J O) → Seated J O → ℕ → Seated J O → Type 0
  sought st m found m' = looked st m found m' × ((n : ℕ) → found ≡ finished_word n → st.word < st.slots → Uncollected m.0 n)

  abbrev pub claimed : Step (Slot J O) → Seated J O → ℕ → Seated J O → Type 0
  claimed st m found m' = m' ≡ (after_claim m.0 st.word found, (st.word, None) ∷ m.1)

  abbrev pub gave_job : Step (Slot J O) → Seated J O → ℕ → Seated J O → Type 0
  gave_job st m found m' = (n : ℕ) (j : J) → st.first ≡ posted_word n → m.1 ≡ (st.word, Some (Job j)) ∷ rest m.1 → m' ≡ (after_post m.0 n j, rest m.1)

  -- this hand never took the job before, and holds none in the slot
  abbrev pub IsNew : View J O → ℕ → ℕ → Type 0
  IsNew v n slot = ((at k : ℕ) (j : J) → get_elem? v.taken at ≢ some (n, (k, j))) × ((at : ℕ) → get_elem? v.done at ≢ some n) × ((m : ℕ) (j : J) → HasJob v m slot j → ⊥)

  abbrev pub took_job : Step (Slot J O) → Seated J O → ℕ → Seated J O → Type 0
  took_job st m found m' = (n : ℕ) → st.first ≡ posted_word n →
      (found ≡ st.first → (j : J) × (m' ≡ (after_take m.0 n st.word j, (st.word, Some (Job j)) ∷ m.1)) × IsNew m.0 n st.word)
      × (found ≢ st.first → looked st m found m')

  abbrev pub gave_outcome : Step (Slot J O) → Seated J O → ℕ → Seated J O → Type 0
  gave_outcome st m found m' = (n : ℕ) → st.first ≡ finished_word n → m' ≡ (after_done m.0 n, rest m.1)

  abbrev pub took_outcome : (J → O → Type 0) → Step (Slot J O) → Seated J O → ℕ → Seated J O → Type 0
  took_outcome answers st m found m' = (n : ℕ) → st.first ≡ finished_word n →
      (found ≡ st.first) × ((o : O) × (m' ≡ (after_collect m.0 n o st.word, (st.word, Some (Outcome o)) ∷ m.1)) × ((j : J) × HasPosted m.0 n j × answers j o)) × ((at : ℕ) → get_elem? m.0.free at ≢ some st.word)

  abbrev pub shut : Step (Slot J O) → Seated J O → ℕ → Seated J O → Type 0
  shut st m found m' = m' ≡ (after_close m.0, m.1)
