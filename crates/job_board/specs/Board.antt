-- The rule of a board: how jobs are handed on, and how the words and slots keep it so.
use Rattle.std.specs.Prelude.{ℕ, suc, ◌≡◌, ◌≢◌, ◌<◌, ◌⊎◌, true, List, length, slice_index, Option, Some, None}
use mathlib.Core.Option.{some}
use mathlib.Core.Option as maybe
use lib.ListN.{get_elem?}
use Rattle.atomic_table.specs.Table.{State}
use Rattle.job_board.specs.declared.view.View.{View}
use Rattle.job_board.specs.declared.view.Content.{Content}
use Rattle.job_board.specs.declared.view.Content.TheVariants.{Job, Outcome}
use Rattle.job_board.specs.Words.{posted_word, taken_word, finished_word, closing_word}
use Rattle.job_board.specs.HandsOff.{posted_of, collected_of, free_of, taken_of, done_of, read_of, Stands, Once, IsClosed, HandsOff}

abbrev pub Slot : Type 0 → Type 0 → Type 0
Slot J O = Option (Content J O)

-- where the job in a slot is: no job is in it, or one with this number that waits, that the hand of a seat runs, or that is finished
pub data Phase (J O : Type 0) : Type 0 where
  idle : Phase J O
  waiting : ℕ → J → Phase J O
  running : ℕ → J → ℕ → Phase J O
  finished : ℕ → J → O → Phase J O

module _ {J O : Type 0} where
  abbrev pub number : Phase J O → ℕ
  number idle = 0
  number (waiting n j) = n
  number (running n j hand) = n
  number (finished n j o) = n

  module _ (views : List (View J O)) where
    abbrev pub Posts : ℕ → J → Type 0
    Posts n j = (before : ℕ) × (n ≡ suc before) × Stands posted_of views 0 before (n, j)

    abbrev pub IsDone : ℕ → Type 0
    IsDone n = (seat : ℕ) × (place : ℕ) × Stands done_of views seat place n

    abbrev pub IsCollected : ℕ → Type 0
    IsCollected n = (place : ℕ) × (o : O) × Stands collected_of views 0 place (n, o)

    abbrev pub IsSpare : ℕ → Type 0
    IsSpare slot = (place : ℕ) × Stands free_of views 0 place slot

    abbrev pub NotCollected : ℕ → Type 0
    NotCollected n = (seat place : ℕ) (o : O) → Stands collected_of views seat place (n, o) → ⊥

    abbrev pub NotTaken : ℕ → Type 0
    NotTaken n = (seat place slot : ℕ) (j : J) → Stands taken_of views seat place (n, (slot, j)) → ⊥

    -- the word of a slot and what is at home in it
    abbrev pub SlotFits : (J → O → Type 0) → ℕ → ℕ → maybe.Option (maybe.Option (Slot J O)) → Phase J O → Type 0
    SlotFits answers word slot home idle = (word ≡ 0) × (IsSpare slot ⊎ (home ≡ some (some None)))
    SlotFits answers word slot home (waiting n j) = (word ≡ posted_word n) × (home ≡ some (some (Some (Job j)))) × Posts n j × NotCollected n × NotTaken n
    SlotFits answers word slot home (running n j hand) = (word ≡ taken_word n) × Posts n j × NotCollected n
    SlotFits answers word slot home (finished n j o) = (word ≡ finished_word n) × (home ≡ some (some (Some (Outcome o)))) × Posts n j × NotCollected n × IsDone n × answers j o

    -- only the first seat posts, and numbers rise from 1
    abbrev pub PostedFits : Type 0
    PostedFits = (seat place n : ℕ) (j : J) → Stands posted_of views seat place (n, j) → (seat ≡ 0) × (n ≡ suc place)

    -- a hand did only what it took
    abbrev pub DoneFits : Type 0
    DoneFits = (seat place n : ℕ) → Stands done_of views seat place n → (at : ℕ) × (slot : ℕ) × (j : J) × Stands taken_of views seat at (n, (slot, j))

    abbrev pub CollectedFits : (J → O → Type 0) → Type 0
    CollectedFits answers = (seat place n : ℕ) (o : O) → Stands collected_of views seat place (n, o) → (seat ≡ 0) × IsDone n × ((j : J) × Posts n j × answers j o)

    abbrev pub FreeOnce : Type 0
    FreeOnce = (seat place place' slot : ℕ) → Stands free_of views seat place slot → Stands free_of views seat place' slot → place ≡ place'

    abbrev pub LeadsFits : Type 0
    LeadsFits = (seat : ℕ) (v : View J O) → get_elem? views seat ≡ some v → v.leads ≡ true → seat ≡ 0

    -- only the lead closes
    abbrev pub ClosesFits : Type 0
    ClosesFits = (seat : ℕ) (v : View J O) → get_elem? views seat ≡ some v → v.closed ≡ true → v.leads ≡ true

    -- the first seat is the lead's, and the closing word is 1 exactly where the lead has closed
    abbrev pub ClosingFits : List ℕ → ℕ → Type 0
    ClosingFits words slots = (v : View J O) × (get_elem? views 0 ≡ some v) × (v.leads ≡ true) × (slice_index words slots ≡ closing_word v.closed)

    -- where the closing word was seen as 1, the board is closed
    abbrev pub SeenFits : ℕ → Type 0
    SeenFits slots = (seat place : ℕ) → Stands read_of views seat place (slots, 1) → IsClosed views

    module _ (slots : ℕ) (phase : ℕ → Phase J O) where
      -- what was taken was posted, and runs in its slot until it is done
      abbrev pub TakenFits : Type 0
      TakenFits = (seat place n slot : ℕ) (j : J) → Stands taken_of views seat place (n, (slot, j)) → Posts n j × (((slot < slots) × (phase slot ≡ running n j seat)) ⊎ ((at : ℕ) × Stands done_of views seat at n))

      -- what was seen finished is there until it is collected
      abbrev pub ReadFits : Type 0
      ReadFits = (seat place slot n : ℕ) → Stands read_of views seat place (slot, finished_word n) → slot < slots → ((j : J) × (o : O) × (phase slot ≡ finished n j o)) ⊎ IsCollected n

      abbrev pub FreeFits : Type 0
      FreeFits = (seat place slot : ℕ) → Stands free_of views seat place slot → (seat ≡ 0) × (slot < slots) × (phase slot ≡ idle)

-- two slots with one number are one
abbrev pub Apart : {J O : Type 0} → ℕ → (ℕ → Phase J O) → Type 0
Apart slots phase = (slot other : ℕ) → slot < slots → other < slots → number (phase slot) ≡ number (phase other) → number (phase slot) ≢ 0 → slot ≡ other

pub record IsKept {J O : Type 0} (answers : J → O → Type 0) (s : State (Slot J O) (View J O)) : Type 0 where
  pub slots : ℕ
  pub phase : ℕ → Phase J O
  pub wide : length s.words ≡ suc slots
  pub deep : length s.homes ≡ slots
  pub each_slot : (slot : ℕ) → slot < slots → SlotFits s.views answers (slice_index s.words slot) slot (get_elem? s.homes slot) (phase slot)
  pub apart : Apart slots phase
  pub posted : PostedFits s.views
  pub taken : TakenFits s.views slots phase
  pub taken_once : Once taken_of s.views
  pub done : DoneFits s.views
  pub collected : CollectedFits s.views answers
  pub collected_once : Once collected_of s.views
  pub read : ReadFits s.views slots phase
  pub free : FreeFits s.views slots phase
  pub free_once : FreeOnce s.views
  pub leads : LeadsFits s.views
  pub closes : ClosesFits s.views
  pub closing : ClosingFits s.views s.words slots
  pub seen : SeenFits s.views slots

abbrev pub IsBoard : {J O : Type 0} → (J → O → Type 0) → State (Slot J O) (View J O) → Type 0
IsBoard answers s = HandsOff answers (length s.homes) s.views × IsKept answers s
