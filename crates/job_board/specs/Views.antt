-- What each step adds to the view of the seat that makes it.
use Rattle.std.specs.Prelude.{ℕ, zero, suc, ◌≡◌, ◌≢◌, ◌+◌, ◌-◌, ◌^◌, ◌<◌, ◌≤◌, Result, MatchResult, true, false, List, [], ◌∷◌, ◌++◌, drop, length, ◌⊎◌}
use mathlib.Core.Option.{some}
use lib.ListN.{get_elem?}
use Rattle.job_board.specs.declared.view.View.{View}
use Rattle.job_board.specs.Words.{posted_word, finished_word}

module _ {J O : Type 0} where
  abbrev pub opener : View J O
  opener = record { leads = true; posted = []; collected = []; free = []; closed = false; taken = []; done = []; read = [] }

  abbrev pub newcomer : View J O
  newcomer = record { leads = false; posted = []; collected = []; free = []; closed = false; taken = []; done = []; read = [] }

  -- the lead of a new board: these slots are its own, and it has read this
  abbrev pub opened : List ℕ → List (ℕ × ℕ) → View J O
  opened free read = record opener { free = free; read = read }

  -- a look: which words were read, and what was found there
  abbrev pub having_read : View J O → List (ℕ × ℕ) → View J O
  having_read v gained = record v { read = v.read ++ gained }

  -- a job is posted in the free slot that the lead came by last
  abbrev pub after_post : View J O → ℕ → J → View J O
  after_post v n j = record v { posted = v.posted ++ (n, j) ∷ []; free = drop 1 v.free }

  abbrev pub after_take : View J O → ℕ → ℕ → J → View J O
  after_take v n slot j = record v { taken = v.taken ++ (n, (slot, j)) ∷ [] }

  abbrev pub after_done : View J O → ℕ → View J O
  after_done v n = record v { done = v.done ++ n ∷ [] }

  -- an outcome is collected, and its slot is free
  abbrev pub after_collect : View J O → ℕ → O → ℕ → View J O
  after_collect v n o slot = record v { collected = v.collected ++ (n, o) ∷ []; free = slot ∷ v.free }

  abbrev pub after_close : View J O → View J O
  after_close v = record v { closed = true }

  -- one of the lead's first looks, at a slot that it makes its own
  abbrev pub after_claim : View J O → ℕ → ℕ → View J O
  after_claim v slot found = record v { free = slot ∷ v.free; read = v.read ++ (slot, found) ∷ [] }

  -- the hand has taken this job, and has not done it
  abbrev pub HasJob : View J O → ℕ → ℕ → J → Type 0
  HasJob v n slot j = ((at : ℕ) × (get_elem? v.taken at ≡ some (n, (slot, j)))) × ((at : ℕ) → get_elem? v.done at ≢ some n)

  -- the lead has posted this job under the number
  abbrev pub HasPosted : View J O → ℕ → J → Type 0
  HasPosted v n j = (at : ℕ) × (get_elem? v.posted at ≡ some (n, j))

  -- the lead has not collected the job of this number
  abbrev pub Uncollected : View J O → ℕ → Type 0
  Uncollected v n = (at : ℕ) (o : O) → get_elem? v.collected at ≢ some (n, o)

  -- a post on a board with so many slots: a job is posted under the next number where a slot is free and a number left, else it comes back
  abbrev pub IsPost : ℕ → J → View J O → View J O → Result ℕ J → Type 0
  IsPost slots job before after result = MatchResult result
      (λ n. (n ≡ length before.posted + 1) × (after ≡ after_post before n job) × (length before.posted < slots + length before.collected) × (n < 2 ^ 62))
      (λ j. (j ≡ job) × (after ≡ before) × ((length before.posted ≡ slots + length before.collected) ⊎ (length before.posted ≡ 2 ^ 62 - 1)))

  -- the numbers of what is posted rise from 1, and what is collected was posted
  abbrev pub IsTally : View J O → Type 0
  IsTally v = ((at n : ℕ) (j : J) → get_elem? v.posted at ≡ some (n, j) → n ≡ at + 1) × ((at n : ℕ) (o : O) → get_elem? v.collected at ≡ some (n, o) → n ≤ length v.posted)

-- a slot's word showed no job that waits, or it showed one and then was another
abbrev pub Missed : ℕ → List (ℕ × ℕ) → Type 0
Missed slot gained =
    ((found : ℕ) × ((n : ℕ) → found ≢ posted_word n) × (gained ≡ (slot, found) ∷ []))
    ⊎ ((n : ℕ) × (found : ℕ) × (found ≢ posted_word n) × (gained ≡ (slot, posted_word n) ∷ (slot, found) ∷ []))

-- so it was with each slot below a count, in order
abbrev pub MissedAll : ℕ → List (ℕ × ℕ) → Type 0
MissedAll zero gained = gained ≡ []
MissedAll (suc slot) gained = (before : List (ℕ × ℕ)) × (last : List (ℕ × ℕ)) × MissedAll slot before × Missed slot last × (gained ≡ before ++ last)

-- no job waited in the slots below this one, and in this one waited that of the number
abbrev pub FoundJob : ℕ → ℕ → List (ℕ × ℕ) → Type 0
FoundJob slot n gained = (before : List (ℕ × ℕ)) × MissedAll slot before × (gained ≡ before ++ (slot, posted_word n) ∷ [])

-- each slot below a count was read, in order, and none showed an outcome
abbrev pub NoneFinished : ℕ → List (ℕ × ℕ) → Type 0
NoneFinished zero gained = gained ≡ []
NoneFinished (suc slot) gained = (before : List (ℕ × ℕ)) × (found : ℕ) × NoneFinished slot before × ((n : ℕ) → found ≢ finished_word n) × (gained ≡ before ++ (slot, found) ∷ [])

-- no slot below this one showed an outcome, and this one showed that of the number
abbrev pub FoundOutcome : ℕ → ℕ → List (ℕ × ℕ) → Type 0
FoundOutcome slot n gained = (before : List (ℕ × ℕ)) × NoneFinished slot before × (gained ≡ before ++ (slot, finished_word n) ∷ [])
