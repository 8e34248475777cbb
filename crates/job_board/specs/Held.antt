-- What a lead and a hand hold.
use Rattle.std.specs.Prelude.{ℕ, ◌≡◌, ◌≢◌, ◌<◌, ◌^◌, Bool, true, false, cond, List, [], ◌∷◌, map, reverse, Some, None}
use mathlib.Core.Option.{some}
use lib.ListN.{get_elem?}
use Rattle.job_board.specs.declared.view.View.{View}
use Rattle.job_board.specs.Board.{Slot}

-- each number of a list is below this
abbrev pub AllBelow : ℕ → List ℕ → Type 0
AllBelow slots l = (at k : ℕ) → get_elem? l at ≡ some k → k < slots

-- no two numbers of a list are equal
abbrev pub AllApart : List ℕ → Type 0
AllApart l = (at at' k : ℕ) → get_elem? l at ≡ some k → get_elem? l at' ≡ some k → at ≡ at'

module _ {J O : Type 0} where
  -- the slots that a seat holds, the one that it took last first
  abbrev pub slots_of : List (ℕ × Slot J O) → List ℕ
  slots_of held = map (λ x. x.0) held

  abbrev pub is_empty : Slot J O → Bool
  is_empty None = true
  is_empty (Some c) = false

  -- there is nothing in them
  abbrev pub all_empty : List (ℕ × Slot J O) → Bool
  all_empty [] = true
  all_empty (x ∷ xs) = cond (is_empty x.1) (all_empty xs) false

  -- the lead's free slots: it holds each, once, and there is nothing in them
  abbrev pub IsStack : ℕ → List ℕ → View J O → List (ℕ × Slot J O) → Type 0
  IsStack slots free v held = (v.free ≡ reverse free) × (slots_of held ≡ v.free) × (all_empty held ≡ true) × AllBelow slots v.free × AllApart v.free

  -- what a hand holds, as numbers with slots: those of the jobs that it took and has not done, each once
  module _ (slots : ℕ) (held : List (ℕ × ℕ)) (v : View J O) where
    abbrev pub IsBelow : Type 0
    IsBelow = (at n k : ℕ) → get_elem? held at ≡ some (n, k) → (k < slots) × (n < 2 ^ 62)

    abbrev pub SlotsApart : Type 0
    SlotsApart = (at at' n m k : ℕ) → get_elem? held at ≡ some (n, k) → get_elem? held at' ≡ some (m, k) → at ≡ at'

    abbrev pub NumbersApart : Type 0
    NumbersApart = (at at' n k q : ℕ) → get_elem? held at ≡ some (n, k) → get_elem? held at' ≡ some (n, q) → at ≡ at'

    -- a job that was taken and is not done is held
    abbrev pub KnowsAll : Type 0
    KnowsAll = (at n k : ℕ) (j : J) → get_elem? v.taken at ≡ some (n, (k, j)) → ((at' : ℕ) → get_elem? v.done at' ≢ some n) → ((at' : ℕ) → get_elem? held at' ≢ some (n, k)) → ⊥

    -- what is held was taken and is not done
    abbrev pub IsKnown : Type 0
    IsKnown = (at n k : ℕ) → get_elem? held at ≡ some (n, k) → (((at' : ℕ) (j : J) → get_elem? v.taken at' ≢ some (n, (k, j))) → ⊥) × ((at' : ℕ) → get_elem? v.done at' ≢ some n)

    abbrev pub IsBasket : Type 0
    IsBasket = IsBelow × SlotsApart × NumbersApart × KnowsAll × IsKnown

  -- the seat of a hand holds these slots, with nothing in them
  abbrev pub HoldsEmpty : List (ℕ × ℕ) → List (ℕ × Slot J O) → Type 0
  HoldsEmpty numbered held = (slots_of held ≡ map (λ x. x.1) numbered) × (all_empty held ≡ true)
