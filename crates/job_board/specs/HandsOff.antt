-- How jobs pass from the lead to the hands and back, told by the views of all seats.
use Rattle.std.specs.Prelude.{ℕ, ◌≡◌, true, List}
use mathlib.Core.Option.{some}
use lib.ListN.{get_elem?}
use Rattle.job_board.specs.declared.view.View.{View}

module _ {J O : Type 0} where
  abbrev pub posted_of : View J O → List (ℕ × J)
  posted_of v = v.posted

  abbrev pub collected_of : View J O → List (ℕ × O)
  collected_of v = v.collected

  abbrev pub free_of : View J O → List ℕ
  free_of v = v.free

  abbrev pub taken_of : View J O → List (ℕ × (ℕ × J))
  taken_of v = v.taken

  abbrev pub done_of : View J O → List ℕ
  done_of v = v.done

  abbrev pub read_of : View J O → List (ℕ × ℕ)
  read_of v = v.read

  -- at this place of the list of a seat's view stands x
  abbrev pub Stands : {X : Type 0} → (View J O → List X) → List (View J O) → ℕ → ℕ → X → Type 0
  Stands list views seat place x = (v : View J O) × (get_elem? views seat ≡ some v) × (get_elem? (list v) place ≡ some x)

  -- each number stands once, in one view
  abbrev pub Once : {X : Type 0} → (View J O → List (ℕ × X)) → List (View J O) → Type 0
  Once {X} list views = (seat place seat' place' n : ℕ) (x x' : X) → Stands list views seat place (n, x) → Stands list views seat' place' (n, x') → (seat ≡ seat') × (place ≡ place')

  -- one of the seats has closed the board
  abbrev pub IsClosed : List (View J O) → Type 0
  IsClosed views = (seat : ℕ) × (v : View J O) × (get_elem? views seat ≡ some v) × (v.closed ≡ true)

-- No number is posted twice. What is taken was posted under its number, and is taken once, by one hand. What is done was taken by the hand that did
-- it. What is collected was done, is collected once, and answers the job that was posted under its number. There is one lead, only the lead closes
-- the board, and where a seat has read 1 as the closing word, which stands behind those of the slots, the board is closed.
pub record HandsOff {J O : Type 0} (answers : J → O → Type 0) (slots : ℕ) (views : List (View J O)) : Type 0 where
  pub posted_once : Once posted_of views
  pub taken_once : Once taken_of views
  pub collected_once : Once collected_of views
  pub taken_posted : (hand place n slot : ℕ) (j : J) → Stands taken_of views hand place (n, (slot, j)) → (lead : ℕ) × (at : ℕ) × Stands posted_of views lead at (n, j)
  pub done_taken : (hand place n : ℕ) → Stands done_of views hand place n → (at : ℕ) × (slot : ℕ) × (j : J) × Stands taken_of views hand at (n, (slot, j))
  pub collected_done : (lead place n : ℕ) (o : O) → Stands collected_of views lead place (n, o) → (hand : ℕ) × (at : ℕ) × Stands done_of views hand at n
  pub answered : (lead place n : ℕ) (o : O) → Stands collected_of views lead place (n, o) → (lead' place' : ℕ) (j : J) → Stands posted_of views lead' place' (n, j) → answers j o
  pub one_lead : (seat seat' : ℕ) (v v' : View J O) → get_elem? views seat ≡ some v → get_elem? views seat' ≡ some v' → v.leads ≡ true → v'.leads ≡ true → seat ≡ seat'
  pub lead_closes : (seat : ℕ) (v : View J O) → get_elem? views seat ≡ some v → v.closed ≡ true → v.leads ≡ true
  pub seen_closed : (seat place : ℕ) → Stands read_of views seat place (slots, 1) → IsClosed views
