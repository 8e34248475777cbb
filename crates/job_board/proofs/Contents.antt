-- What a seat takes out of the slot that it took last, and what looks add up to.
use Rattle.std.proofs.Common.{◌≡◌, ◌≢◌, ℕ, suc, ◌+◌, List, [], ◌∷◌, ◌++◌, length, sym, refl, ap, ◌∙◌, subst, arith, append_assoc, Some, None}
use mathlib.Core.Option.{some, some-injective}
use lib.ListN.{get_elem?}
use Rattle.atomic_table.specs.Table.{rest}
use Rattle.atomic_table.proofs.Lists.{at_last}
use Rattle.job_board.specs.declared.view.View.{View}
use Rattle.job_board.specs.declared.view.Content.TheVariants.{Job, Outcome}
use Rattle.job_board.specs.Words.{finished_word}
use Rattle.job_board.specs.Views.{having_read, Missed, MissedAll, NoneFinished}
use Rattle.job_board.specs.Board.{Slot}
use Rattle.job_board.specs.Plays.{Seated}

module _ {J O : Type 0} where
  abbrev job_or : J → Slot J O → J
  job_or d None = d
  job_or d (Some (Job j)) = j
  job_or d (Some (Outcome o)) = d

  abbrev outcome_or : O → Slot J O → O
  outcome_or d None = d
  outcome_or d (Some (Job j)) = d
  outcome_or d (Some (Outcome o)) = o

  pub one_job : (i j : J) (x : Slot J O) → x ≡ Some (Job i) → x ≡ Some (Job j) → i ≡ j
  one_job i j x a b = ap (job_or i) (sym a ∙ b)

  pub one_outcome : (i j : O) (x : Slot J O) → x ≡ Some (Outcome i) → x ≡ Some (Outcome j) → i ≡ j
  one_outcome i j x a b = ap (outcome_or i) (sym a ∙ b)

  -- what lies in the slot that was taken last
  pub one_top : (held more more' : List (ℕ × Slot J O)) (k k' : ℕ) (x y : Slot J O) → held ≡ (k, x) ∷ more → held ≡ (k', y) ∷ more' → x ≡ y
  one_top held more more' k k' x y a b = ap (λ (z : ℕ × Slot J O). z.1) (some-injective (k, x) (k', y) (ap (λ (l : List (ℕ × Slot J O)). get_elem? l 0) (sym a ∙ b)))

  pub top_again : (held : List (ℕ × Slot J O)) (m : Seated J O) (v : View J O) (k : ℕ) (x : Slot J O) → m ≡ (v, (k, x) ∷ held) → m.1 ≡ (k, x) ∷ rest m.1
  top_again held m v k x e = ap (λ (z : Seated J O). z.1) e ∙ ap (λ (l : List (ℕ × Slot J O)). (k, x) ∷ l) (sym (ap (λ (z : Seated J O). rest z.1) e))

  -- two looks, one after the other
  pub reads_more : (v : View J O) (a b : List (ℕ × ℕ)) → having_read (having_read v a) b ≡ having_read v (a ++ b)
  reads_more v a b = ap {B = View J O} (λ (l : List (ℕ × ℕ)). record v { read = l }) (append_assoc v.read a b)

-- one slot more was looked at
pub missed_next : (slot : ℕ) (before last : List (ℕ × ℕ)) → MissedAll slot before → Missed slot last → MissedAll (slot + 1) (before ++ last)
missed_next slot before last all one = let next : suc slot ≡ slot + 1 = omega arith in subst (λ (z : ℕ). MissedAll z (before ++ last)) next (before, last, all, one, refl)

pub none_next : (slot found : ℕ) (before : List (ℕ × ℕ)) → NoneFinished slot before → ((n : ℕ) → found ≢ finished_word n) → NoneFinished (slot + 1) (before ++ (slot, found) ∷ [])
none_next slot found before all one = let next : suc slot ≡ slot + 1 = omega arith in subst (λ (z : ℕ). NoneFinished z (before ++ (slot, found) ∷ [])) next (before, found, all, one, refl)

module _ {J O : Type 0} where
  pub reads_then : (v v' v'' : View J O) (a b : List (ℕ × ℕ)) → v' ≡ having_read v a → v'' ≡ having_read v' b → v'' ≡ having_read v (a ++ b)
  reads_then v v' v'' a b e d = d ∙ ap {B = View J O} (λ (u : View J O). having_read u b) e ∙ reads_more v a b

  -- after all these looks it was read that the board is closed
  pub read_closed : (v v' v'' w : View J O) (a b : List (ℕ × ℕ)) (last slots found : ℕ) → v' ≡ having_read v a → v'' ≡ having_read v' b → w ≡ having_read v'' ((last, found) ∷ []) → last ≡ slots → found ≡ 1
      → (gained : List (ℕ × ℕ)) × (w ≡ having_read v gained) × ((at : ℕ) × (get_elem? w.read at ≡ some (slots, 1)))
  read_closed v v' v'' w a b last slots found e d f is one = (
    a ++ b ++ (last, found) ∷ [],
    reads_then v v'' w (a ++ b) ((last, found) ∷ []) (reads_then v v' v'' a b e d) f,
    (
      length v''.read,
      ap (λ (u : View J O). get_elem? u.read (length v''.read)) f ∙ at_last v''.read (last, found) (length v''.read) refl ∙ ap (λ (z : ℕ). some (z, found)) is ∙ ap (λ (z : ℕ). some (slots, z)) one,
    ),
  )
