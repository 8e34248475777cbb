-- What a hand knows, as it looks at a slot and takes the job there.
use Rattle.std.proofs.Common.{◌≡◌, ◌≢◌, ℕ, ◌<◌, ◌≤◌, ◌^◌, List, [], ◌∷◌, ◌++◌, length, sym, refl, ap, ◌∙◌, subst, inr, arith, Some, None}
use mathlib.Core.Option.{some}
use Rattle.atomic_table.specs.Table.{rest}
use Rattle.atomic_table.proofs.Lists.{at_last}
use Rattle.job_board.specs.declared.view.View.{View}
use Rattle.job_board.specs.declared.view.Content.TheVariants.{Job, Outcome}
use Rattle.job_board.specs.Words.{posted_word}
use Rattle.job_board.specs.Views.{having_read, after_take, after_done, HasJob, Missed}
use Rattle.job_board.specs.Board.{Slot}
use Rattle.job_board.specs.Plays.{Seated, IsNew}
use Rattle.job_board.specs.Held.{IsBasket, HoldsEmpty}
use Rattle.job_board.proofs.Baskets.{basket_takes, basket_room, front_given, front_done}
use Rattle.job_board.proofs.Contents.{one_job, one_top, top_again, reads_more, reads_then}

module _ {J O : Type 0} (slots : ℕ) (held : List (ℕ × ℕ)) (me me' : Seated J O) (gained : List (ℕ × ℕ)) (read : me' ≡ (having_read me.0 gained, me.1)) where
  pub read_holds : HoldsEmpty held me.1 → HoldsEmpty held me'.1
  read_holds h = subst (λ (m : Seated J O). HoldsEmpty held m.1) (sym read) h

  pub read_basket : IsBasket slots held me.0 → IsBasket slots held me'.0
  read_basket b = subst (λ (m : Seated J O). IsBasket slots held m.0) (sym read) b

module _ {J O : Type 0} (me me1 me2 : Seated J O) (slot seen n : ℕ) (looked : me1 ≡ (having_read me.0 ((slot, seen) ∷ []), me.1)) where
  -- the job that waited was gone
  module _ (was : ℕ) (missed : me2 ≡ (having_read me1.0 ((slot, was) ∷ []), me1.1)) where
    pub missed_twice : me2 ≡ (having_read me.0 ((slot, seen) ∷ (slot, was) ∷ []), me.1)
    missed_twice = missed ∙ ap {B = Seated J O} (λ (m : Seated J O). (having_read m.0 ((slot, was) ∷ []), m.1)) looked ∙ ap {B = Seated J O} (λ (v : View J O). (v, me.1)) (reads_more me.0 ((slot, seen) ∷ []) ((slot, was) ∷ []))

    pub missed_it : seen ≡ posted_word n → was ≢ seen → (gained : List (ℕ × ℕ)) × (me2.0 ≡ having_read me.0 gained) × Missed slot gained
    missed_it shows other = ((slot, seen) ∷ (slot, was) ∷ [], ap (λ (m : Seated J O). m.0) missed_twice, inr (n, was, (λ e. other (e ∙ sym shows)), ap (λ (z : ℕ). (slot, z) ∷ (slot, was) ∷ []) shows))

  -- the job was taken
  module _ (took : (j : J) × (me2 ≡ (after_take me1.0 n slot j, (slot, Some (Job j)) ∷ me1.1)) × IsNew me1.0 n slot) where
    pub lies_there : me2.1 ≡ (slot, Some (Job took.0)) ∷ rest me2.1
    lies_there = top_again me1.1 me2 (after_take me1.0 n slot took.0) slot (Some (Job took.0)) took.1

    new_here : IsNew me.0 n slot
    new_here = subst (λ (m : Seated J O). IsNew m.0 n slot) looked took.2

    pub room_there : (slots : ℕ) (held : List (ℕ × ℕ)) → IsBasket slots held me.0 → slot < slots → n < 2 ^ 62 → length held < slots
    room_there slots held b inside small = let r : length ((n, slot) ∷ held) ≤ slots = basket_room slots ((n, slot) ∷ held) (after_take me.0 n slot took.0) (basket_takes slots held me.0 n slot took.0 b inside small new_here) in omega arith

    module _ (me3 : Seated J O) (content : Slot J O) (out : me2.1 ≡ (slot, content) ∷ rest me2.1) (now : me3 ≡ (me2.0, (slot, None) ∷ rest me2.1)) where
      pub content_is : content ≡ Some (Job took.0)
      content_is = one_top me2.1 (rest me2.1) (rest me2.1) slot slot content (Some (Job took.0)) out lies_there

      pub taken_is : me3 ≡ (after_take (having_read me.0 ((slot, seen) ∷ [])) n slot took.0, (slot, None) ∷ me.1)
      taken_is = now ∙ ap {B = Seated J O} (λ (m : Seated J O). (m.0, (slot, None) ∷ rest m.1)) took.1 ∙ ap {B = Seated J O} (λ (m : Seated J O). (after_take m.0 n slot took.0, (slot, None) ∷ m.1)) looked

      pub taken_holds : (held : List (ℕ × ℕ)) → HoldsEmpty held me.1 → HoldsEmpty ((n, slot) ∷ held) me3.1
      taken_holds held h = subst (λ (m : Seated J O). HoldsEmpty ((n, slot) ∷ held) m.1) (sym taken_is) (ap (λ (l : List ℕ). slot ∷ l) h.0, h.1)

      pub taken_basket : (slots : ℕ) (held : List (ℕ × ℕ)) → IsBasket slots held me.0 → slot < slots → n < 2 ^ 62 → IsBasket slots ((n, slot) ∷ held) me3.0
      taken_basket slots held b inside small = subst (λ (m : Seated J O). IsBasket slots ((n, slot) ∷ held) m.0) (sym taken_is) (basket_takes slots held me.0 n slot took.0 b inside small new_here)

      pub taken_it : (job : J) → content ≡ Some (Job job) → seen ≡ posted_word n → (me3.0 ≡ after_take (having_read me.0 ((slot, posted_word n) ∷ [])) n slot job) × HasJob me3.0 n slot job
      taken_it job is shows = let same : took.0 ≡ job = one_job took.0 job content content_is is in let e = ap (λ (m : Seated J O). m.0) taken_is in (
        e ∙ ap (λ (j : J). after_take (having_read me.0 ((slot, seen) ∷ [])) n slot j) same ∙ ap (λ (z : ℕ). after_take (having_read me.0 ((slot, z) ∷ [])) n slot job) shows,
        subst (λ (v : View J O). HasJob v n slot job) (sym e)
            ((length me.0.taken, at_last me.0.taken (n, (slot, took.0)) (length me.0.taken) refl ∙ ap (λ (j : J). some (n, (slot, j))) same), new_here.1),
      )

-- an outcome was put into the slot of the job that is done, and given
module _ {J O : Type 0} (slots : ℕ) (held less : List (ℕ × ℕ)) (x : ℕ × ℕ) (popped : held ≡ x ∷ less) (me me1 me' : Seated J O) (n k : ℕ) (o : O) (is : x ≡ (n, k)) (now : me1 ≡ (me.0, (k, Some (Outcome o)) ∷ rest me.1)) where
  pub outcome_there : me1.1 ≡ (k, Some (Outcome o)) ∷ rest me1.1
  outcome_there = top_again (rest me.1) me1 me.0 k (Some (Outcome o)) now

  module _ (given : me' ≡ (after_done me1.0 n, rest me1.1)) where
    pub done_is : me' ≡ (after_done me.0 n, rest me.1)
    done_is = given ∙ ap {B = Seated J O} (λ (m : Seated J O). (after_done m.0 n, rest m.1)) now

    pub done_holds : HoldsEmpty held me.1 → HoldsEmpty less me'.1
    done_holds h = subst (λ (m : Seated J O). HoldsEmpty less m.1) (sym done_is) (front_given slots held less x popped me.1 h)

    pub done_basket : IsBasket slots held me.0 → IsBasket slots less me'.0
    done_basket b = subst (λ (m : Seated J O). IsBasket slots less m.0) (sym done_is) (front_done slots held less x popped me.0 n k is b)

-- after looks, a job was taken
pub taken_after : {J O : Type 0} (v v' w : View J O) (a b : List (ℕ × ℕ)) (n slot : ℕ) (j : J) → v' ≡ having_read v a → w ≡ after_take (having_read v' b) n slot j → w ≡ after_take (having_read v (a ++ b)) n slot j
taken_after {J} {O} v v' w a b n slot j e t = t ∙ ap {B = View J O} (λ (u : View J O). after_take u n slot j) (reads_then v v' (having_read v' b) a b e refl)
