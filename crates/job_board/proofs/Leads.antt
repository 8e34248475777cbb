-- What a lead knows, as it posts and collects.
use Rattle.std.proofs.Common.{◌≡◌, ◌≢◌, ℕ, suc, ◌+◌, ◌<◌, ◌≤◌, true, List, [], ◌∷◌, ◌++◌, length, drop, sym, refl, ap, ◌∙◌, subst, ⊎_elim, arith, length-append, Some, None}
use mathlib.Core.Option.{some}
use lib.ListN.{get_elem?}
use Rattle.atomic_table.specs.Table.{rest}
use Rattle.job_board.specs.declared.view.View.{View}
use Rattle.job_board.specs.declared.view.Content.TheVariants.{Job, Outcome}
use Rattle.job_board.specs.Views.{having_read, after_post, after_collect, HasPosted, Uncollected, IsTally}
use Rattle.job_board.specs.Words.{finished_word}
use Rattle.atomic_table.proofs.Lists.{at_last}
use Rattle.job_board.specs.Board.{Slot}
use Rattle.job_board.specs.Plays.{Seated}
use Rattle.job_board.specs.Held.{IsStack}
use Rattle.job_board.proofs.Places.{at_end, within}
use Rattle.job_board.proofs.Contents.{reads_then}
use Rattle.job_board.proofs.Stacks.{top_free, stack_posts, stack_more}

module _ {J O : Type 0} (slots : ℕ) (me : Seated J O) (free free' : List ℕ) (k : ℕ) where
  length_top : (l : List ℕ) → get_elem? l 0 ≡ some k → length l ≡ suc (length (drop 1 l))
  length_top [] e = let h : 0 < length {A = ℕ} [] = within [] 0 k e in absurd (omega arith)
  length_top (x ∷ xs) e = refl

  -- a job was put into the slot that was popped, and is posted there
  module _ (me1 me' : Seated J O) (n : ℕ) (j : J) (now : me1 ≡ (me.0, (k, Some (Job j)) ∷ rest me.1)) where
    pub holds_job : me1.1 ≡ (k, Some (Job j)) ∷ rest me1.1
    holds_job = ap (λ (m : Seated J O). m.1) now ∙ ap (λ (l : List (ℕ × Slot J O)). (k, Some (Job j)) ∷ l) (sym (ap (λ (m : Seated J O). rest m.1) now))

    pub has_posted : me' ≡ (after_post me1.0 n j, rest me1.1) → me' ≡ (after_post me.0 n j, rest me.1)
    has_posted e = e ∙ ap {B = Seated J O} (λ (m : Seated J O). (after_post m.0 n j, rest m.1)) now

    module _ (is : me' ≡ (after_post me.0 n j, rest me.1)) (stack : IsStack slots free me.0 me.1) (popped : free ≡ free' ++ k ∷ []) (next : n ≡ suc (length me.0.posted)) where
      pub posted_stack : IsStack slots free' me'.0 me'.1
      posted_stack = subst (λ (m : Seated J O). IsStack slots free' m.0 m.1) (sym is) (stack_posts slots me.0 me.1 free free' k stack popped n j)

      pub posted_counted : length me.0.free + length me.0.posted ≡ slots + length me.0.collected → (n ≡ length me'.0.posted) × (length me'.0.free + length me'.0.posted ≡ slots + length me'.0.collected)
      posted_counted count = subst (λ (m : Seated J O). (n ≡ length m.0.posted) × (length m.0.free + length m.0.posted ≡ slots + length m.0.collected)) (sym is)
          (let a : length (me.0.posted ++ (n, j) ∷ []) ≡ length me.0.posted + 1 = length-append me.0.posted ((n, j) ∷ []) in let b = length_top me.0.free (top_free slots me.0 me.1 free free' k stack popped) in
          let b' : length me.0.free ≡ suc (length (drop 1 me.0.free)) = b in let c : n ≡ suc (length me.0.posted) = next in (omega arith, omega arith))

      pub posted_tally : IsTally me.0 → IsTally me'.0
      posted_tally t = subst (λ (m : Seated J O). IsTally m.0) (sym is) (
        (λ at m i e. ⊎_elim (λ old. t.0 at m i old) (λ p. let q : n ≡ m = ap (λ (z : ℕ × J). z.0) p.1 in let c : n ≡ suc (length me.0.posted) = next in let d : at ≡ length me.0.posted = p.0 in omega arith) (at_end me.0.posted (n, j) (m, i) at e)),
        λ at m o e. let a : length (me.0.posted ++ (n, j) ∷ []) ≡ length me.0.posted + 1 = length-append me.0.posted ((n, j) ∷ []) in let b : m ≤ length me.0.posted = t.1 at m o e in omega arith,
      )

  -- an outcome was collected, and taken out of its slot
  module _ (me1 me' : Seated J O) (n : ℕ) (o : O) (now : me1 ≡ (after_collect me.0 n o k, (k, Some (Outcome o)) ∷ me.1)) where
    pub holds_outcome : me1.1 ≡ (k, Some (Outcome o)) ∷ rest me1.1
    holds_outcome = ap (λ (m : Seated J O). m.1) now ∙ ap (λ (l : List (ℕ × Slot J O)). (k, Some (Outcome o)) ∷ l) (sym (ap (λ (m : Seated J O). rest m.1) now))

    pub has_collected : me' ≡ (me1.0, (k, None) ∷ rest me1.1) → me' ≡ (after_collect me.0 n o k, (k, None) ∷ me.1)
    has_collected e = e ∙ ap {B = Seated J O} (λ (m : Seated J O). (m.0, (k, None) ∷ rest m.1)) now

    module _ (is : me' ≡ (after_collect me.0 n o k, (k, None) ∷ me.1)) (stack : IsStack slots free me.0 me.1) (inside : k < slots) (new : (at : ℕ) → get_elem? me.0.free at ≢ some k) (j : J) (posted : HasPosted me.0 n j) where
      pub collected_stack : IsStack slots (free ++ k ∷ []) me'.0 me'.1
      collected_stack = subst (λ (m : Seated J O). IsStack slots (free ++ k ∷ []) m.0 m.1) (sym is) (stack_more slots me.0 me.1 free free k stack inside new (after_collect me.0 n o k) refl)

      pub collected_counted : length me.0.free + length me.0.posted ≡ slots + length me.0.collected → (length me'.0.posted ≡ length me.0.posted) × (length me'.0.free + length me'.0.posted ≡ slots + length me'.0.collected)
      collected_counted count = subst (λ (m : Seated J O). (length m.0.posted ≡ length me.0.posted) × (length m.0.free + length m.0.posted ≡ slots + length m.0.collected)) (sym is)
          (let a : length (me.0.collected ++ (n, o) ∷ []) ≡ length me.0.collected + 1 = length-append me.0.collected ((n, o) ∷ []) in (refl, omega arith))

      pub collected_tally : IsTally me.0 → IsTally me'.0
      collected_tally t = subst (λ (m : Seated J O). IsTally m.0) (sym is) (
        t.0,
        λ at m y e. ⊎_elim (λ old. t.1 at m y old) (λ p. let q : n ≡ m = ap (λ (z : ℕ × O). z.0) p.1 in let d : n ≡ posted.0 + 1 = t.0 posted.0 n j posted.1 in let w : posted.0 < length me.0.posted = within me.0.posted posted.0 (n, j) posted.1 in omega arith)
            (at_end me.0.collected (n, o) (m, y) at e),
      )

-- the lead looks at a slot
module _ {J O : Type 0} (me me1 : Seated J O) (slot seen n : ℕ) (looked : me1 ≡ (having_read me.0 ((slot, seen) ∷ []), me.1)) where
  pub sees_finished : seen ≡ finished_word n → (at : ℕ) × (get_elem? me1.0.read at ≡ some (slot, finished_word n))
  sees_finished e = (length me.0.read, ap (λ (m : Seated J O). get_elem? m.0.read (length me.0.read)) looked ∙ at_last me.0.read (slot, seen) (length me.0.read) refl ∙ ap (λ (z : ℕ). some (slot, z)) e)

  pub looked_leads : me.0.leads ≡ true → me1.0.leads ≡ true
  looked_leads e = ap (λ (m : Seated J O). m.0.leads) looked ∙ e

  pub looked_open : Uncollected me.0 n → Uncollected me1.0 n
  looked_open not = subst (λ (m : Seated J O). Uncollected m.0 n) (sym looked) not

  pub looked_stack : (slots : ℕ) (free : List ℕ) → IsStack slots free me.0 me.1 → IsStack slots free me1.0 me1.1
  looked_stack slots free stack = subst (λ (m : Seated J O). IsStack slots free m.0 m.1) (sym looked) stack

  pub looked_counted : (slots posted : ℕ) → (posted ≡ length me.0.posted) × (length me.0.free + length me.0.posted ≡ slots + length me.0.collected) → (posted ≡ length me1.0.posted) × (length me1.0.free + length me1.0.posted ≡ slots + length me1.0.collected)
  looked_counted slots posted c = subst (λ (m : Seated J O). (posted ≡ length m.0.posted) × (length m.0.free + length m.0.posted ≡ slots + length m.0.collected)) (sym looked) c

  pub looked_tally : IsTally me.0 → IsTally me1.0
  looked_tally t = subst (λ (m : Seated J O). IsTally m.0) (sym looked) t

  -- and what it collected there was open before
  pub collected_it : (answers : J → O → Type 0) (me3 : Seated J O) (o o' : O) → seen ≡ finished_word n → me3 ≡ (after_collect me1.0 n o slot, (slot, None) ∷ me1.1) → o ≡ o' → Uncollected me.0 n → ((j : J) × HasPosted me1.0 n j × answers j o)
      → (me3.0 ≡ after_collect (having_read me.0 ((slot, finished_word n) ∷ [])) n o' slot) × Uncollected me.0 n × ((j : J) × HasPosted me.0 n j × answers j o')
  collected_it answers me3 o o' e is same not p = (
    ap (λ (m : Seated J O). m.0) is ∙ ap {B = View J O} (λ (m : Seated J O). after_collect m.0 n o slot) looked ∙ ap {B = View J O} (λ (z : ℕ). after_collect (having_read me.0 ((slot, z) ∷ [])) n o slot) e
        ∙ ap {B = View J O} (λ (z : O). after_collect (having_read me.0 ((slot, finished_word n) ∷ [])) n z slot) same,
    not,
    (p.0, subst (λ (m : Seated J O). HasPosted m.0 n p.0) looked p.1, subst (λ (z : O). answers p.0 z) same p.2),
  )

-- after looks, an outcome was collected
pub collected_after : {J O : Type 0} (answers : J → O → Type 0) (v v' w : View J O) (a b : List (ℕ × ℕ)) (n slot : ℕ) (o : O) → v' ≡ having_read v a
    → (w ≡ after_collect (having_read v' b) n o slot) × Uncollected v' n × ((j : J) × HasPosted v' n j × answers j o)
    → (w ≡ after_collect (having_read v (a ++ b)) n o slot) × Uncollected v n × ((j : J) × HasPosted v n j × answers j o)
collected_after {J} {O} answers v v' w a b n slot o e t = (
  t.0 ∙ ap {B = View J O} (λ (u : View J O). after_collect u n o slot) (reads_then v v' (having_read v' b) a b e refl),
  subst (λ (u : View J O). Uncollected u n) e t.1,
  (t.2.0, subst (λ (u : View J O). HasPosted u n t.2.0) e t.2.1, t.2.2),
)
