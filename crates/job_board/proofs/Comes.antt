-- A new seat at the board keeps the rule.
use Rattle.std.proofs.Common.{◌≡◌, ℕ, zero, suc, ◌<◌, ◌⊎◌, true, false, List, [], ◌∷◌, ◌++◌, get_or, sym, refl, ap, ◌∙◌, subst, inl, inr, ⊎_elim, arith}
use mathlib.Core.Option.{none, some, some-injective, some-ne-none}
use lib.ListN.{get_elem?}
use Rattle.atomic_table.specs.Table.{State, step, Enters}
use Rattle.atomic_table.proofs.Lists.{at_longer, at_snoc}
use Rattle.job_board.specs.declared.view.View.{View}
use Rattle.job_board.specs.Words.{finished_word}
use Rattle.job_board.specs.Views.{opener, newcomer, having_read}
use Rattle.job_board.specs.HandsOff.{posted_of, collected_of, free_of, taken_of, done_of, read_of, Stands}
use Rattle.job_board.specs.Board.{Slot, number, IsKept, IsBoard}
use Rattle.job_board.specs.Plays.{entered}
use Rattle.job_board.proofs.Places.{Goes}
use Rattle.job_board.proofs.Stays.{Grown, is_closed, slot_stays, whole, taken_stays, read_old, free_stays, posted_stays, done_stays, collected_stays, free_once_stays}

module _ {J O : Type 0} (views : List (View J O)) (w : View J O) where
  joined : {X : Type 0} (list : View J O → List X) → Goes list views (views ++ w ∷ [])
  joined list seat place x st = (st.0, at_longer views (w ∷ []) seat st.0 st.1, st.2)

  -- an entry of a seat that was there, or of the new one
  earlier : {X : Type 0} (list : View J O → List X) (seat place : ℕ) (x : X) → Stands list (views ++ w ∷ []) seat place x → (Stands list views seat place x) ⊎ (get_elem? (list w) place ≡ some x)
  earlier list seat place x st = ⊎_elim (λ e. inl (st.0, e, st.2)) (λ e. inr (subst (λ (u : View J O). get_elem? (list u) place ≡ some x) (sym e) st.2)) (at_snoc views w st.0 seat st.1)

  without : {X : Type 0} (list : View J O → List X) → list w ≡ [] → Goes list (views ++ w ∷ []) views
  without list empty seat place x st = ⊎_elim (λ old. old) (λ e. absurd (some-ne-none x (sym (subst (λ l. get_elem? l place ≡ some x) empty e)))) (earlier list seat place x st)

no_lead : false ≡ true → ⊥
no_lead e = (cc)

-- the one entry of a list
one_read : (i found slot word place : ℕ) → get_elem? {A = ℕ × ℕ} ((i, found) ∷ []) place ≡ some (slot, word) → i ≡ slot
one_read i found slot word zero e = ap (λ (z : ℕ × ℕ). z.0) (some-injective (i, found) (slot, word) e)
one_read i found slot word (suc place) e = absurd (some-ne-none (slot, word) (sym e))

one_found : (i found slot word place : ℕ) → get_elem? {A = ℕ × ℕ} ((i, found) ∷ []) place ≡ some (slot, word) → found ≡ word
one_found i found slot word zero e = ap (λ (z : ℕ × ℕ). z.1) (some-injective (i, found) (slot, word) e)
one_found i found slot word (suc place) e = absurd (some-ne-none (slot, word) (sym e))

module _ {J O : Type 0} (answers : J → O → Type 0) where
  comes : (s : State (Slot J O) (View J O)) (r : IsKept answers s) (i found : ℕ) → i ≡ r.slots → found ≡ get_or s.words r.slots 0 → IsKept answers record { words = s.words; homes = s.homes; views = s.views ++ having_read newcomer ((i, found) ∷ []) ∷ [] }
  comes s r i found last seen = let w : View J O = having_read newcomer ((i, found) ∷ []) in let after : List (View J O) = s.views ++ w ∷ [] in
      let g : Grown s.views after = record { posted = joined s.views w posted_of; taken = joined s.views w taken_of; done = joined s.views w done_of; collected = joined s.views w collected_of } in record {
        slots = r.slots;
        phase = r.phase;
        wide = r.wide;
        deep = r.deep;
        each_slot = λ k near. slot_stays s.views after g answers (get_or s.words k 0) k (get_elem? s.homes k) (r.phase k)
            (λ _ not h p o st. not h p o (without s.views w collected_of refl h p (number (r.phase k), o) st)) (λ _ not h p q j st. not h p q j (without s.views w taken_of refl h p (number (r.phase k), (q, j)) st))
            (λ t. (t.0, joined s.views w free_of 0 t.0 k t.1)) (r.each_slot k near);
        apart = r.apart;
        posted = posted_stays answers s r after g (without s.views w posted_of refl);
        taken = taken_stays answers s r after g r.phase (without s.views w taken_of refl) (λ _ _ _ _ e. inl e);
        taken_once = λ a p b q n x y st su. r.taken_once a p b q n x y (without s.views w taken_of refl a p (n, x) st) (without s.views w taken_of refl b q (n, y) su);
        done = done_stays answers s r after g (without s.views w done_of refl);
        collected = collected_stays answers s r after g (without s.views w collected_of refl);
        collected_once = λ a p b q n x y st su. r.collected_once a p b q n x y (without s.views w collected_of refl a p (n, x) st) (without s.views w collected_of refl b q (n, y) su);
        read = λ seat place slot n st near. ⊎_elim (λ old. read_old answers s r after g r.phase (λ _ _ _ _ e. inl e) seat place slot n old near)
            (λ e. let same : i ≡ slot = one_read i found slot (finished_word n) place e in let inside : slot < r.slots = near in let l : i ≡ r.slots = last in absurd (omega arith))
            (earlier s.views w read_of seat place (slot, finished_word n) st);
        free = free_stays answers s r after g r.phase (without s.views w free_of refl) (λ _ e. e);
        free_once = free_once_stays answers s r after g (without s.views w free_of refl);
        leads = λ seat v e lead. ⊎_elim (λ old. r.leads seat v old lead) (λ d. absurd (no_lead (ap (λ (u : View J O). u.leads) d ∙ lead))) (at_snoc s.views w v seat e);
        closes = λ seat v e shut. ⊎_elim (λ old. r.closes seat v old shut) (λ d. absurd (no_lead (ap (λ (u : View J O). u.closed) d ∙ shut))) (at_snoc s.views w v seat e);
        closing = (r.closing.0, at_longer s.views (w ∷ []) 0 r.closing.0 r.closing.1, r.closing.2, r.closing.3);
        seen = λ seat place st. let c = ⊎_elim (λ old. r.seen seat place old) (λ e. is_closed s.views s.words r.slots r.closing (sym seen ∙ one_found i found r.slots 1 place e)) (earlier s.views w read_of seat place (r.slots, 1) st) in
            (c.0, c.1, at_longer s.views (w ∷ []) c.0 c.1 c.2, c.3);
      }

  pub enters : (n i : ℕ) → i ≡ n → Enters (IsBoard answers) n i (λ x w. entered (step n i 0 0 none) (opener, []) x (w, []))
  enters n i last s h deep small = (having_read newcomer ((i, get_or s.words i 0) ∷ []), whole answers _ (comes s h.1 i (get_or s.words i 0) (last ∙ sym deep ∙ h.1.deep) (ap (λ (z : ℕ). get_or s.words z 0) (last ∙ sym deep ∙ h.1.deep))), refl)
