-- A new board keeps the rule, and its lead comes by its slots.
use Rattle.std.proofs.Common.{◌≡◌, ◌≢◌, ℕ, zero, suc, ◌+◌, ◌<◌, ◌≤◌, ◌^◌, true, false, List, [], ◌∷◌, ◌++◌, map, replicate, reverse, length, get_or, sym, refl, ap, ◌∙◌, subst, inr, ⊎_elim, arith, None}
use Rattle.std.proofs.lemmas.List.{length-reverse}
use mathlib.Core.Option.{some, some-injective, some-ne-none}
use lib.ListN.{get_elem?}
use Rattle.atomic_table.specs.Table.{opening}
use Rattle.job_board.specs.declared.view.View.{View}
use Rattle.job_board.specs.Views.{opener, after_claim, IsTally}
use Rattle.job_board.specs.Held.{IsStack}
use Rattle.job_board.specs.Plays.{Seated}
use Rattle.job_board.proofs.Frees.{in_longer}
use Rattle.job_board.proofs.Stacks.{stack_more}
use Rattle.job_board.specs.HandsOff.{posted_of, collected_of, free_of, taken_of, done_of, read_of, Stands}
use Rattle.job_board.specs.Board.{Slot, idle, IsBoard}
use Rattle.job_board.proofs.Stays.{whole}

count_home : (S : Type 0) (y : S) (n : ℕ) → length (map some (replicate n y)) ≡ n
count_home S y zero = refl
count_home S y (suc n) = ap suc (count_home S y n)

module _ {J O : Type 0} where
  -- no list of the first view has an entry
  blank : {X : Type 0} (list : View J O → List X) → list opener ≡ [] → (seat place : ℕ) (x : X) → Stands list (opener ∷ []) seat place x → ⊥
  blank list empty zero place x st = some-ne-none x (sym (subst (λ l. get_elem? l place ≡ some x) (ap list (sym (some-injective opener st.0 st.1)) ∙ empty) st.2))
  blank list empty (suc seat) place x st = some-ne-none st.0 (sym st.1)

  all_home : (n k : ℕ) → k < n → get_elem? (map some (replicate {A = Slot J O} n None)) k ≡ some (some None)
  all_home zero k near = absurd (omega arith)
  all_home (suc n) zero near = refl
  all_home (suc n) (suc k) near = all_home n k (omega arith)

  module _ (answers : J → O → Type 0) where
    pub starts : (words : List ℕ) (n : ℕ) → length words ≡ n + 1 → ((k : ℕ) → get_or words k 0 ≡ 0) → IsBoard answers (opening words (replicate n None) opener)
    starts words n wide zeros = whole answers _ record {
      slots = n;
      phase = λ _. idle;
      wide = omega arith;
      deep = count_home (Slot J O) None n;
      each_slot = λ k near. (zeros k, inr (all_home n k near));
      apart = λ _ _ _ _ _ nz. absurd (nz refl);
      posted = λ a p n j st. absurd (blank posted_of refl a p (n, j) st);
      taken = λ a p n k j st. absurd (blank taken_of refl a p (n, (k, j)) st);
      taken_once = λ a p b q n x y st su. absurd (blank taken_of refl a p (n, x) st);
      done = λ a p n st. absurd (blank done_of refl a p n st);
      collected = λ a p n o st. absurd (blank collected_of refl a p (n, o) st);
      collected_once = λ a p b q n x y st su. absurd (blank collected_of refl a p (n, x) st);
      read = λ a p k n st near. absurd (blank read_of refl a p (k, _) st);
      free = λ a p k st. absurd (blank free_of refl a p k st);
      free_once = λ a p q k st su. absurd (blank free_of refl a p k st);
      leads = only_first;
      closes = λ seat v e shut. absurd (open_still seat v e shut);
      closing = (opener, refl, refl, zeros n);
      seen = λ a p st. absurd (blank read_of refl a p (n, 1) st);
    }
      where
        only_first : (seat : ℕ) (v : View J O) → get_elem? (opener ∷ []) seat ≡ some v → v.leads ≡ true → seat ≡ 0
        only_first zero v e lead = refl
        only_first (suc seat) v e lead = absurd (some-ne-none v (sym e))

        open_still : (seat : ℕ) (v : View J O) → get_elem? (opener ∷ []) seat ≡ some v → v.closed ≡ true → ⊥
        open_still zero v e shut = let c : false ≡ true = ap (λ (u : View J O). u.closed) (some-injective opener v e) ∙ shut in (cc)
        open_still (suc seat) v e shut = some-ne-none v (sym e)

pub zeros_there : (n k : ℕ) → get_or {A = ℕ} (replicate n 0) k 0 ≡ 0
zeros_there zero k = refl
zeros_there (suc n) zero = refl
zeros_there (suc n) (suc k) = zeros_there n k

-- a slot was claimed, lower than those before
module _ {J O : Type 0} (slots claimed slot found : ℕ) (free : List ℕ) (me me' : Seated J O) (is : me' ≡ (after_claim me.0 slot found, (slot, None) ∷ me.1)) (lower : slot + claimed + 1 ≡ slots) (late : (at k : ℕ) → get_elem? me.0.free at ≡ some k → slots ≤ k + claimed) where
  pub claim_new : (at : ℕ) → get_elem? me.0.free at ≢ some slot
  claim_new at e = let l : slots ≤ slot + claimed = late at slot e in omega arith

  pub claim_stack : IsStack slots free me.0 me.1 → IsStack slots (free ++ slot ∷ []) me'.0 me'.1
  claim_stack stack = subst (λ (m : Seated J O). IsStack slots (free ++ slot ∷ []) m.0 m.1) (sym is) (stack_more slots me.0 me.1 free free slot stack (let h : slot < slots = omega arith in h) claim_new (after_claim me.0 slot found) refl)

  pub claim_late : (at k : ℕ) → get_elem? me'.0.free at ≡ some k → slots ≤ k + (claimed + 1)
  claim_late at k e = ⊎_elim (λ t. let same : slot ≡ k = t.1 in omega arith) (λ t. let l : slots ≤ k + claimed = late t.0 k t.2 in omega arith)
      (in_longer me.0.free slot k at (subst (λ (m : Seated J O). get_elem? m.0.free at ≡ some k) is e))

-- a lead that has just sat down has claimed no slot
nothing_at : {A : Type 0} (at : ℕ) (x : A) → get_elem? [] at ≡ some x → ⊥
nothing_at at x e = some-ne-none x (sym e)

module _ {J O : Type 0} where
  pub claim_none : (slots : ℕ) (free : List ℕ) (me : View J O × List (ℕ × Slot J O)) → me ≡ (opener, []) → free ≡ [] → IsStack slots free me.0 me.1
  claim_none slots free me sat none =
      subst (λ m. IsStack slots free m.0 m.1) (sym sat) (subst (λ (f : List ℕ). IsStack slots f (opener {J = J} {O = O}) []) (sym none) (refl, refl, refl, (λ at k e. absurd (nothing_at at k e)), (λ at other k e f. absurd (nothing_at at k e))))

  pub late_none : (slots : ℕ) (me : View J O × List (ℕ × Slot J O)) → me ≡ (opener, []) → (at k : ℕ) → get_elem? me.0.free at ≡ some k → slots ≤ k + 0
  late_none slots me sat at k e = absurd (nothing_at at k (subst (λ m. get_elem? m.0.free at ≡ some k) sat e))

  -- and has no job
  pub tally_none : (v : View J O) → v.posted ≡ [] → v.collected ≡ [] → IsTally v
  tally_none v none unseen = (
    (λ at n j e. absurd (nothing_at at (n, j) (subst (λ xs. get_elem? xs at ≡ some (n, j)) none e))),
    (λ at n o e. absurd (nothing_at at (n, o) (subst (λ xs. get_elem? xs at ≡ some (n, o)) unseen e))),
  )

  -- with all slots claimed each is free
  pub all_free : (slots claimed : ℕ) (free : List ℕ) (v : View J O) → v.posted ≡ [] → v.collected ≡ [] → v.free ≡ reverse free → length free ≡ claimed → claimed ≤ slots → slots ≤ claimed →
      (0 ≡ length v.posted) × (0 < 2 ^ 62) × (length v.free + length v.posted ≡ slots + length v.collected)
  all_free slots claimed free v none unseen is count low high =
      let p : length v.posted ≡ 0 = ap length none in
      let c : length v.collected ≡ 0 = ap length unseen in
      let f : length v.free ≡ length free = ap length is ∙ length-reverse free in
      (omega arith, omega arith, omega arith)

pub room_for : (slots room : ℕ) → room ≡ slots → slots ≤ room
room_for slots room is = omega arith
