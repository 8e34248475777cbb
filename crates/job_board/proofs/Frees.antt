-- The free slots of the lead, where it comes by one or posts in one.
use Rattle.std.proofs.Common.{◌≡◌, ◌≢◌, ℕ, zero, suc, ◌<◌, ◌⊎◌, List, ◌∷◌, drop, set, sym, refl, ap, ◌∙◌, subst, inl, inr, ⊎_elim, arith}
use mathlib.Core.Option.{some, some-injective}
use lib.ListN.{get_elem?}
use Rattle.job_board.specs.declared.view.View.{View}
use Rattle.job_board.specs.HandsOff.{free_of}
use Rattle.job_board.specs.Board.{Phase, idle, IsSpare, FreeFits, FreeOnce}
use Rattle.job_board.proofs.Places.{at_rest, in_rest, since, there, mine}

module _ {A : Type 0} where
  pub in_longer : (l : List A) (first a : A) (place : ℕ) → get_elem? (first ∷ l) place ≡ some a → ((place ≡ 0) × (first ≡ a)) ⊎ ((p : ℕ) × (place ≡ suc p) × (get_elem? l p ≡ some a))
  in_longer l first a zero e = inl (refl, some-injective first a e)
  in_longer l first a (suc p) e = inr (p, refl, e)

module _ {J O : Type 0} (views : List (View J O)) (v w : View J O) (here : get_elem? views 0 ≡ some v) (slots : ℕ) (phase after : ℕ → Phase J O) (k : ℕ) where
  abbrev W : List (View J O)
  W = set views 0 w

  -- the list of the first seat, and those of others
  lists_free : FreeFits views slots phase → ((place slot : ℕ) → get_elem? w.free place ≡ some slot → (slot < slots) × (after slot ≡ idle)) → FreeFits W slots after
  lists_free fits first seat place slot st = ⊎_elim (λ old. absurd (old.0 (fits seat place slot old.1).0)) (λ t. let f = first place slot t.1 in (t.0, f.0, f.1)) (since views 0 v w here free_of seat place slot st)

  lists_once : FreeOnce views → ((place place' slot : ℕ) → get_elem? w.free place ≡ some slot → get_elem? w.free place' ≡ some slot → place ≡ place') → FreeOnce W
  lists_once once first seat place place' slot st su =
      ⊎_elim (λ old. ⊎_elim (λ old'. once seat place place' slot old.1 old'.1) (λ t. absurd (old.0 t.0)) (since views 0 v w here free_of seat place' slot su))
      (λ t. ⊎_elim (λ old'. absurd (old'.0 t.0)) (λ t'. first place place' slot t.1 t'.1) (since views 0 v w here free_of seat place' slot su)) (since views 0 v w here free_of seat place slot st)

  module _ (more : w.free ≡ k ∷ v.free) where
    one : (place slot : ℕ) → get_elem? w.free place ≡ some slot → ((place ≡ 0) × (k ≡ slot)) ⊎ ((p : ℕ) × (place ≡ suc p) × (get_elem? v.free p ≡ some slot))
    one place slot e = in_longer v.free k slot place (subst (λ (l : List ℕ). get_elem? l place ≡ some slot) more e)

    pub longer_free : k < slots → after k ≡ idle → ((slot : ℕ) → phase slot ≡ idle → after slot ≡ idle) → FreeFits views slots phase → FreeFits W slots after
    longer_free inside is idles fits = lists_free fits (λ place slot e. ⊎_elim (λ t. (subst (λ (z : ℕ). z < slots) t.1 inside, subst (λ (z : ℕ). after z ≡ idle) t.1 is))
        (λ t. let f = fits 0 t.0 slot (v, here, t.2) in (f.1, idles slot f.2)) (one place slot e))

    pub longer_once : ((at : ℕ) → get_elem? v.free at ≢ some k) → FreeOnce views → FreeOnce W
    longer_once new once = lists_once once (λ place place' slot e d.
        ⊎_elim (λ t. ⊎_elim (λ t'. t.0 ∙ sym t'.0) (λ t'. absurd (new t'.0 (t'.2 ∙ ap some (sym t.1)))) (one place' slot d))
        (λ t. ⊎_elim (λ t'. absurd (new t.0 (t.2 ∙ ap some (sym t'.1)))) (λ t'. t.1 ∙ ap suc (once 0 t.0 t'.0 slot (v, here, t.2) (v, here, t'.2)) ∙ sym t'.1) (one place' slot d)) (one place slot e))

    pub longer_spare : (i : ℕ) → IsSpare views i → IsSpare W i
    longer_spare i sp = (suc sp.0, there views 0 v w here free_of (suc sp.0) i (subst (λ (l : List ℕ). get_elem? l (suc sp.0) ≡ some i) (sym more) (mine views 0 v w here free_of sp.0 i sp.1)))

    pub first_spare : IsSpare W k
    first_spare = (0, there views 0 v w here free_of 0 k (subst (λ (l : List ℕ). get_elem? l 0 ≡ some k) (sym more) refl))

  module _ (less : w.free ≡ drop 1 v.free) (top : get_elem? v.free 0 ≡ some k) where
    later : (place slot : ℕ) → get_elem? w.free place ≡ some slot → get_elem? v.free (suc place) ≡ some slot
    later place slot e = sym (at_rest v.free place) ∙ subst (λ (l : List ℕ). get_elem? l place ≡ some slot) less e

    pub shorter_free : ((slot : ℕ) → slot ≢ k → phase slot ≡ idle → after slot ≡ idle) → FreeFits views slots phase → FreeOnce views → FreeFits W slots after
    shorter_free idles fits once = lists_free fits (λ place slot e. let l = later place slot e in let f = fits 0 (suc place) slot (v, here, l) in
        (f.1, idles slot (λ same. let z : 0 ≡ suc place = once 0 0 (suc place) slot (v, here, top ∙ ap some (sym same)) (v, here, l) in absurd (omega arith)) f.2))

    pub shorter_once : FreeOnce views → FreeOnce W
    shorter_once once = lists_once once (λ place place' slot e d. let z : suc place ≡ suc place' = once 0 (suc place) (suc place') slot (v, here, later place slot e) (v, here, later place' slot d) in omega arith)

    pub shorter_spare : (i : ℕ) → i ≢ k → IsSpare views i → IsSpare W i
    shorter_spare i other sp = let q = in_rest v.free k i sp.0 top other (mine views 0 v w here free_of sp.0 i sp.1) in
        (q.0, there views 0 v w here free_of q.0 i (subst (λ (l : List ℕ). get_elem? l q.0 ≡ some i) (sym less) q.1))
