-- Places in lists, and what stands in the views of the seats when one of them changes.
use Rattle.std.proofs.Common.{◌≡◌, ◌≢◌, ℕ, zero, suc, ◌<◌, ◌⊎◌, List, [], ◌∷◌, ◌++◌, length, drop, set, sym, refl, ap, ◌∙◌, subst, inl, inr, ⊎_elim, arith}
use mathlib.Core.Option.{some, some-injective, some-ne-none}
use mathlib.Core.Logic.{dite}
use native.Mathlib.Decide.{ℕ_discrete}
use lib.ListN.{get_elem?}
use Rattle.atomic_table.proofs.Lists.{at_set, set_else, at_longer, at_last}
use Rattle.job_board.specs.declared.view.View.{View}
use Rattle.job_board.specs.HandsOff.{Stands}

module _ {A : Type 0} where
  pub within : (l : List A) (i : ℕ) (a : A) → get_elem? l i ≡ some a → i < length l
  within [] i a e = absurd (some-ne-none a (sym e))
  within (x ∷ xs) zero a e = omega arith
  within (x ∷ xs) (suc i) a e = let h : i < length xs = within xs i a e in omega arith

  pub set_there : (l : List A) (i : ℕ) (a b : A) → get_elem? l i ≡ some a → get_elem? (set l i b) i ≡ some b
  set_there [] i a b e = absurd (some-ne-none a (sym e))
  set_there (x ∷ xs) zero a b e = refl
  set_there (x ∷ xs) (suc i) a b e = set_there xs i a b e

  -- an entry of a list with one more at its end
  pub at_end : (l : List A) (a b : A) (j : ℕ) → get_elem? (l ++ a ∷ []) j ≡ some b → (get_elem? l j ≡ some b) ⊎ ((j ≡ length l) × (a ≡ b))
  at_end [] a b zero e = inr (refl, some-injective a b e)
  at_end [] a b (suc j) e = absurd (some-ne-none b (sym e))
  at_end (x ∷ xs) a b zero e = inl e
  at_end (x ∷ xs) a b (suc j) e = ⊎_elim (λ t. inl t) (λ t. inr (ap suc t.0, t.1)) (at_end xs a b j e)

  pub at_rest : (l : List A) (j : ℕ) → get_elem? (drop 1 l) j ≡ get_elem? l (suc j)
  at_rest [] j = refl
  at_rest (x ∷ xs) j = refl

  -- what stands in a list but not first stands in the rest
  pub in_rest : (l : List A) (first a : A) (i : ℕ) → get_elem? l 0 ≡ some first → a ≢ first → get_elem? l i ≡ some a → (j : ℕ) × (get_elem? (drop 1 l) j ≡ some a)
  in_rest l first a zero top other e = absurd (other (some-injective a first (sym e ∙ top)))
  in_rest l first a (suc i) top other e = (i, at_rest l i ∙ e)

module _ {J O : Type 0} where
  -- what stands in the views stands in others
  abbrev pub Goes : {X : Type 0} → (View J O → List X) → List (View J O) → List (View J O) → Type 0
  Goes {X} list views after = (seat place : ℕ) (x : X) → Stands list views seat place x → Stands list after seat place x

  pub one_entry : {X : Type 0} (list : View J O → List X) (views : List (View J O)) (seat place : ℕ) (x y : X) → Stands list views seat place x → Stands list views seat place y → x ≡ y
  one_entry list views seat place x y a b = let same : a.0 ≡ b.0 = some-injective a.0 b.0 (sym a.1 ∙ b.1) in
      some-injective x y (sym a.2 ∙ ap (λ (v : View J O). get_elem? (list v) place) same ∙ b.2)

  -- the view of one seat changes from v to w
  module _ (views : List (View J O)) (id : ℕ) (v w : View J O) (here : get_elem? views id ≡ some v) where
    pub mine : {X : Type 0} (list : View J O → List X) (place : ℕ) (x : X) → Stands list views id place x → get_elem? (list v) place ≡ some x
    mine list place x st = subst (λ (u : View J O). get_elem? (list u) place ≡ some x) (some-injective st.0 v (sym st.1 ∙ here)) st.2

    pub since : {X : Type 0} (list : View J O → List X) (seat place : ℕ) (x : X) → Stands list (set views id w) seat place x
        → ((seat ≢ id) × Stands list views seat place x) ⊎ ((seat ≡ id) × (get_elem? (list w) place ≡ some x))
    since list seat place x st = ⊎_elim (λ t. inr (t.0, subst (λ (u : View J O). get_elem? (list u) place ≡ some x) (sym t.1) st.2)) (λ t. inl (t.0, (st.0, t.1, st.2))) (at_set views id seat w st.0 st.1)

    pub there : {X : Type 0} (list : View J O → List X) (place : ℕ) (x : X) → get_elem? (list w) place ≡ some x → Stands list (set views id w) id place x
    there list place x e = (w, set_there views id v w here, e)

    pub before : {X : Type 0} (list : View J O → List X) → list w ≡ list v → Goes list (set views id w) views
    before list same seat place x st = ⊎_elim (λ t. t.1)
        (λ t. subst (λ (h : ℕ). Stands list views h place x) (sym t.0) (v, here, subst (λ l. get_elem? l place ≡ some x) same t.1)) (since list seat place x st)

    pub grows : {X : Type 0} (list : View J O → List X) → ((place : ℕ) (x : X) → get_elem? (list v) place ≡ some x → get_elem? (list w) place ≡ some x) → Goes list views (set views id w)
    grows list more seat place x st = dite (ℕ_discrete seat id)
        (λ e. subst (λ (h : ℕ). Stands list (set views id w) h place x) (sym e) (there list place x (more place x (mine list place x (subst (λ (h : ℕ). Stands list views h place x) e st)))))
        (λ n. (st.0, set_else views id seat w n ∙ st.1, st.2))

    pub still : {X : Type 0} (list : View J O → List X) → list w ≡ list v → Goes list views (set views id w)
    still list same = grows list (λ place x e. subst (λ l. get_elem? l place ≡ some x) (sym same) e)

    pub longer : {X : Type 0} (list : View J O → List X) (y : X) → list w ≡ list v ++ y ∷ [] → Goes list views (set views id w)
    longer list y more = grows list (λ place x e. subst (λ l. get_elem? l place ≡ some x) (sym more) (at_longer (list v) (y ∷ []) place x e))

    -- the list has one entry more
    pub one_more : {X : Type 0} (list : View J O → List X) (y : X) → list w ≡ list v ++ y ∷ [] → (seat place : ℕ) (x : X) → Stands list (set views id w) seat place x
        → (Stands list views seat place x) ⊎ ((seat ≡ id) × (place ≡ length (list v)) × (y ≡ x))
    one_more list y more seat place x st = ⊎_elim (λ t. inl t.1)
        (λ t. ⊎_elim (λ e. inl (subst (λ (h : ℕ). Stands list views h place x) (sym t.0) (v, here, e))) (λ e. inr (t.0, e.0, e.1)) (at_end (list v) y x place (subst (λ l. get_elem? l place ≡ some x) more t.1)))
        (since list seat place x st)

    pub last_there : {X : Type 0} (list : View J O → List X) (y : X) → list w ≡ list v ++ y ∷ [] → Stands list (set views id w) id (length (list v)) y
    last_there list y more = there list (length (list v)) y (subst (λ l. get_elem? l (length (list v)) ≡ some y) (sym more) (at_last (list v) y (length (list v)) refl))
