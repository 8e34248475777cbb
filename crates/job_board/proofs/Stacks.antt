-- The lead's free slots, as it posts and collects.
use Rattle.std.proofs.Common.{◌≡◌, ◌≢◌, ℕ, suc, ◌<◌, ◌≤◌, Bool, true, false, cond, List, [], ◌∷◌, ◌++◌, length, drop, reverse, sym, refl, ap, ◌∙◌, subst, ⊎_elim, arith, eqb, ne_eqb, ◌||◌, Some, None}
use Rattle.std.proofs.lemmas.List.{reverse-append}
use Rattle.std.proofs.lemmas.Map.Steps.{length-le_from_distinct_below}
use Rattle.std.specs.List.{IsDistinct, AllByRecursion, list_any}
use mathlib.Core.Logic.{dite}
use native.Mathlib.Decide.{ℕ_discrete}
use mathlib.Core.Option.{some, some-injective, some-ne-none}
use lib.ListN.{get_elem?}
use Rattle.atomic_table.specs.Table.{rest}
use Rattle.job_board.specs.declared.view.View.{View}
use Rattle.job_board.specs.Views.{after_post}
use Rattle.job_board.specs.Board.{Slot}
use Rattle.job_board.specs.Held.{AllBelow, AllApart, slots_of, is_empty, all_empty, IsStack}
use Rattle.job_board.proofs.Places.{at_rest}
use Rattle.job_board.proofs.Frees.{in_longer}

-- no more numbers below a count than that count, where no two are equal
differs : (x : ℕ) (xs : List ℕ) → ((at : ℕ) → get_elem? xs at ≢ some x) → AllByRecursion (λ y. eqb x y ≡ false) xs
differs x [] new = tt
differs x (y ∷ ys) new = (ne_eqb x y (λ e. new 0 (ap some (sym e))), differs x ys (λ at e. new (suc at) e))

distinct : (l : List ℕ) → AllApart l → IsDistinct eqb l
unfolding IsDistinct
distinct [] apart = tt
distinct (x ∷ xs) apart = (differs x xs (λ at e. let z : suc at ≡ 0 = apart (suc at) 0 x e refl in absurd (omega arith)), distinct xs (λ at at' k e d. let s : suc at ≡ suc at' = apart (suc at) (suc at') k e d in omega arith))

found_at : (q : ℕ) (l : List ℕ) → list_any (eqb q) l ≡ true → (at : ℕ) × (get_elem? l at ≡ some q)
found_at q [] e = (cc)
found_at q (x ∷ xs) e = dite (ℕ_discrete q x) (λ same. (0, ap some (sym same))) (λ other.
    let f = found_at q xs (subst (λ (b : Bool). (b || list_any (eqb q) xs) ≡ true) (ne_eqb q x other) e) in (suc f.0, f.1))

pub pigeonhole : (slots : ℕ) (l : List ℕ) → AllBelow slots l → AllApart l → length l ≤ slots
pigeonhole slots l below apart = length-le_from_distinct_below l slots (distinct l apart) (λ q e. let f = found_at q l e in below f.0 q f.1)

pub below_rest : (slots : ℕ) (l : List ℕ) → AllBelow slots l → AllBelow slots (drop 1 l)
below_rest slots l below at k e = below (suc at) k (sym (at_rest l at) ∙ e)

pub apart_rest : (l : List ℕ) → AllApart l → AllApart (drop 1 l)
apart_rest l apart at at' k e d = let s : suc at ≡ suc at' = apart (suc at) (suc at') k (sym (at_rest l at) ∙ e) (sym (at_rest l at') ∙ d) in omega arith

pub below_more : (slots k : ℕ) (l : List ℕ) → k < slots → AllBelow slots l → AllBelow slots (k ∷ l)
below_more slots k l inside below at q e = ⊎_elim (λ t. subst (λ (z : ℕ). z < slots) t.1 inside) (λ t. below t.0 q t.2) (in_longer l k q at e)

pub apart_more : (k : ℕ) (l : List ℕ) → ((at : ℕ) → get_elem? l at ≢ some k) → AllApart l → AllApart (k ∷ l)
apart_more k l new apart at at' q e d =
    ⊎_elim (λ t. ⊎_elim (λ t'. t.0 ∙ sym t'.0) (λ t'. absurd (new t'.0 (t'.2 ∙ ap some (sym t.1)))) (in_longer l k q at' d))
    (λ t. ⊎_elim (λ t'. absurd (new t.0 (t.2 ∙ ap some (sym t'.1)))) (λ t'. t.1 ∙ ap suc (apart t.0 t'.0 q t.2 t'.2) ∙ sym t'.1) (in_longer l k q at' d)) (in_longer l k q at e)

module _ {J O : Type 0} where
  -- the slot that was taken last
  pub top_slot : (held : List (ℕ × Slot J O)) (k : ℕ) (more : List ℕ) → slots_of held ≡ k ∷ more → (old : Slot J O) × (held ≡ (k, old) ∷ rest held)
  top_slot [] k more e = absurd (some-ne-none k (sym (ap (λ (l : List ℕ). get_elem? l 0) e)))
  top_slot (x ∷ xs) k more e = let same : x.0 ≡ k = some-injective x.0 k (ap (λ (l : List ℕ). get_elem? l 0) e) in (x.1, ap (λ (z : ℕ). (z, x.1) ∷ xs) same)

  pub slots_rest : (held : List (ℕ × Slot J O)) → slots_of (rest held) ≡ drop 1 (slots_of held)
  slots_rest [] = refl
  slots_rest (x ∷ xs) = refl

  pub empties : (c : Bool) (b : Slot J O) → cond (is_empty b) c false ≡ true → c ≡ true
  empties c None e = e
  empties c (Some y) e = (cc)

  pub empty_rest : (held : List (ℕ × Slot J O)) → all_empty held ≡ true → all_empty (rest held) ≡ true
  empty_rest [] e = refl
  empty_rest (x ∷ xs) e = empties (all_empty xs) x.1 e

  module _ (slots : ℕ) (v : View J O) (held : List (ℕ × Slot J O)) (free free' : List ℕ) (k : ℕ) where
    -- a slot is popped
    module _ (stack : IsStack slots free v held) (popped : free ≡ free' ++ k ∷ []) where
      free_is : v.free ≡ k ∷ reverse free'
      free_is = stack.0 ∙ ap reverse popped ∙ reverse-append free' (k ∷ [])

      pub top_free : get_elem? v.free 0 ≡ some k
      top_free = ap (λ (l : List ℕ). get_elem? l 0) free_is

      pub top_held : (old : Slot J O) × (held ≡ (k, old) ∷ rest held)
      top_held = top_slot held k (reverse free') (stack.1 ∙ free_is)

      pub stack_posts : (n : ℕ) (j : J) → IsStack slots free' (after_post v n j) (rest held)
      stack_posts n j = (ap (drop 1) free_is, slots_rest held ∙ ap (drop 1) stack.1, empty_rest held stack.2, below_rest slots v.free stack.3, apart_rest v.free stack.4)

    -- a slot is pushed
    module _ (stack : IsStack slots free v held) (inside : k < slots) (new : (at : ℕ) → get_elem? v.free at ≢ some k) where
      abbrev Longer : View J O → Type 0
      Longer w = w.free ≡ k ∷ v.free → IsStack slots (free ++ k ∷ []) w ((k, None) ∷ held)

      pub stack_more : (w : View J O) → Longer w
      stack_more w more = (
        more ∙ ap (λ (l : List ℕ). k ∷ l) stack.0 ∙ sym (reverse-append free (k ∷ [])),
        ap (λ (l : List ℕ). k ∷ l) stack.1 ∙ sym more,
        stack.2,
        subst (AllBelow slots) (sym more) (below_more slots k v.free inside stack.3),
        subst AllApart (sym more) (apart_more k v.free new stack.4),
      )

      pub room : suc (length v.free) ≤ slots
      room = pigeonhole slots (k ∷ v.free) (below_more slots k v.free inside stack.3) (apart_more k v.free new stack.4)
