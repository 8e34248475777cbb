-- The jobs that a hand holds, as it takes them and does them.
use Rattle.std.proofs.Common.{◌≡◌, ◌≢◌, ℕ, zero, suc, ◌+◌, ◌-◌, ◌<◌, ◌≤◌, ◌^◌, ◌⊎◌, Bool, true, false, cond, List, [], ◌∷◌, ◌++◌, length, drop, map, sym, refl, ap, ◌∙◌, subst, inl, inr, ⊎_elim, arith, Some, None}
use mathlib.Core.Option.{some, some-injective, some-ne-none}
use lib.ListN.{get_elem?}
use Rattle.atomic_table.specs.Table.{rest, turned}
use Rattle.atomic_table.proofs.Lists.{at_longer, at_last}
use Rattle.job_board.specs.declared.view.View.{View}
use Rattle.job_board.specs.Views.{having_read, after_take, after_done, HasJob}
use Rattle.job_board.specs.Board.{Slot}
use Rattle.job_board.specs.Plays.{Seated, IsNew}
use Rattle.job_board.specs.Held.{slots_of, is_empty, all_empty, IsBasket, HoldsEmpty}
use Rattle.job_board.proofs.Places.{at_end}
use Rattle.job_board.proofs.Frees.{in_longer}
use Rattle.job_board.proofs.Stacks.{pigeonhole, empties, slots_rest, empty_rest}
use mathlib.Core.Logic.{dite}
use native.Mathlib.Decide.{ℕ_discrete}

second_at : (l : List (ℕ × ℕ)) (at k : ℕ) → get_elem? (map (λ (x : ℕ × ℕ). x.1) l) at ≡ some k → (n : ℕ) × (get_elem? l at ≡ some (n, k))
second_at [] at k e = absurd (some-ne-none k (sym e))
second_at (x ∷ xs) zero k e = (x.0, ap (λ (z : ℕ). some (x.0, z)) (some-injective x.1 k e))
second_at (x ∷ xs) (suc at) k e = second_at xs at k e

length_second : (l : List (ℕ × ℕ)) → length (map (λ (x : ℕ × ℕ). x.1) l) ≡ length l
length_second [] = refl
length_second (x ∷ xs) = ap suc (length_second xs)

seconds_snoc : (xs : List (ℕ × ℕ)) (x : ℕ × ℕ) → map (λ (z : ℕ × ℕ). z.1) (xs ++ x ∷ []) ≡ map (λ (z : ℕ × ℕ). z.1) xs ++ x.1 ∷ []
seconds_snoc [] x = refl
seconds_snoc (y ∷ ys) x = ap (λ (l : List ℕ). y.1 ∷ l) (seconds_snoc ys x)

-- where an entry of a turned list was before
was_at : (x : ℕ × ℕ) (xs : List (ℕ × ℕ)) (at : ℕ) (y : ℕ × ℕ) → get_elem? (xs ++ x ∷ []) at ≡ some y → (p : ℕ) × (get_elem? (x ∷ xs) p ≡ some y) × ((p ≡ suc at) ⊎ ((p ≡ 0) × (at ≡ length xs)))
was_at x xs at y e = ⊎_elim (λ old. (suc at, old, inl refl)) (λ t. (0, ap some t.1, inr (refl, t.0))) (at_end xs x y at e)

one_place : (p q at at' n : ℕ) → (p ≡ suc at) ⊎ ((p ≡ 0) × (at ≡ n)) → (q ≡ suc at') ⊎ ((q ≡ 0) × (at' ≡ n)) → p ≡ q → at ≡ at'
one_place p q at at' n a b e = ⊎_elim (λ s. ⊎_elim (λ s'. omega arith) (λ t'. let c : q ≡ 0 = t'.0 in absurd (omega arith)) b) (λ t. let c : p ≡ 0 = t.0 in ⊎_elim (λ s'. absurd (omega arith)) (λ t'. t.1 ∙ sym t'.1) b) a

module _ {J O : Type 0} (slots : ℕ) where
  pub basket_room : (held : List (ℕ × ℕ)) (v : View J O) → IsBasket slots held v → length held ≤ slots
  basket_room held v b = let p : length (map (λ (x : ℕ × ℕ). x.1) held) ≤ slots = pigeonhole slots (map (λ (x : ℕ × ℕ). x.1) held)
      (λ at k e. let s = second_at held at k e in (b.0 at s.0 k s.1).0)
      (λ at at' k e d. let s = second_at held at k e in let t = second_at held at' k d in b.1 at at' s.0 t.0 k s.1 t.1) in
      let l : length (map (λ (x : ℕ × ℕ). x.1) held) ≡ length held = length_second held in omega arith

  pub basket_reads : (held : List (ℕ × ℕ)) (v : View J O) (gained : List (ℕ × ℕ)) → IsBasket slots held v → IsBasket slots held (having_read v gained)
  basket_reads held v gained b = b

  pub basket_takes : (held : List (ℕ × ℕ)) (v : View J O) (n k : ℕ) (j : J) → IsBasket slots held v → k < slots → n < 2 ^ 62 → IsNew v n k → IsBasket slots ((n, k) ∷ held) (after_take v n k j)
  basket_takes held v n k j b inside small new =
      let no_slot : (at m : ℕ) → get_elem? held at ≡ some (m, k) → ⊥ = λ at m e. let w = b.4 at m k e in w.0 (λ at' i d. new.2 m i ((at', d), w.1)) in
      let no_number : (at q : ℕ) → get_elem? held at ≡ some (n, q) → ⊥ = λ at q e. (b.4 at n q e).0 (λ at' i d. new.0 at' q i d) in
      let zero_of : ℕ × ℕ → ℕ = λ z. z.0 in let one_of : ℕ × ℕ → ℕ = λ z. z.1 in (
        (λ at m q e. ⊎_elim (λ t. (subst (λ (z : ℕ). z < slots) (ap one_of t.1) inside, subst (λ (z : ℕ). z < 2 ^ 62) (ap zero_of t.1) small)) (λ t. b.0 t.0 m q t.2) (in_longer held (n, k) (m, q) at e)),
        (λ at at' m p q e d. ⊎_elim
            (λ t. ⊎_elim (λ t'. t.0 ∙ sym t'.0) (λ t'. absurd (no_slot t'.0 p (subst (λ (z : ℕ). get_elem? held t'.0 ≡ some (p, z)) (sym (ap one_of t.1)) t'.2))) (in_longer held (n, k) (p, q) at' d))
            (λ t. ⊎_elim (λ t'. absurd (no_slot t.0 m (subst (λ (z : ℕ). get_elem? held t.0 ≡ some (m, z)) (sym (ap one_of t'.1)) t.2))) (λ t'. t.1 ∙ ap suc (b.1 t.0 t'.0 m p q t.2 t'.2) ∙ sym t'.1) (in_longer held (n, k) (p, q) at' d))
            (in_longer held (n, k) (m, q) at e)),
        (λ at at' m p q e d. ⊎_elim
            (λ t. ⊎_elim (λ t'. t.0 ∙ sym t'.0) (λ t'. absurd (no_number t'.0 q (subst (λ (z : ℕ). get_elem? held t'.0 ≡ some (z, q)) (sym (ap zero_of t.1)) t'.2))) (in_longer held (n, k) (m, q) at' d))
            (λ t. ⊎_elim (λ t'. absurd (no_number t.0 p (subst (λ (z : ℕ). get_elem? held t.0 ≡ some (z, p)) (sym (ap zero_of t'.1)) t.2))) (λ t'. t.1 ∙ ap suc (b.2 t.0 t'.0 m p q t.2 t'.2) ∙ sym t'.1) (in_longer held (n, k) (m, q) at' d))
            (in_longer held (n, k) (m, p) at e)),
        (λ at m q i e undone unheld. ⊎_elim (λ old. b.3 at m q i old undone (λ at' d. unheld (suc at') d))
            (λ t. unheld 0 (ap (λ (z : ℕ × (ℕ × J)). some (z.0, z.1.0)) t.1)) (at_end v.taken (n, (k, j)) (m, (q, i)) at e)),
        λ at m q e. ⊎_elim
            (λ t. subst (λ (z : ℕ × ℕ). (((at' : ℕ) (i : J) → get_elem? (v.taken ++ (n, (k, j)) ∷ []) at' ≢ some (z.0, (z.1, i))) → ⊥) × ((at' : ℕ) → get_elem? v.done at' ≢ some z.0)) t.1
            ((λ none. none (length v.taken) j (at_last v.taken (n, (k, j)) (length v.taken) refl)), new.1))
            (λ t. let w = b.4 t.0 m q t.2 in ((λ none. w.0 (λ at' i d. none at' i (at_longer v.taken ((n, (k, j)) ∷ []) at' (m, (q, i)) d))), w.1)) (in_longer held (n, k) (m, q) at e),
      )

  pub basket_turns : (x : ℕ × ℕ) (xs : List (ℕ × ℕ)) (v : View J O) → IsBasket slots (x ∷ xs) v → IsBasket slots (xs ++ x ∷ []) v
  basket_turns x xs v b = (
    (λ at n k e. let p = was_at x xs at (n, k) e in b.0 p.0 n k p.1),
    (λ at at' n m k e d. let p = was_at x xs at (n, k) e in let q = was_at x xs at' (m, k) d in one_place p.0 q.0 at at' (length xs) p.2 q.2 (b.1 p.0 q.0 n m k p.1 q.1)),
    (λ at at' n k m e d. let p = was_at x xs at (n, k) e in let q = was_at x xs at' (n, m) d in one_place p.0 q.0 at at' (length xs) p.2 q.2 (b.2 p.0 q.0 n k m p.1 q.1)),
    (λ at n k j e undone unheld. b.3 at n k j e undone (λ at' d. ⊎_elim (λ t. unheld (length xs) (at_last xs x (length xs) refl ∙ ap some t.1)) (λ t. unheld t.0 (at_longer xs (x ∷ []) t.0 (n, k) t.2)) (in_longer xs x (n, k) at' d))),
    λ at n k e. let p = was_at x xs at (n, k) e in b.4 p.0 n k p.1,
  )

  pub basket_done : (n k : ℕ) (held : List (ℕ × ℕ)) (v : View J O) → IsBasket slots ((n, k) ∷ held) v → IsBasket slots held (after_done v n)
  basket_done n k held v b = (
    (λ at m q e. b.0 (suc at) m q e),
    (λ at at' m p q e d. let s : suc at ≡ suc at' = b.1 (suc at) (suc at') m p q e d in omega arith),
    (λ at at' m p q e d. let s : suc at ≡ suc at' = b.2 (suc at) (suc at') m p q e d in omega arith),
    (λ at m q i e undone unheld. b.3 at m q i e (λ at' d. undone at' (at_longer v.done (n ∷ []) at' m d))
        (λ at' d. ⊎_elim (λ t. undone (length v.done) (at_last v.done n (length v.done) refl ∙ ap (λ (z : ℕ × ℕ). some z.0) t.1)) (λ t. unheld t.0 t.2) (in_longer held (n, k) (m, q) at' d))),
    λ at m q e. let w = b.4 (suc at) m q e in (
      w.0,
      λ at' d. ⊎_elim (λ old. w.1 at' old)
          (λ t. let z : 0 ≡ suc at = b.2 0 (suc at) n k q refl (subst (λ (y : ℕ). get_elem? held at ≡ some (y, q)) (sym t.1) e) in absurd (omega arith)) (at_end v.done n m at' d),
    ),
  )

  -- the job that a hand holds under a number is held
  pub is_held : (held : List (ℕ × ℕ)) (v : View J O) (n k : ℕ) (j : J) → IsBasket slots held v → HasJob v n k j → ((at q : ℕ) → get_elem? held at ≢ some (n, q)) → ⊥
  is_held held v n k j b has unheld = b.3 has.0.0 n k j has.0.1 has.1 (λ at e. unheld at k e)

  -- and under no other slot
  pub held_slot : (held : List (ℕ × ℕ)) (v : View J O) (n k : ℕ) (j : J) (at q : ℕ) → IsBasket slots held v → HasJob v n k j → get_elem? held at ≡ some (n, q) → (q ≢ k) → ⊥
  held_slot held v n k j at q b has e other = b.3 has.0.0 n k j has.0.1 has.1 (λ at' d. other (
      let same : at ≡ at' = b.2 at at' n q k e d in
      let both : some (n, q) ≡ some (n, k) = sym e ∙ ap (λ (z : ℕ). get_elem? held z) same ∙ d in ap (λ (z : ℕ × ℕ). z.1) (some-injective (n, q) (n, k) both)))

module _ {J O : Type 0} where
  map_snoc : (xs : List (ℕ × Slot J O)) (x : ℕ × Slot J O) → slots_of (xs ++ x ∷ []) ≡ slots_of xs ++ x.0 ∷ []
  map_snoc [] x = refl
  map_snoc (y ∷ ys) x = ap (λ (l : List ℕ). y.0 ∷ l) (map_snoc ys x)

  empty_cond : (b : Slot J O) (c d : Bool) → cond (is_empty b) c false ≡ true → d ≡ true → cond (is_empty b) d false ≡ true
  empty_cond None c d e f = f
  empty_cond (Some y) c d e f = e

  empty_snoc : (xs : List (ℕ × Slot J O)) (x : ℕ × Slot J O) (c : Bool) → all_empty xs ≡ true → cond (is_empty x.1) c false ≡ true → all_empty (xs ++ x ∷ []) ≡ true
  empty_snoc [] x c e f = empty_cond x.1 c true f refl
  empty_snoc (y ∷ ys) x c e f = empty_cond y.1 (all_empty ys) (all_empty (ys ++ x ∷ [])) e (empty_snoc ys x c (empties (all_empty ys) y.1 e) f)

  pub turned_holds : (x : ℕ × ℕ) (xs : List (ℕ × ℕ)) (held : List (ℕ × Slot J O)) → HoldsEmpty (x ∷ xs) held → HoldsEmpty (xs ++ x ∷ []) (turned held)
  turned_holds x xs [] h = absurd (some-ne-none x.1 (ap (λ (l : List ℕ). get_elem? l 0) (sym h.0)))
  turned_holds x xs (y ∷ ys) h = (
    map_snoc ys y ∙ ap (λ (l : List ℕ). l ++ y.0 ∷ []) (ap (λ (l : List ℕ). drop 1 l) h.0) ∙ ap (λ (z : ℕ). map (λ (t : ℕ × ℕ). t.1) xs ++ z ∷ []) (some-injective y.0 x.1 (ap (λ (l : List ℕ). get_elem? l 0) h.0)) ∙ sym (seconds_snoc xs x),
    empty_snoc ys y (all_empty ys) (empties (all_empty ys) y.1 h.1) h.1,
  )

-- the first entry went behind the others, in the hand's list and in its seat's
module _ {J O : Type 0} (slots : ℕ) (items less more : List (ℕ × ℕ)) (x : ℕ × ℕ) (me me' : Seated J O) (popped : items ≡ x ∷ less) (pushed : more ≡ less ++ x ∷ []) (turn : me' ≡ (me.0, turned me.1)) where
  pub turn_holds : HoldsEmpty items me.1 → HoldsEmpty more me'.1
  turn_holds h = subst (λ (l : List (ℕ × ℕ)). HoldsEmpty l me'.1) (sym pushed) (subst (λ (m : Seated J O). HoldsEmpty (less ++ x ∷ []) m.1) (sym turn) (turned_holds x less me.1 (subst (λ (l : List (ℕ × ℕ)). HoldsEmpty l me.1) popped h)))

  pub turn_basket : IsBasket slots items me.0 → IsBasket slots more me'.0
  turn_basket b = subst (λ (l : List (ℕ × ℕ)). IsBasket slots l me'.0) (sym pushed) (subst (λ (m : Seated J O). IsBasket slots (less ++ x ∷ []) m.0) (sym turn) (basket_turns slots x less me.0 (subst (λ (l : List (ℕ × ℕ)). IsBasket slots l me.0) popped b)))

pub turn_at : (items less more : List (ℕ × ℕ)) (x y : ℕ × ℕ) (place done : ℕ) → items ≡ x ∷ less → more ≡ less ++ x ∷ [] → done < place → get_elem? items (place - done) ≡ some y → get_elem? more (place - (done + 1)) ≡ some y
turn_at items less more x y place done popped pushed lt e =
    let step : place - done ≡ suc (place - (done + 1)) = omega arith in
    let there : get_elem? less (place - (done + 1)) ≡ some y = subst (λ (z : ℕ). get_elem? (x ∷ less) z ≡ some y) step (subst (λ (l : List (ℕ × ℕ)). get_elem? l (place - done) ≡ some y) popped e) in
    subst (λ (l : List (ℕ × ℕ)). get_elem? l (place - (done + 1)) ≡ some y) (sym pushed) (at_longer less (x ∷ []) (place - (done + 1)) y there)

module _ {J O : Type 0} (slots : ℕ) (held less : List (ℕ × ℕ)) (x : ℕ × ℕ) (popped : held ≡ x ∷ less) where
  -- the first entry is the job's, with its slot
  pub front_is : (v : View J O) (n k : ℕ) (j : J) → IsBasket slots held v → HasJob v n k j → ((q : ℕ) × (get_elem? held 0 ≡ some (n, q))) → x ≡ (n, k)
  front_is v n k j b has front = let first : x ≡ (n, front.0) = some-injective x (n, front.0) (ap (λ (l : List (ℕ × ℕ)). get_elem? l 0) (sym popped) ∙ front.1) in
      dite (ℕ_discrete front.0 k) (λ e. first ∙ ap (λ (z : ℕ). (n, z)) e) (λ other. absurd (held_slot slots held v n k j 0 front.0 b has front.1 other))

  pub front_done : (v : View J O) (n k : ℕ) → x ≡ (n, k) → IsBasket slots held v → IsBasket slots less (after_done v n)
  front_done v n k is b = basket_done slots n k less v (subst (λ (l : List (ℕ × ℕ)). IsBasket slots l v) (popped ∙ ap (λ (z : ℕ × ℕ). z ∷ less) is) b)

  pub front_given : (seat : List (ℕ × Slot J O)) → HoldsEmpty held seat → HoldsEmpty less (rest seat)
  front_given seat h = (slots_rest seat ∙ ap (λ (l : List ℕ). drop 1 l) h.0 ∙ ap (λ (l : List (ℕ × ℕ)). drop 1 (map (λ (z : ℕ × ℕ). z.1) l)) popped, empty_rest seat h.1)
