-- Ranks that fall along orders: one more of them, and what they rule out.
use Rattle.std.proofs.Common.{◌≡◌, ◌≢◌, ℕ, ◌<◌, ◌≤◌, ◌+◌, zero, suc, inl, inr, Bool, true, false, List, length, get_or, replicate, Option, Some, None, is_none, is_some, not, cond, refl, arith, subst, sym, ap, ◌∙◌}
use Rattle.std.proofs.Math.ListN.{set}
use Rattle.std.specs.List.{count_by}
use Rattle.std.proofs.lemmas.Bool.{cases_lt, false≢true}
use Rattle.std.proofs.lemmas.List.{get_or-set_same, get_or-set_other, get_or_default, get_or_past, length-set, length-replicate}
use Rattle.std.proofs.lemmas.List.Sums.{sum_by-set}
use Rattle.std.proofs.lemmas.Bool.Decides.{eqb_tells}
use Rattle.cycle_search.specs.declared.order.Order.{Order}
use Rattle.cycle_search.specs.Cycles.{height_of, IsAbove, IsFalling, HasHeightsBelow, IsRanked, IsStep, PointsOn, PointsOnBy}

-- what stands above something is above it where its first is given anew, and so on, by the ranks at an order's items
above_first : (level : ℕ) (o : Option ℕ) → (o ≡ None → ⊥) → ((h : ℕ) → o ≡ Some h → h < level) → IsAbove (Some level) o
above_first level None n b = absurd (n refl)
above_first level (Some h) n b = b h refl

above_none : (level : ℕ) (o : Option ℕ) → IsAbove o None → IsAbove o (Some level)
above_none level None h = tt
above_none level (Some k) h = absurd h

falls_more : (orders : List Order) (ranks next : List (Option ℕ)) (level item : ℕ) → IsRanked orders ranks level → PointsOn orders ranks next → item < length ranks → height_of ranks item ≡ None → height_of next item ≡ None
    → (k : ℕ) (d : Order) → k < length orders → IsFalling (set ranks item (Some level)) (get_or orders k d)
falls_more orders ranks next level item r p l e n k d q =
    let o : Order = get_or orders k d in
    let new : List (Option ℕ) = set ranks item (Some level) in
    let at_item : (x : ℕ) → x ≡ item → height_of new x ≡ Some level = λ x same. ap (height_of new) same ∙ get_or-set_same ranks item (Some level) None l in
    let elsewhere : (x : ℕ) → x ≢ item → height_of new x ≡ height_of ranks x = λ x other. get_or-set_other ranks item x (Some level) None other in
    let old_at : (x : ℕ) → x ≡ item → height_of ranks x ≡ None = λ x same. ap (height_of ranks) same ∙ e in
    elim (eqb_tells o.first item) [
      | inl f ↦
          let closed : height_of ranks o.second ≡ None → ⊥ = p.only k d q (ap (height_of next) f.1 ∙ n) in
          let other : o.second ≢ item = λ same. closed (old_at o.second same) in
          let above : IsAbove (Some level) (height_of ranks o.second) = above_first level (height_of ranks o.second) closed (r.below o.second) in
          subst (λ (x : Option ℕ). IsAbove x (height_of new o.second)) (sym (at_item o.first f.1)) (subst (λ (x : Option ℕ). IsAbove (Some level) x) (sym (elsewhere o.second other)) above)
      | inr f ↦
          subst (λ (x : Option ℕ). IsAbove x (height_of new o.second)) (sym (elsewhere o.first f.1)) (elim (eqb_tells o.second item) [
            | inl s ↦ subst (λ (x : Option ℕ). IsAbove (height_of ranks o.first) x) (sym (at_item o.second s.1))
                (above_none level (height_of ranks o.first) (subst (λ (x : Option ℕ). IsAbove (height_of ranks o.first) x) (old_at o.second s.1) (r.falling k d q)))
            | inr s ↦ subst (λ (x : Option ℕ). IsAbove (height_of ranks o.first) x) (sym (elsewhere o.second s.1)) (r.falling k d q)
          ])
    ]

below_more : (ranks : List (Option ℕ)) (level item : ℕ) → item < length ranks → HasHeightsBelow ranks level → HasHeightsBelow (set ranks item (Some level)) (level + 1)
below_more ranks level item l b n h e = elim (eqb_tells n item) [
  | inl f ↦
      let here : Some level ≡ Some h = sym (ap (height_of (set ranks item (Some level))) f.1 ∙ get_or-set_same ranks item (Some level) None l) ∙ e in
      let same : level ≡ h = cc in
      omega arith
  | inr f ↦
      let old : height_of ranks n ≡ Some h = sym (get_or-set_other ranks item n (Some level) None f.1) ∙ e in
      let low : h < level = b n h old in
      omega arith
]

pub ranked_more : (orders : List Order) (ranks next : List (Option ℕ)) (level item : ℕ) → IsRanked orders ranks level → PointsOn orders ranks next → item < length ranks → height_of ranks item ≡ None → height_of next item ≡ None
    → IsRanked orders (set ranks item (Some level)) (level + 1)
ranked_more orders ranks next level item r p l e n = record { falling = falls_more orders ranks next level item r p l e n; below = below_more ranks level item l r.below }

pub count_less : (ranks : List (Option ℕ)) (level item : ℕ) → item < length ranks → height_of ranks item ≡ None → count_by is_none (set ranks item (Some level)) + 1 ≡ count_by is_none ranks
count_less ranks level item l e =
    let f : Option ℕ → ℕ = λ h. cond (is_none h) 1 0 in
    let step : count_by is_none (set ranks item (Some level)) + f (get_or ranks item None) ≡ count_by is_none ranks + 0 = sum_by-set f ranks item (Some level) None l in
    let one : f (get_or ranks item None) ≡ 1 = ap f e in
    omega arith

pub count_fewer : (ranks : List (Option ℕ)) (level item : ℕ) → item < length ranks → height_of ranks item ≡ None → count_by is_none (set ranks item (Some level)) < count_by is_none ranks
count_fewer ranks level item l e = let less = count_less ranks level item l e in omega arith

pub ranked_higher : (orders : List Order) (ranks : List (Option ℕ)) (level more : ℕ) → level ≤ more → IsRanked orders ranks level → IsRanked orders ranks more
ranked_higher orders ranks level more high r = record { falling = r.falling; below = λ n height e. let low = r.below n height e in omega arith }

-- ---- which item follows, by one more order

order_at : (orders : List Order) (i : ℕ) (o d : Order) → i < length orders → o ≡ get_or orders i o → get_or orders i d ≡ o
order_at orders i o d l e = get_or_default orders i d o l ∙ sym e

only_more : (orders : List Order) (ranks : List (Option ℕ)) (i : ℕ) (o : Order) (P : ℕ → Type 0) → i < length orders → o ≡ get_or orders i o
    → ((k : ℕ) (d : Order) → k < i → P (get_or orders k d).first → height_of ranks (get_or orders k d).second ≡ None → ⊥)
    → (P o.first → height_of ranks o.second ≡ None → ⊥)
    → (k : ℕ) (d : Order) → k < i + 1 → P (get_or orders k d).first → height_of ranks (get_or orders k d).second ≡ None → ⊥
only_more orders ranks i o P l e before here k d q p h = elim (eqb_tells k i) [
  | inl f ↦
      let same : get_or orders k d ≡ o = ap (λ (j : ℕ). get_or orders j d) f.1 ∙ order_at orders i o d l e in
      here (subst (λ (x : Order). P x.first) same p) (subst (λ (x : Order). height_of ranks x.second ≡ None) same h)
  | inr f ↦
      let low : k < i = omega (arith, f.1) in
      before k d low p h
]

pub points_set : (orders : List Order) (ranks next : List (Option ℕ)) (i : ℕ) (o : Order) → i < length orders → o ≡ get_or orders i o → o.first < length ranks → PointsOnBy orders ranks next i → height_of ranks o.second ≡ None
    → PointsOnBy orders ranks (set next o.first (Some o.second)) (i + 1)
points_set orders ranks next i o l e first p open_second =
    let long : length next ≡ length ranks = p.long in
    let new : List (Option ℕ) = set next o.first (Some o.second) in
    let here : height_of new o.first ≡ Some o.second = get_or-set_same next o.first (Some o.second) None (omega arith) in
    record {
      long = length-set next o.first (Some o.second) ∙ p.long;
      ordered = λ m n h. elim (eqb_tells m o.first) [
        | inl f ↦
            let both : Some o.second ≡ Some n = sym here ∙ (ap (height_of new) (sym f.1) ∙ h) in
            let same : o.second ≡ n = cc in
            let step : IsStep orders o.first o.second = (i, l, sym e) in
            (subst (λ (x : ℕ). IsStep orders x n) (sym f.1) (subst (λ (x : ℕ). IsStep orders o.first x) same step), subst (λ (x : ℕ). height_of ranks x ≡ None) same open_second)
        | inr f ↦ p.ordered m n (sym (get_or-set_other next o.first m (Some o.second) None f.1) ∙ h)
      ];
      only = only_more orders ranks i o (λ m. height_of new m ≡ None) l e
          (λ k d q h. elim (eqb_tells (get_or orders k d).first o.first) [
            | inl f ↦
                let both : Some o.second ≡ None = sym here ∙ (ap (height_of new) (sym f.1) ∙ h) in
                absurd (cc)
            | inr f ↦ p.only k d q (sym (get_or-set_other next o.first (get_or orders k d).first (Some o.second) None f.1) ∙ h)
          ])
          (λ h. let both : Some o.second ≡ None = sym here ∙ h in absurd (cc));
    }

pub points_skip : (orders : List Order) (ranks next : List (Option ℕ)) (i : ℕ) (o : Order) → i < length orders → o ≡ get_or orders i o → PointsOnBy orders ranks next i → (height_of ranks o.second ≡ None → ⊥) → PointsOnBy orders ranks next (i + 1)
points_skip orders ranks next i o l e p closed = record {
  long = p.long;
  ordered = p.ordered;
  only = only_more orders ranks i o (λ m. height_of next m ≡ None) l e p.only (λ _. closed);
}

-- ---- what `is_none` tells

pub none_from_test : (o : Option ℕ) (b : Bool) → is_some o ≡ not b → b ≡ true → o ≡ None
none_from_test None b e h = refl
none_from_test (Some x) b e h = let same : true ≡ false = e ∙ ap not h in absurd (cc)

pub not_none_from_test : (o : Option ℕ) (b : Bool) → is_some o ≡ not b → b ≡ false → o ≡ None → ⊥
not_none_from_test o b e h n = let same : false ≡ true = ap is_some (sym n) ∙ (e ∙ ap not h) in cc

-- ---- where nothing has a height

height_none : (count n : ℕ) → height_of (replicate count None) n ≡ None
height_none zero n = refl
height_none (suc count) zero = refl
height_none (suc count) (suc n) = height_none count n

none_high : (o : Option ℕ) (height : ℕ) → o ≡ None → o ≡ Some height → ⊥
none_high o height none high = false≢true (ap is_some (sym none ∙ high))

pub unranked : (orders : List Order) (ranks : List (Option ℕ)) (count : ℕ) → ranks ≡ replicate count None → IsRanked orders ranks count
unranked orders ranks count none =
    let open_at : (n : ℕ) → height_of ranks n ≡ None = λ n. ap (λ (xs : List (Option ℕ)). height_of xs n) none ∙ height_none count n in
    record {
      falling = λ k d low. subst (λ (o : Option ℕ). IsAbove o (height_of ranks (get_or orders k d).second)) (sym (open_at (get_or orders k d).first)) tt;
      below = λ n height high. absurd (none_high (height_of ranks n) height (open_at n) high);
    }

-- nothing points on at first
pub points_none : (orders : List Order) (ranks next : List (Option ℕ)) → next ≡ replicate (length ranks) None → PointsOnBy orders ranks next 0
points_none orders ranks next none = record {
  long = ap length none ∙ length-replicate (length ranks) None;
  ordered = λ m n high. absurd (none_high (height_of next m) n (ap (λ (xs : List (Option ℕ)). height_of xs m) none ∙ height_none (length ranks) m) high);
  only = λ k d low first second. absurd (omega arith);
}

-- and in the end all do that can
pub points_all : (orders : List Order) (ranks next : List (Option ℕ)) (i : ℕ) → i ≤ length orders → length orders ≤ i → PointsOnBy orders ranks next i → PointsOn orders ranks next
points_all orders ranks next i within past points = let at : i ≡ length orders = omega arith in subst (PointsOnBy orders ranks next) at points

-- heights below a number, of all that have one
pub below_all : (ranks : List (Option ℕ)) (level i : ℕ) → length ranks ≤ i → ((n height : ℕ) → n < i → height_of ranks n ≡ Some height → height < level) → HasHeightsBelow ranks level
below_all ranks level i past below = λ n height high. elim (cases_lt n i) [
  | inl less ↦ below n height less high
  | inr more ↦ absurd (none_high (height_of ranks n) height (get_or_past ranks n None (omega arith)) high)
]
