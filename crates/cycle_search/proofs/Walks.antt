-- Walks and round trips over numbers: one more step, a part, a turn, and what ranks rule out.
use Rattle.std.proofs.Common.{◌≡◌, ℕ, zero, suc, ◌<◌, ◌≤◌, ◌+◌, inl, inr, Bool, true, false, not, ◌||◌, eqb, cond, List, [], ◌∷◌, ◌++◌, length, take, drop, get_or, Option, Some, None, IsSome, unwrap_or, nat_lt, refl, arith, subst, sym, ap, ◌∙◌}
use Rattle.std.proofs.Math.ListN.{set}
use Rattle.std.specs.List.{All, IsFirstBest, count_by}
use Rattle.std.proofs.lemmas.List.{append-nil, append_assoc, take-append-drop, length-append, length-drop, get_or-set_same, get_or-set_other, drop_more}
use Rattle.std.proofs.lemmas.List.Sums.{sum_by-set}
use Rattle.std.proofs.lemmas.Bool.{false≢true, or_cases, or_parts, or_from, or_left, or_right, eqb-true, eq-eqb}
use Rattle.std.proofs.lemmas.Bool.Decides.{eqb_tells, nat_tests}
use Rattle.model.specs.Lists.{has, head_or}
use Rattle.model.specs.declarations.Walks.{IsOnceEach, IsWalk}
use Rattle.cycle_search.specs.declared.order.Order.{Order}
use Rattle.cycle_search.specs.Orders.{IsBetween}
use Rattle.cycle_search.specs.Cycles.{IsStep, IsRankable, height_of, IsAbove, IsRanked, PointsOn, IsStuck, GoesOn, IsRound, BeginsLeast}
use Rattle.model.proofs.lists.Bools.{or_false}
use Rattle.model.proofs.lists.Places.{has-append}

-- ---- what a list has

-- where it stands
pub has_at : (n : ℕ) (xs : List ℕ) → has n xs ≡ true → (k : ℕ) × (k < length xs) × (get_or xs k 0 ≡ n)
has_at n [] h = absurd (false≢true h)
has_at n (x ∷ xs) h = elim (or_cases (eqb x n) (has n xs) h) [
  | inl e ↦ (0, omega arith, eqb-true x n e)
  | inr e ↦ let r = has_at n xs e in (suc r.0, omega (arith, r.1), r.2)
]

pub at_has : (xs : List ℕ) (k : ℕ) → k < length xs → has (get_or xs k 0) xs ≡ true
at_has [] k l = absurd (omega arith)
at_has (x ∷ xs) zero l = or_left (eqb x x) (has x xs) (eq-eqb x x refl)
at_has (x ∷ xs) (suc k) l = or_right (eqb x (get_or xs k 0)) (has (get_or xs k 0) xs) (at_has xs k (omega arith))

-- ---- no number twice

pub once_push : (xs : List ℕ) (c : ℕ) → IsOnceEach xs → has c xs ≡ false → IsOnceEach (xs ++ c ∷ [])
once_push [] c o h = (refl, tt)
once_push (x ∷ xs) c o h =
    let p = or_parts (eqb x c) (has c xs) h in
    let other : eqb c x ≡ false = grind (arith, nat_tests) in
    (has-append x xs (c ∷ []) ∙ or_from (has x xs) (eqb c x || false) o.0 (or_from (eqb c x) false other refl), once_push xs c o.1 p.1)

pub once_drop : (k : ℕ) (xs : List ℕ) → IsOnceEach xs → IsOnceEach (drop k xs)
once_drop zero xs o = o
once_drop (suc k) [] o = tt
once_drop (suc k) (x ∷ xs) o = once_drop k xs o.1

-- the parts of a list with no number twice
once_parts : (xs ys : List ℕ) → IsOnceEach (xs ++ ys) → IsOnceEach xs × IsOnceEach ys × ((n : ℕ) → has n xs ≡ true → has n ys ≡ false)
once_parts [] ys o = (tt, o, λ n h. absurd (false≢true h))
once_parts (x ∷ xs) ys o =
    let r = once_parts xs ys o.1 in
    let apart : (has x xs || has x ys) ≡ false = sym (has-append x xs ys) ∙ o.0 in
    let p = or_parts (has x xs) (has x ys) apart in (
      (p.0, r.0),
      r.1,
      λ n h. elim (or_cases (eqb x n) (has n xs) h) [
        | inl e ↦ subst (λ (m : ℕ). has m ys ≡ false) (eqb-true x n e) p.1
        | inr e ↦ r.2 n e
      ],
    )

once_joined : (xs ys : List ℕ) → IsOnceEach xs → IsOnceEach ys → ((n : ℕ) → has n xs ≡ true → has n ys ≡ false) → IsOnceEach (xs ++ ys)
once_joined [] ys o q apart = q
once_joined (x ∷ xs) ys o q apart =
    (has-append x xs ys ∙ or_from (has x xs) (has x ys) o.0 (apart x (or_left (eqb x x) (has x xs) (eq-eqb x x refl))), once_joined xs ys o.1 q (λ n h. apart n (or_right (eqb x n) (has n xs) h)))

apart_by : (xs ys : List ℕ) (n : ℕ) (b : Bool) → (has n xs ≡ true → has n ys ≡ false) → has n ys ≡ true → has n xs ≡ b → b ≡ false
apart_by xs ys n false apart h e = refl
apart_by xs ys n true apart h e = absurd (false≢true (sym (apart e) ∙ h))

apart_turned : (xs ys : List ℕ) → ((n : ℕ) → has n xs ≡ true → has n ys ≡ false) → (n : ℕ) → has n ys ≡ true → has n xs ≡ false
apart_turned xs ys apart n h = apart_by xs ys n (has n xs) (apart n) h refl

once_turned : (xs ys : List ℕ) → IsOnceEach (xs ++ ys) → IsOnceEach (ys ++ xs)
once_turned xs ys o = let p = once_parts xs ys o in once_joined ys xs p.1 p.0 (apart_turned xs ys p.2)

-- ---- walks

pub walk_push : (Step : ℕ → ℕ → Type 0) (xs : List ℕ) (m n : ℕ) → IsWalk Step (xs ++ m ∷ []) → Step m n → IsWalk Step ((xs ++ m ∷ []) ++ n ∷ [])
walk_push Step [] m n w s = (s, tt)
walk_push Step (x ∷ []) m n w s = (w.0, (s, tt))
walk_push Step (x ∷ y ∷ xs) m n w s = (w.0, walk_push Step (y ∷ xs) m n w.1 s)

pub walk_weaker : (Step Stride : ℕ → ℕ → Type 0) → ((m n : ℕ) → Step m n → Stride m n) → (xs : List ℕ) → IsWalk Step xs → IsWalk Stride xs
walk_weaker Step Stride f [] w = tt
walk_weaker Step Stride f (x ∷ []) w = tt
walk_weaker Step Stride f (x ∷ y ∷ xs) w = (f x y w.0, walk_weaker Step Stride f (y ∷ xs) w.1)

walk_rest : (Step : ℕ → ℕ → Type 0) (x : ℕ) (xs : List ℕ) → IsWalk Step (x ∷ xs) → IsWalk Step xs
walk_rest Step x [] w = tt
walk_rest Step x (y ∷ xs) w = w.1

walk_drop : (Step : ℕ → ℕ → Type 0) (k : ℕ) (xs ys : List ℕ) → IsWalk Step (xs ++ ys) → k ≤ length xs → IsWalk Step (drop k xs ++ ys)
walk_drop Step zero xs ys w l = w
walk_drop Step (suc k) [] ys w l = absurd (omega arith)
walk_drop Step (suc k) (x ∷ xs) ys w l = walk_drop Step k xs ys (walk_rest Step x (xs ++ ys) w) (omega arith)

walk_front : (Step : ℕ → ℕ → Type 0) (xs : List ℕ) (m : ℕ) (ys : List ℕ) → IsWalk Step (xs ++ m ∷ ys) → IsWalk Step (xs ++ m ∷ [])
walk_front Step [] m ys w = tt
walk_front Step (x ∷ []) m ys w = (w.0, tt)
walk_front Step (x ∷ y ∷ xs) m ys w = (w.0, walk_front Step (y ∷ xs) m ys w.1)

walk_back : (Step : ℕ → ℕ → Type 0) (xs : List ℕ) (m : ℕ) (ys : List ℕ) → IsWalk Step (xs ++ m ∷ ys) → IsWalk Step (m ∷ ys)
walk_back Step [] m ys w = w
walk_back Step (x ∷ xs) m ys w = walk_back Step xs m ys (walk_rest Step x (xs ++ m ∷ ys) w)

walk_joined : (Step : ℕ → ℕ → Type 0) (xs : List ℕ) (m : ℕ) (ys : List ℕ) → IsWalk Step (xs ++ m ∷ []) → IsWalk Step (m ∷ ys) → IsWalk Step (xs ++ m ∷ ys)
walk_joined Step [] m ys w v = v
walk_joined Step (x ∷ []) m ys w v = (w.0, v)
walk_joined Step (x ∷ y ∷ xs) m ys w v = (w.0, walk_joined Step (y ∷ xs) m ys w.1 v)

walk_turned : (Step : ℕ → ℕ → Type 0) (xs ys : List ℕ) → IsWalk Step ((xs ++ ys) ++ take 1 (xs ++ ys)) → IsWalk Step ((ys ++ xs) ++ take 1 (ys ++ xs))
walk_turned Step [] ys w = subst (λ (zs : List ℕ). IsWalk Step (zs ++ take 1 zs)) (sym (append-nil ys)) w
walk_turned Step (x ∷ xs) [] w = subst (λ (zs : List ℕ). IsWalk Step (zs ++ take 1 zs)) (append-nil (x ∷ xs)) w
walk_turned Step (x ∷ xs) (y ∷ ys) w =
    let whole : IsWalk Step ((x ∷ xs) ++ y ∷ (ys ++ x ∷ [])) = subst (λ (zs : List ℕ). IsWalk Step zs) (append_assoc (x ∷ xs) (y ∷ ys) (x ∷ [])) w in
    let first : IsWalk Step ((x ∷ xs) ++ y ∷ []) = walk_front Step (x ∷ xs) y (ys ++ x ∷ []) whole in
    let second : IsWalk Step ((y ∷ ys) ++ x ∷ []) = walk_back Step (x ∷ xs) y (ys ++ x ∷ []) whole in
    subst (λ (zs : List ℕ). IsWalk Step zs) (sym (append_assoc (y ∷ ys) (x ∷ xs) (y ∷ []))) (walk_joined Step (y ∷ ys) x (xs ++ y ∷ []) second first)

-- ---- the walk of the code

pub seen_more : (seen : List Bool) (path : List ℕ) (current : ℕ) → current < length seen → ((n : ℕ) → get_or seen n false ≡ has n path) → (n : ℕ) → get_or (set seen current true) n false ≡ has n (path ++ current ∷ [])
seen_more seen path current l h n = elim (eqb_tells n current) [
  | inl f ↦
      let there : has n (current ∷ []) ≡ true = or_left (eqb current n) false (eq-eqb current n (sym f.1)) in
      ap (λ (m : ℕ). get_or (set seen current true) m false) f.1 ∙ (get_or-set_same seen current true false l ∙ sym (has-append n path (current ∷ []) ∙ or_right (has n path) (has n (current ∷ [])) there))
  | inr f ↦
      let absent : has n (current ∷ []) ≡ false = or_from (eqb current n) false (grind (arith, nat_tests)) refl in
      get_or-set_other seen current n true false f.1 ∙ (h n ∙ sym (has-append n path (current ∷ []) ∙ (ap (λ b. has n path || b) absent ∙ or_false (has n path))))
]

pub unseen_less : (seen : List Bool) (current : ℕ) → current < length seen → get_or seen current false ≡ false → count_by not (set seen current true) + 1 ≡ count_by not seen
unseen_less seen current l e =
    let f : Bool → ℕ = λ b. cond (not b) 1 0 in
    let step : count_by not (set seen current true) + f (get_or seen current false) ≡ count_by not seen + 0 = sum_by-set f seen current true false l in
    let one : f (get_or seen current false) ≡ 1 = ap f e in
    omega arith

pub cut_round : (Step : ℕ → ℕ → Type 0) (path : List ℕ) (current from : ℕ) → IsOnceEach path → IsWalk Step (path ++ current ∷ []) → from < length path → get_or path from 0 ≡ current → IsRound Step (drop from path)
cut_round Step path current from o w l e =
    let first : drop from path ≡ current ∷ drop (from + 1) path = drop_more path from 0 l ∙ ap (λ x. x ∷ drop (from + 1) path) e in
    record {
      some = omega (arith, length-drop from path);
      once = once_drop from path o;
      walk = subst (λ (ys : List ℕ). IsWalk Step (drop from path ++ ys)) (sym (ap (take 1) first)) (walk_drop Step from path (current ∷ []) w (omega arith));
    }

pub round_weaker : (Step Stride : ℕ → ℕ → Type 0) (items : List ℕ) → ((m n : ℕ) → Step m n → Stride m n) → IsRound Step items → IsRound Stride items
round_weaker Step Stride items f r = record { some = r.some; once = r.once; walk = walk_weaker Step Stride f (items ++ take 1 items) r.walk }

pub turned_round : (Step : ℕ → ℕ → Type 0) (items : List ℕ) (k : ℕ) → IsRound Step items → k ≤ length items → IsRound Step (drop k items ++ take k items)
turned_round Step items k r l =
    let whole : items ≡ take k items ++ drop k items = sym (take-append-drop k items) in
    record {
      some = omega (arith, length-append (drop k items) (take k items), length-append (take k items) (drop k items), ap length whole, r.some);
      once = once_turned (take k items) (drop k items) (subst (λ (xs : List ℕ). IsOnceEach xs) whole r.once);
      walk = walk_turned Step (take k items) (drop k items) (subst (λ (xs : List ℕ). IsWalk Step (xs ++ take 1 xs)) whole r.walk);
    }

has_turned : (n : ℕ) (xs ys : List ℕ) → has n (ys ++ xs) ≡ true → has n (xs ++ ys) ≡ true
has_turned n xs ys h = elim (or_cases (has n ys) (has n xs) (sym (has-append n ys xs) ∙ h)) [
  | inl e ↦ has-append n xs ys ∙ or_right (has n xs) (has n ys) e
  | inr e ↦ has-append n xs ys ∙ or_left (has n xs) (has n ys) e
]

pub turned_least : (items : List ℕ) (k : ℕ) → IsFirstBest nat_lt items (length items) k → BeginsLeast (drop k items ++ take k items)
turned_least items k b n h =
    let first : drop k items ≡ get_or items k 0 ∷ drop (k + 1) items = drop_more items k 0 b.0 in
    let head : head_or 0 (drop k items ++ take k items) ≡ get_or items k 0 = ap (λ (xs : List ℕ). head_or 0 (xs ++ take k items)) first in
    let among : has n items ≡ true = subst (λ (xs : List ℕ). has n xs ≡ true) (take-append-drop k items) (has_turned n (take k items) (drop k items) h) in
    let place = has_at n items among in
    let not_less : nat_lt (get_or items place.0 0) (get_or items k 0) ≡ false = b.1 place.0 0 place.1 in
    let low : get_or items k 0 ≤ get_or items place.0 0 = grind (arith, nat_tests) in
    let same : get_or items place.0 0 ≡ n = place.2 in
    omega arith

-- ---- ranks

walk_falls : (Step : ℕ → ℕ → Type 0) (r : IsRankable Step) (x : ℕ) (xs : List ℕ) (z : ℕ) → IsWalk Step (x ∷ (xs ++ z ∷ [])) → r.rank z < r.rank x
walk_falls Step r x [] z w = r.falls x z w.0
walk_falls Step r x (y ∷ xs) z w =
    let here : r.rank y < r.rank x = r.falls x y w.0 in
    let there : r.rank z < r.rank y = walk_falls Step r y xs z w.1 in
    omega arith

pub no_round : (Step : ℕ → ℕ → Type 0) → IsRankable Step → (items : List ℕ) → 0 < length items → IsWalk Step (items ++ take 1 items) → ⊥
no_round Step r [] l w = omega arith
no_round Step r (x ∷ xs) l w = let fall : r.rank x < r.rank x = walk_falls Step r x xs x w in omega arith

above_ranks : (f s : Option ℕ) → IsSome f → IsAbove f s → unwrap_or s 0 < unwrap_or f 0
above_ranks None s p a = absurd (false≢true p)
above_ranks (Some h) None p a = absurd a
above_ranks (Some h) (Some k) p a = a

rank_low : (o : Option ℕ) (level : ℕ) → ((h : ℕ) → o ≡ Some h → h < level) → unwrap_or o 0 ≤ level
rank_low None level b = omega arith
rank_low (Some h) level b = let low : h < level = b h refl in omega arith

pub rankable : (orders : List Order) (ranks : List (Option ℕ)) (count level : ℕ) → All (IsBetween count) orders → IsRanked orders ranks level → ((n : ℕ) → n < count → IsSome (height_of ranks n)) → IsRankable (IsStep orders)
rankable orders ranks count level between r whole = record {
  rank = λ n. unwrap_or (height_of ranks n) 0;
  bound = level;
  bounded = λ n. rank_low (height_of ranks n) level (r.below n);
  falls = λ m n s.
      let o : Order = record { first = m; second = n } in
      let inside : IsBetween count o = subst (λ (x : Order). IsBetween count x) s.2 (between s.0 o s.1) in
      let falling : IsAbove (height_of ranks m) (height_of ranks n) = subst (λ (x : Order). IsAbove (height_of ranks x.first) (height_of ranks x.second)) s.2 (r.falling s.0 o s.1) in
      above_ranks (height_of ranks m) (height_of ranks n) (whole m inside.first) falling;
}

pub goes_on : (orders : List Order) (ranks next : List (Option ℕ)) (count : ℕ) → All (IsBetween count) orders → length ranks ≡ count → PointsOn orders ranks next → IsStuck ranks next → GoesOn next
goes_on orders ranks next count between long p stuck = record {
  goes = λ m n e.
      let q = p.ordered m n e in
      let o : Order = record { first = m; second = n } in
      let inside : IsBetween count o = subst (λ (x : Order). IsBetween count x) q.0.2 (between q.0.0 o q.0.1) in
      let within : n < count = inside.second in
      let same : length next ≡ length ranks = p.long in
      (omega arith, stuck n (omega arith) q.1);
}
