-- What reaches a set is what is marked, where marks are sound and spread.
use Rattle.std.proofs.Common.{ℕ, zero, suc, ◌+◌, ◌<◌, ◌≤◌, ◌≡◌, Bool, true, false, not, ◌&&◌, ◌||◌, eqb, cond, ◌⊎◌, inl, inr, List, [], ◌∷◌, ◌++◌, length, get_or, refl, sym, ap, ◌∙◌, subst, arith}
use Rattle.std.proofs.Math.ListN.{set}
use Rattle.std.specs.List.{All, count_by}
use Rattle.std.proofs.lemmas.List.{get_or-set_other, get_or_past}
use Rattle.std.proofs.lemmas.List.Sums.{sum_by-set}
use Rattle.std.proofs.lemmas.Bool.{false≢true, both_ways, or_cases, or_left, or_right, and_from, eqb-true, eq-eqb, cases_lt, true_from_ne_false, not_from_false}
use Rattle.std.proofs.lemmas.Bool.Decides.{eqb_tells}
use Rattle.model.specs.Lists.{has, IsIn}
use Rattle.model.specs.declarations.Walks.{IsWalk}
use Rattle.model.specs.declarations.Hierarchy.{IsHeld, Reaches, AreMembers, IsRising}
use Rattle.cycle_search.specs.declared.order.Order.{Order}
use Rattle.cycle_search.specs.Cycles.{IsStep}
use Rattle.system_set.specs.Pairs.{pair_of, pairs_of, hierarchy_of, is_marked, AreSound, IsSpread, AreMarked}
use Rattle.model.proofs.lists.Places.{has-append}

-- ---- pairs

-- an order among the pairs
order_of : ℕ → ℕ → Order
order_of m n = record { first = m; second = n }

-- a pair that stands somewhere holds
pub held_at : (orders : List Order) (k : ℕ) (d : Order) → k < length orders → IsIn (pair_of (get_or orders k d)) (pairs_of orders)
held_at [] k d low = absurd (omega arith)
held_at (o ∷ orders) zero d low = inl refl
held_at (o ∷ orders) (suc k) d low = inr (held_at orders k d (omega arith))

-- a pair that holds stands somewhere
pub held_place : (orders : List Order) (m n : ℕ) → IsIn (m, n) (pairs_of orders) → (k : ℕ) × (k < length orders) × ((d : Order) → ((get_or orders k d).first ≡ m) × ((get_or orders k d).second ≡ n))
held_place [] m n h = absurd h
held_place (o ∷ orders) m n (inl e) = (0, omega arith, λ d. (sym (ap (λ p. p.0) e), sym (ap (λ p. p.1) e)))
held_place (o ∷ orders) m n (inr h) = let r = held_place orders m n h in (suc r.0, omega (arith, r.1), r.2)

-- steps are pairs
pub held_of_step : (orders : List Order) (m n : ℕ) → IsStep orders m n → IsIn (m, n) (pairs_of orders)
held_of_step orders m n s =
    subst (λ (o : Order). IsIn (pair_of o) (pairs_of orders)) s.2 (held_at orders s.0 (record { first = m; second = n }) s.1)

pub step_of_held : (orders : List Order) (m n : ℕ) → IsIn (m, n) (pairs_of orders) → IsStep orders m n
step_of_held orders m n h =
    let r = held_place orders m n h in
    let here = r.2 (record { first = m; second = n }) in
    let found : Order = get_or orders r.0 (record { first = m; second = n }) in
    (r.0, r.1, ap (λ (x : ℕ). (record { first = x; second = found.second })) here.0 ∙ ap (λ (x : ℕ). (record { first = m; second = x })) here.1)

-- ---- sound marks

-- what is put into the set, or into what is marked, reaches the set
pub reaches_by : (orders : List Order) (holder : ℕ) (marks : List Bool) (m n : ℕ) → AreSound orders holder marks → IsIn (m, n) (pairs_of orders) →
    (eqb n holder || is_marked marks n) ≡ true → Reaches (hierarchy_of 0 0 orders) m holder
reaches_by orders holder marks m n sound held leads = elim (or_cases (eqb n holder) (is_marked marks n) leads) [
  | inl here ↦ ([], (subst (λ (x : ℕ). IsIn (m, x) (pairs_of orders)) (eqb-true n holder here) held, tt))
  | inr there ↦ let further = sound.sound n there in (n ∷ further.0, (held, further.1))
]

-- one more mark is sound
pub sound_more : (orders : List Order) (holder : ℕ) (marks : List Bool) (item : ℕ) → AreSound orders holder marks → Reaches (hierarchy_of 0 0 orders) item holder →
    AreSound orders holder (set marks item true)
sound_more orders holder marks item sound reaches = record {
  sound = λ n e. elim (eqb_tells n item) [
    | inl same ↦ subst (λ (x : ℕ). Reaches (hierarchy_of 0 0 orders) x holder) (sym same.1) reaches
    | inr other ↦ sound.sound n (sym (get_or-set_other marks item n true false other.1) ∙ e)
  ];
}

-- the same by the pair at a place
pub sound_at : (orders : List Order) (holder : ℕ) (marks : List Bool) (place : ℕ) (d : Order) → AreSound orders holder marks → place < length orders →
    (eqb (get_or orders place d).second holder || is_marked marks (get_or orders place d).second) ≡ true → AreSound orders holder (set marks (get_or orders place d).first true)
sound_at orders holder marks place d sound low leads =
    sound_more orders holder marks (get_or orders place d).first sound
    (reaches_by orders holder marks (get_or orders place d).first (get_or orders place d).second sound (held_at orders place d low) leads)

-- ---- spread marks

-- what is put into the set, or into what is marked, is marked
spread_marks : (orders : List Order) (holder : ℕ) (marks : List Bool) (m n : ℕ) → All (IsSpread marks holder) orders → IsIn (m, n) (pairs_of orders) →
    (eqb n holder || is_marked marks n) ≡ true → is_marked marks m ≡ true
spread_marks orders holder marks m n spread held leads =
    let r = held_place orders m n held in
    let d : Order = record { first = 0; second = 0 } in
    let o : Order = get_or orders r.0 d in
    let here = r.2 d in
    let closed : (not (is_marked marks o.first) && (eqb o.second holder || is_marked marks o.second)) ≡ false = spread r.0 d r.1 in
    let named : (not (is_marked marks m) && (eqb n holder || is_marked marks n)) ≡ false
    = subst (λ (x : ℕ). (not (is_marked marks x) && (eqb n holder || is_marked marks n)) ≡ false) here.0
    (subst (λ (y : ℕ). (not (is_marked marks o.first) && (eqb y holder || is_marked marks y)) ≡ false) here.1 closed) in
    true_from_ne_false (is_marked marks m) (λ f. both_ways _ named (and_from (not (is_marked marks m)) (eqb n holder || is_marked marks n) (not_from_false (is_marked marks m) f) leads))

-- so all that reaches the set is marked
pub marked_from : (orders : List Order) (holder : ℕ) (marks : List Bool) → All (IsSpread marks holder) orders → (between : List ℕ) (n : ℕ) →
    IsWalk (IsHeld (hierarchy_of 0 0 orders)) (n ∷ (between ++ holder ∷ [])) → is_marked marks n ≡ true
marked_from orders holder marks spread [] n walk =
    spread_marks orders holder marks n holder spread walk.0 (or_left (eqb holder holder) (is_marked marks holder) (eq-eqb holder holder refl))
marked_from orders holder marks spread (m ∷ between) n walk =
    spread_marks orders holder marks n m spread walk.0 (or_right (eqb m holder) (is_marked marks m) (marked_from orders holder marks spread between m walk.1))

-- ---- members

-- a mark is that of an item
pub marked_known : (marks : List Bool) (n : ℕ) → is_marked marks n ≡ true → n < length marks
marked_known marks n e = elim (cases_lt n (length marks)) [
  | inl low ↦ low
  | inr past ↦ absurd (both_ways _ (get_or_past marks n false past) e)
]

-- with all numbers looked at
pub marked_all : (sets : ℕ) (marks : List Bool) (count : ℕ) (members : List ℕ) → length marks ≤ count → AreMarked sets marks count members → AreMarked sets marks (length marks) members
marked_all sets marks count members past are = record {
  each = λ n. (
    (λ e. let found = (are.each n).0 e in (found.0, marked_known marks n found.2, found.2)),
    (λ found. let low : n < length marks = found.1 in (are.each n).1 (found.0, omega arith, found.2)),
  );
  rising = are.rising;
}

-- with none
pub marked_none : (sets : ℕ) (marks : List Bool) → AreMarked sets marks sets []
marked_none sets marks = record {
  each = λ n. ((λ e. absurd (false≢true e)), (λ found. let low : sets ≤ n = found.0 in let high : n < sets = found.1 in absurd (omega arith)));
  rising = tt;
}

pub has_push : (n item : ℕ) (xs : List ℕ) → has n (xs ++ item ∷ []) ≡ true → (has n xs ≡ true) ⊎ (item ≡ n)
has_push n item xs e = elim (or_cases (has n xs) (has n (item ∷ [])) (sym (has-append n xs (item ∷ [])) ∙ e)) [
  | inl old ↦ inl old
  | inr new ↦ elim (or_cases (eqb item n) false new) [ inl here ↦ inr (eqb-true item n here) | inr none ↦ absurd (false≢true none) ]
]

pub rising_push : (xs : List ℕ) (item : ℕ) → IsRising xs → ((n : ℕ) → has n xs ≡ true → n < item) → IsRising (xs ++ item ∷ [])
rising_push [] item rising below = ((λ m e. absurd (false≢true e)), tt)
rising_push (x ∷ xs) item rising below = (
  (λ m e. elim (has_push m item xs e) [
    | inl old ↦ rising.0 m old
    | inr new ↦ let first : x < item = below x (or_left (eqb x x) (has x xs) (eq-eqb x x refl)) in omega arith
  ]),
  rising_push xs item rising.1 (λ n e. below n (or_right (eqb x n) (has n xs) e)),
)

-- with one more
pub marked_more : (sets : ℕ) (marks : List Bool) (item : ℕ) (members : List ℕ) (test : Bool) → sets ≤ item → is_marked marks item ≡ test → AreMarked sets marks item members →
    AreMarked sets marks (item + 1) (cond test (members ++ item ∷ []) members)
marked_more sets marks item members true past here are = record {
  each = λ n. (
    (λ e. elim (has_push n item members e) [
      | inl old ↦ let found = (are.each n).0 old in let low : n < item = found.1 in (found.0, omega arith, found.2)
      | inr new ↦ (omega arith, omega arith, subst (λ (x : ℕ). is_marked marks x ≡ true) new here)
    ]),
    (λ found. has-append n members (item ∷ []) ∙ elim (cases_lt n item) [
      | inl low ↦ or_left (has n members) (has n (item ∷ [])) ((are.each n).1 (found.0, low, found.2))
      | inr high ↦ let last : n < item + 1 = found.1 in or_right (has n members) (has n (item ∷ [])) (or_left (eqb item n) false (eq-eqb item n (omega arith)))
    ]),
  );
  rising = rising_push members item are.rising (λ n e. ((are.each n).0 e).1);
}
marked_more sets marks item members false past here are = record {
  each = λ n. (
    (λ e. let found = (are.each n).0 e in let low : n < item = found.1 in (found.0, omega arith, found.2)),
    (λ found. elim (cases_lt n item) [
      | inl low ↦ (are.each n).1 (found.0, low, found.2)
      | inr high ↦
          let last : n < item + 1 = found.1 in
          let same : item ≡ n = omega arith in
          absurd (both_ways _ (subst (λ (x : ℕ). is_marked marks x ≡ false) same here) found.2)
    ]),
  );
  rising = are.rising;
}

-- the marked systems are the members
pub members_from : (sets items : ℕ) (orders : List Order) (holder : ℕ) (marks : List Bool) (members : List ℕ) → length marks ≡ items → AreSound orders holder marks →
    All (IsSpread marks holder) orders → AreMarked sets marks (length marks) members → AreMembers (hierarchy_of sets items orders) holder members
members_from sets items orders holder marks members long sound spread are = record {
  each = λ n. (
    (λ e. let found = (are.each n).0 e in let low : n < length marks = found.1 in record { system = found.0; known = omega arith; reaches = sound.sound n found.2 }),
    (λ member. let low : n < items = member.known in (are.each n).1 (member.system, omega arith, marked_from orders holder marks spread member.reaches.0 n member.reaches.1)),
  );
  rising = are.rising;
}

-- one more mark leaves fewer items unmarked
pub fewer_unmarked : (marks : List Bool) (i : ℕ) → i < length marks → not (is_marked marks i) ≡ true → count_by not (set marks i true) < count_by not marks
fewer_unmarked marks i low h =
    let e : count_by not (set marks i true) + cond {A = ℕ} (not (get_or marks i false)) 1 0 ≡ count_by not marks + 0 = sum_by-set (λ (b : Bool). cond {A = ℕ} (not b) 1 0) marks i true false low in
    let one : cond {A = ℕ} (not (get_or marks i false)) 1 0 ≡ 1 = ap (λ (b : Bool). cond {A = ℕ} b 1 0) h in
    omega arith
