-- The edges that are found are the edges of systems.
use Rattle.std.proofs.Common.{ℕ, zero, suc, ◌+◌, ◌<◌, ◌≤◌, ◌≡◌, ◌↔◌, Bool, true, false, ◌||◌, ◌&&◌, eqb, cond, nat_lt, ◌⊎◌, inl, inr, List, [], ◌∷◌, ◌++◌, length, take, get_or, refl, sym, ap, ◌∙◌, subst, arith, ltb-true, lt-ltb, eqb-true, eq-eqb}
use Rattle.std.specs.List.{All}
use Rattle.std.specs.Bool.{MatchBool}
use Rattle.std.proofs.lemmas.List.{get_or_push, get_or_append_left, length_push, take_more, take_all, map-append}
use Rattle.std.proofs.lemmas.Bool.{both_ways, and_parts, and_from, or_cases, or_left, or_right, cases_lt}
use Rattle.model.specs.Lists.{IsIn}
use Rattle.model.specs.declarations.Hierarchy.{Hierarchy, Reaches}
use Rattle.model.specs.declarations.Edges.{IsMemberOf}
use Rattle.model.proofs.lists.Lists.{IsIn-append, IsIn_left, IsIn_right}
use Rattle.cycle_search.specs.declared.order.Order.{Order}
use Rattle.system_set.specs.Pairs.{pair_of, pairs_of, hierarchy_of, is_marked, AreSound, IsSpread}
use Rattle.system_set.specs.Edges.{IsRow, AreRows, has_member, AreMarked, AreMarkedSeconds, AreSeconds, IsLedTo, HasEdgesTo, HasEdgesFrom, AreEdges}
use Rattle.system_set.proofs.Reaching.{marked_from, marked_known}

-- ---- what reaches a set

pub row_told : (sets items : ℕ) (pairs : List Order) (holder : ℕ) (marks : List Bool) → AreSound pairs holder marks → All (IsSpread marks holder) pairs → IsRow (hierarchy_of sets items pairs) holder marks
row_told sets items pairs holder marks sound spread = record { tells = λ n. (sound.sound n, λ reaches. marked_from pairs holder marks spread reaches.0 n reaches.1) }

pub rows_more : (h : Hierarchy) (count : ℕ) (rows : List (List Bool)) (row : List Bool) → AreRows h count rows → IsRow h count row → AreRows h (count + 1) (rows ++ row ∷ [])
rows_more h count rows row are new = record {
  long = length_push rows row ∙ ap (λ (k : ℕ). k + 1) are.long;
  each = λ n low. elim (cases_lt n count) [
    | inl below ↦ subst (λ (r : List Bool). IsRow h n r) (sym (get_or_append_left rows (row ∷ []) [] n (omega (arith, are.long)))) (are.each n below)
    | inr above ↦
        let here : count ≡ n = omega arith in
        subst (λ (r : List Bool). IsRow h n r) (sym (get_or_push rows row [] n (are.long ∙ here))) (subst (λ (k : ℕ). IsRow h k row) here new)
  ];
}

-- ---- members

member_set : (sets : ℕ) (rows : List (List Bool)) (item n : ℕ) → item < sets → has_member sets rows item n ≡ is_marked (get_or rows item []) n
member_set sets rows item n low = ap (λ (b : Bool). cond b (is_marked (get_or rows item []) n) (eqb item n)) (lt-ltb item sets low)

member_system : (sets : ℕ) (rows : List (List Bool)) (item n : ℕ) → sets ≤ item → has_member sets rows item n ≡ eqb item n
member_system sets rows item n past = go (nat_lt item sets) refl
  where
    go : (b : Bool) → nat_lt item sets ≡ b → cond b (is_marked (get_or rows item []) n) (eqb item n) ≡ eqb item n
    go true e = let low : item < sets = ltb-true item sets e in absurd (omega arith)
    go false e = refl

-- what is reached is a set
pub record HasSets (h : Hierarchy) : Type 0 where
  pub sets : (n holder : ℕ) → Reaches h n holder → holder < h.sets

pub member_told : (h : Hierarchy) (rows : List (List Bool)) → AreRows h h.sets rows → (item n : ℕ) → h.sets ≤ n → n < h.items → has_member h.sets rows item n ≡ true → IsMemberOf h item n
member_told h rows are item n system known e = elim (cases_lt item h.sets) [
  | inl low ↦ inr (record { system = system; known = known; reaches = ((are.each item low).tells n).0 (sym (member_set h.sets rows item n low) ∙ e) })
  | inr past ↦ inl (record { system = system; known = known; same = eqb-true item n (sym (member_system h.sets rows item n past) ∙ e) })
]

pub member_test : (h : Hierarchy) (rows : List (List Bool)) → AreRows h h.sets rows → HasSets h → (item n : ℕ) → IsMemberOf h item n → has_member h.sets rows item n ≡ true
member_test h rows are sets item n (inl itself) =
    let past : h.sets ≤ item = omega (arith, itself.system, itself.same) in
    member_system h.sets rows item n past ∙ eq-eqb item n itself.same
member_test h rows are sets item n (inr member) =
    let low : item < h.sets = sets.sets n item member.reaches in
    member_set h.sets rows item n low ∙ ((are.each item low).tells n).1 member.reaches

-- ---- where orders lead to

seconds_push : (sets : ℕ) (rows : List (List Bool)) (orders : List (ℕ × ℕ)) (m first second : ℕ) (old new : List Bool) → AreMarkedSeconds sets rows orders m old →
    ((n : ℕ) → is_marked new n ≡ ((has_member sets rows first m && eqb second n) || is_marked old n)) → AreMarkedSeconds sets rows (orders ++ (first, second) ∷ []) m new
seconds_push sets rows orders m first second old new are marked = record {
  tells = λ n. (
    (λ e. elim (or_cases (has_member sets rows first m && eqb second n) (is_marked old n) (sym (marked n) ∙ e)) [
      | inl here ↦
          let both = and_parts (has_member sets rows first m) (eqb second n) here in
          (first, IsIn_right (first, n) orders ((first, second) ∷ []) (inl (ap (λ (k : ℕ). (first, k)) (sym (eqb-true second n both.1)))), both.0)
      | inr there ↦ let found = (are.tells n).0 there in (found.0, IsIn_left (found.0, n) orders ((first, second) ∷ []) found.1, found.2)
    ]),
    (λ is. marked n ∙ elim (IsIn-append (is.0, n) orders ((first, second) ∷ []) is.1) [
      | inl old_one ↦ or_right (has_member sets rows first m && eqb second n) (is_marked old n) ((are.tells n).1 (is.0, old_one, is.2))
      | inr new_one ↦ elim new_one [
        | inl same ↦
            let tested : has_member sets rows first m ≡ true = subst (λ (x : ℕ). has_member sets rows x m ≡ true) (ap (λ p. p.0) same) is.2 in
            let at : second ≡ n = sym (ap (λ p. p.1) same) in
            or_left (has_member sets rows first m && eqb second n) (is_marked old n) (and_from (has_member sets rows first m) (eqb second n) tested (eq-eqb second n at))
        | inr none ↦ absurd none
      ]
    ]),
  );
}

pub seconds_more : (sets : ℕ) (rows : List (List Bool)) (orders : List Order) (i : ℕ) (d : Order) (m : ℕ) (old new : List Bool) → i < length orders → AreMarkedSeconds sets rows (pairs_of (take i orders)) m old →
    ((n : ℕ) → is_marked new n ≡ ((has_member sets rows (get_or orders i d).first m && eqb (get_or orders i d).second n) || is_marked old n)) →
    AreMarkedSeconds sets rows (pairs_of (take (i + 1) orders)) m new
seconds_more sets rows orders i d m old new low are marked =
    let o : Order = get_or orders i d in
    subst (λ ps. AreMarkedSeconds sets rows ps m new) (sym (ap pairs_of (take_more orders i d low) ∙ map-append pair_of (take i orders) (o ∷ [])))
    (seconds_push sets rows (pairs_of (take i orders)) m o.first o.second old new are marked)

pub seconds_all : (sets : ℕ) (rows : List (List Bool)) (orders : List Order) (i m : ℕ) (marks : List Bool) → length orders ≤ i → AreMarkedSeconds sets rows (pairs_of (take i orders)) m marks →
    AreMarkedSeconds sets rows (pairs_of orders) m marks
seconds_all sets rows orders i m marks past are = subst (λ (os : List Order). AreMarkedSeconds sets rows (pairs_of os) m marks) (take_all i orders past) are

-- ---- systems that are led to

-- the numbers of marked items so far, and one more
pub marked_none : (marks : List Bool) (count : ℕ) → count ≡ 0 → (n : ℕ) → IsIn n [] ↔ ((n < count) × (is_marked marks n ≡ true))
marked_none marks count none n = ((λ i. absurd i), (λ h. let low : n < count = h.0 in absurd (omega (arith, none))))

pub marked_more : (marks : List Bool) (i : ℕ) (mark : Bool) (old new : List ℕ) → mark ≡ is_marked marks i → ((n : ℕ) → IsIn n old ↔ ((n < i) × (is_marked marks n ≡ true)))
    → new ≡ cond mark (old ++ i ∷ []) old → (n : ℕ) → IsIn n new ↔ ((n < i + 1) × (is_marked marks n ≡ true))
marked_more marks i true old new at are is n = (
  (λ h. elim (IsIn-append n old (i ∷ []) (subst (IsIn n) is h)) [
    | inl before ↦ let k = (are n).0 before in let low : n < i = k.0 in (omega arith, k.1)
    | inr (inl same) ↦ (omega (arith, same), ap (is_marked marks) same ∙ sym at)
    | inr (inr none) ↦ absurd none
  ]),
  (λ h. subst (IsIn n) (sym is) (elim (cases_lt n i) [
    | inl below ↦ IsIn_left n old (i ∷ []) ((are n).1 (below, h.1))
    | inr above ↦ let low : n < i + 1 = h.0 in IsIn_right n old (i ∷ []) (inl (omega arith))
  ])),
)
marked_more marks i false old new at are is n = (
  (λ h. let k = (are n).0 (subst (IsIn n) is h) in let low : n < i = k.0 in (omega arith, k.1)),
  (λ h. subst (IsIn n) (sym is) (elim (cases_lt n i) [
    | inl below ↦ (are n).1 (below, h.1)
    | inr above ↦
        let low : n < i + 1 = h.0 in
        let same : n ≡ i = omega arith in
        absurd (both_ways _ (ap (is_marked marks) same ∙ sym at) h.1)
  ])),
)

pub marked_all : (marks : List Bool) (count : ℕ) (numbers : List ℕ) → length marks ≤ count → ((n : ℕ) → IsIn n numbers ↔ ((n < count) × (is_marked marks n ≡ true))) → AreMarked marks numbers
marked_all marks count numbers past are = λ n. (
  (λ i. ((are n).0 i).1),
  (λ e. let low : n < length marks = marked_known marks n e in (are n).1 (omega arith, e)),
)

-- the numbers of the marked items are the items that are led to
pub seconds_numbers : (sets : ℕ) (rows : List (List Bool)) (orders : List (ℕ × ℕ)) (m : ℕ) (marks : List Bool) (numbers : List ℕ) → AreMarkedSeconds sets rows orders m marks → AreMarked marks numbers → AreSeconds sets rows orders m numbers
seconds_numbers sets rows orders m marks numbers are marked = record {
  tells = λ second. ((λ i. (are.tells second).0 ((marked second).0 i)), (λ is. (marked second).1 ((are.tells second).1 is)));
}

-- no number so far has the system as its member
pub led_none : (sets : ℕ) (rows : List (List Bool)) (seconds : List ℕ) (i n : ℕ) (test : Bool) → i < length seconds → test ≡ has_member sets rows (get_or seconds i 0) n → test ≡ false
    → ((k : ℕ) → IsIn k (take i seconds) → has_member sets rows k n ≡ true → ⊥) → (k : ℕ) → IsIn k (take (i + 1) seconds) → has_member sets rows k n ≡ true → ⊥
led_none sets rows seconds i n test low at fails none k is member =
    elim (IsIn-append k (take i seconds) (get_or seconds i 0 ∷ []) (subst (IsIn k) (take_more seconds i 0 low) is)) [
      | inl before ↦ none k before member
      | inr (inl same) ↦ both_ways _ (sym at ∙ fails) (ap (λ x. has_member sets rows x n) (sym same) ∙ member)
      | inr (inr nothing) ↦ absurd nothing
    ]

pub not_led : (sets : ℕ) (rows : List (List Bool)) (seconds : List ℕ) (n i : ℕ) → length seconds ≤ i → ((k : ℕ) → IsIn k (take i seconds) → has_member sets rows k n ≡ true → ⊥) → IsLedTo sets rows seconds n → ⊥
not_led sets rows seconds n i past none led = none led.0 (subst (IsIn led.0) (sym (take_all i seconds past)) led.1) led.2

-- a number at a place has the system as its member
pub led_by : (sets : ℕ) (rows : List (List Bool)) (seconds : List ℕ) (i n : ℕ) (test : Bool) → i < length seconds → test ≡ has_member sets rows (get_or seconds i 0) n → test ≡ true → IsLedTo sets rows seconds n
led_by sets rows seconds i n test low at holds = (get_or seconds i 0, in-at seconds i low, sym at ∙ holds)
  where
    in-at : (xs : List ℕ) (j : ℕ) → j < length xs → IsIn (get_or xs j 0) xs
    in-at [] j below = absurd (omega arith)
    in-at (x ∷ xs) zero below = inl refl
    in-at (x ∷ xs) (suc j) below = inr (in-at xs j (omega arith))

-- ---- one more edge

order_in_pairs : (orders : List Order) (o : Order) (m n : ℕ) → IsIn (m, n) (pairs_of (orders ++ o ∷ [])) → IsIn (m, n) (pairs_of orders) ⊎ ((m ≡ o.first) × (n ≡ o.second))
order_in_pairs orders o m n h =
    elim (IsIn-append (m, n) (pairs_of orders) (pair_of o ∷ []) (subst (λ ps. IsIn (m, n) ps) (map-append pair_of orders (o ∷ [])) h)) [
      | inl old ↦ inl old
      | inr new ↦ elim new [ inl same ↦ inr (ap (λ p. p.0) same, ap (λ p. p.1) same) | inr none ↦ absurd none ]
    ]

pair_old : (orders : List Order) (o : Order) (m n : ℕ) → IsIn (m, n) (pairs_of orders) → IsIn (m, n) (pairs_of (orders ++ o ∷ []))
pair_old orders o m n h = subst (λ ps. IsIn (m, n) ps) (sym (map-append pair_of orders (o ∷ []))) (IsIn_left (m, n) (pairs_of orders) (pair_of o ∷ []) h)

pair_new : (orders : List Order) (o : Order) (m n : ℕ) → m ≡ o.first → n ≡ o.second → IsIn (m, n) (pairs_of (orders ++ o ∷ []))
pair_new orders o m n first second =
    subst (λ ps. IsIn (m, n) ps) (sym (map-append pair_of orders (o ∷ [])))
    (IsIn_right (m, n) (pairs_of orders) (pair_of o ∷ []) (inl (ap (λ (k : ℕ). (k, n)) first ∙ ap (λ (k : ℕ). (o.first, k)) second)))

pub no_edges_to : (sets : ℕ) (rows : List (List Bool)) (seconds : List ℕ) (system : ℕ) (edges : List Order) → HasEdgesTo sets rows seconds system sets edges edges
no_edges_to sets rows seconds system edges = record {
  tells = λ m n. ((λ h. inl h), (λ h. elim h [ inl old ↦ old | inr new ↦ let low : sets + n < sets = new.1 in absurd (omega arith) ]));
}

pub edges_to_more : (sets : ℕ) (rows : List (List Bool)) (seconds : List ℕ) (system other : ℕ) (o : Order) (test : Bool) (old now new : List Order) → sets + o.first ≡ system → sets + o.second ≡ other →
    MatchBool test (IsLedTo sets rows seconds other) (IsLedTo sets rows seconds other → ⊥) → HasEdgesTo sets rows seconds system other old now →
    new ≡ cond test (now ++ o ∷ []) now → HasEdgesTo sets rows seconds system (other + 1) old new
edges_to_more sets rows seconds system other o true old now new first second led are is = record {
  tells = λ m n. (
    (λ h. elim (order_in_pairs now o m n (subst (λ (es : List Order). IsIn (m, n) (pairs_of es)) is h)) [
      | inl before ↦ elim ((are.tells m n).0 before) [
        | inl oldest ↦ inl oldest
        | inr found ↦ let low : sets + n < other = found.1 in inr (found.0, omega arith, found.2)
      ]
      | inr added ↦
          let at : other ≡ sets + n = omega (arith, added.1, second) in
          inr (omega (arith, added.0, first), omega arith, subst (λ (x : ℕ). IsLedTo sets rows seconds x) at led)
    ]),
    (λ h. subst (λ (es : List Order). IsIn (m, n) (pairs_of es)) (sym is) (elim h [
      | inl oldest ↦ pair_old now o m n ((are.tells m n).1 (inl oldest))
      | inr found ↦ elim (cases_lt (sets + n) other) [
        | inl below ↦ pair_old now o m n ((are.tells m n).1 (inr (found.0, below, found.2)))
        | inr above ↦
            let low : sets + n < other + 1 = found.1 in
            let here : sets + m ≡ system = found.0 in
            pair_new now o m n (omega arith) (omega arith)
      ]
    ])),
  );
}
edges_to_more sets rows seconds system other o false old now new first second led are is = record {
  tells = λ m n. (
    (λ h. elim ((are.tells m n).0 (subst (λ (es : List Order). IsIn (m, n) (pairs_of es)) is h)) [
      | inl oldest ↦ inl oldest
      | inr found ↦ let low : sets + n < other = found.1 in inr (found.0, omega arith, found.2)
    ]),
    (λ h. subst (λ (es : List Order). IsIn (m, n) (pairs_of es)) (sym is) ((are.tells m n).1 (elim h [
      | inl oldest ↦ inl oldest
      | inr found ↦ elim (cases_lt (sets + n) other) [
        | inl below ↦ inr (found.0, below, found.2)
        | inr above ↦
            let low : sets + n < other + 1 = found.1 in
            let same : sets + n ≡ other = omega arith in
            absurd (led (subst (λ (x : ℕ). IsLedTo sets rows seconds x) same found.2))
      ]
    ]))),
  );
}

-- ---- the edges of one more system

pub no_edges_from : (sets items : ℕ) (rows : List (List Bool)) (orders : List (ℕ × ℕ)) → HasEdgesFrom sets items rows orders sets []
no_edges_from sets items rows orders = record { tells = λ m n. ((λ h. absurd h), (λ h. let low : sets + m < sets = h.0 in absurd (omega arith))) }

pub edges_from_more : (sets items : ℕ) (rows : List (List Bool)) (orders : List (ℕ × ℕ)) (system : ℕ) (seconds : List ℕ) (old new : List Order) → AreSeconds sets rows orders system seconds →
    HasEdgesFrom sets items rows orders system old → HasEdgesTo sets rows seconds system items old new → HasEdgesFrom sets items rows orders (system + 1) new
edges_from_more sets items rows orders system seconds old new are from to = record {
  tells = λ m n. (
    (λ h. elim ((to.tells m n).0 h) [
      | inl before ↦ let found = (from.tells m n).0 before in let low : sets + m < system = found.0 in (omega arith, found.1, found.2)
      | inr added ↦
          let at : sets + m ≡ system = added.0 in
          let led = added.2 in
          let second = (are.tells led.0).0 led.1 in
          (omega arith, added.1, (second.0, led.0, second.1, subst (λ (x : ℕ). has_member sets rows second.0 x ≡ true) (sym at) second.2, led.2))
    ]),
    (λ h. elim (cases_lt (sets + m) system) [
      | inl below ↦ (to.tells m n).1 (inl ((from.tells m n).1 (below, h.1, h.2)))
      | inr above ↦
          let low : sets + m < system + 1 = h.0 in
          let at : sets + m ≡ system = omega arith in
          let e = h.2 in
          let marked : IsIn e.1 seconds = (are.tells e.1).1 (e.0, e.2, subst (λ (x : ℕ). has_member sets rows e.0 x ≡ true) at e.3) in
          (to.tells m n).1 (inr (at, h.1, (e.1, marked, e.4)))
    ]),
  );
}

-- a member is an item
pub member_known : (h : Hierarchy) (item n : ℕ) → IsMemberOf h item n → n < h.items
member_known h item n (inl itself) = itself.known
member_known h item n (inr member) = member.known

pub edges_told : (h : Hierarchy) (rows : List (List Bool)) (orders : List (ℕ × ℕ)) (below : ℕ) (edges : List Order) → below ≡ h.items → AreRows h h.sets rows → ((n holder : ℕ) → Reaches h n holder → holder < h.sets) →
    HasEdgesFrom h.sets h.items rows orders below edges → AreEdges h orders edges
edges_told h rows orders below edges end are sets from = record {
  tells = λ m n. (
    (λ i.
        let found = (from.tells m n).0 i in
        let e = found.2 in
        let low : h.sets + m < below = found.0 in
        record {
          first = e.0;
          second = e.1;
          ordered = e.2;
          from = member_told h rows are e.0 (h.sets + m) (omega arith) (omega arith) e.3;
          to = member_told h rows are e.1 (h.sets + n) (omega arith) found.1 e.4;
        }),
    (λ e.
        let first : h.sets + m < h.items = member_known h e.first (h.sets + m) e.from in
        let second : h.sets + n < h.items = member_known h e.second (h.sets + n) e.to in
        (from.tells m n).1 (
          omega arith,
          second,
          (e.first, e.second, e.ordered, member_test h rows are (record { sets = sets }) e.first (h.sets + m) e.from, member_test h rows are (record { sets = sets }) e.second (h.sets + n) e.to),
        )),
  );
}
