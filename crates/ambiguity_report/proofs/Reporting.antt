-- The report, pair by pair.
use Rattle.std.proofs.Common.{ℕ, ◌+◌, ◌<◌, ◌≤◌, ◌≡◌, ◌⊎◌, inl, inr, List, [], ◌∷◌, ◌++◌, length, refl, sym, ap, ◌∙◌, subst, arith}
use Rattle.std.proofs.lemmas.Bool.{cases_lt}
use Rattle.std.specs.List.{AllByRecursion}
use Rattle.model.specs.Lists.{IsIn}
use Rattle.model.specs.steps.Schedule.{Schedule}
use Rattle.model.proofs.lists.Lists.{IsIn-append, IsIn_left, IsIn_right}
use Rattle.ambiguity_report.specs.declared.races.Racer.{Racer}
use Rattle.ambiguity_report.specs.declared.races.Racer.TheVariants.{System, Condition}
use Rattle.ambiguity_report.specs.declared.report.Pair.{Pair}
use Rattle.ambiguity_report.specs.Races.{IsRace}
use Rattle.ambiguity_report.specs.Report.{IsBelow, IsAhead, IsEarlier, IsRising, IsTold, IsListed, IsReport, IsReportTo}

-- ---- lists of pairs

all_push : (P : Pair → Type 0) (pairs : List Pair) (p : Pair) → AllByRecursion P pairs → P p → AllByRecursion P (pairs ++ p ∷ [])
all_push P [] p all here = (here, tt)
all_push P (q ∷ pairs) p all here = (all.0, all_push P pairs p all.1 here)

rising_push : (pairs : List Pair) (p : Pair) → IsRising pairs → ((q : Pair) → IsIn q pairs → IsEarlier q p) → IsRising (pairs ++ p ∷ [])
rising_push [] p rising earlier = (tt, tt)
rising_push (q ∷ pairs) p rising earlier = (all_push (IsEarlier q) pairs p rising.0 (earlier q (inl refl)), rising_push pairs p rising.1 (λ r i. earlier r (inr i)))

listed_later : (r : Racer) (n : ℕ) (pairs more : List Pair) → IsListed r n pairs → IsListed r n (pairs ++ more)
listed_later r n pairs more l = (l.0, IsIn_left l.0 pairs more l.1, l.2, l.3)

-- ---- what is ahead

below_more : (i j m n : ℕ) → IsBelow i j m n → IsBelow i j m (n + 1)
below_more i j m n (inl low) = inl low
below_more i j m n (inr low) = inr (low.0, omega (arith, low.1))

below_next : (i j m n : ℕ) → IsBelow i j m (n + 1) → IsBelow i j m n ⊎ ((i ≡ m) × (j ≡ n))
below_next i j m n (inl low) = inl (inl low)
below_next i j m n (inr low) = elim (cases_lt j n) [
  | inl less ↦ inl (inr (low.0, less))
  | inr more ↦ inr (low.0, omega (arith, low.1))
]

ahead_more : (q : Racer) (j : ℕ) (r : Racer) (n : ℕ) → IsAhead q j r n → IsAhead q j r (n + 1)
ahead_more (System i) j (System m) n low = below_more i j m n low
ahead_more (System i) j (Condition m) n low = tt
ahead_more (Condition i) j (System m) n low = low
ahead_more (Condition i) j (Condition m) n low = below_more i j m n low

-- what is ahead of the next system is ahead of this one or is this one
ahead_next : (q : Racer) (j : ℕ) (r : Racer) (n : ℕ) → IsAhead q j r (n + 1) → IsAhead q j r n ⊎ ((q ≡ r) × (j ≡ n))
ahead_next (System i) j (System m) n low = elim (below_next i j m n low) [ inl less ↦ inl less | inr here ↦ inr (ap (λ (k : ℕ). System k) here.0, here.1) ]
ahead_next (System i) j (Condition m) n low = inl tt
ahead_next (Condition i) j (System m) n low = absurd low
ahead_next (Condition i) j (Condition m) n low = elim (below_next i j m n low) [ inl less ↦ inl less | inr here ↦ inr (ap (λ (k : ℕ). Condition k) here.0, here.1) ]

here_ahead : (q : Racer) (j : ℕ) (r : Racer) (n : ℕ) → q ≡ r → j ≡ n → IsAhead q j r (n + 1)
here_ahead q j r n racer system = subst (λ (x : Racer). IsAhead x j r (n + 1)) (sym racer) (subst (λ (k : ℕ). IsAhead r k r (n + 1)) (sym system) (itself r))
  where
    itself : (x : Racer) → IsAhead x n x (n + 1)
    itself (System m) = inr (refl, omega arith)
    itself (Condition c) = inr (refl, omega arith)

-- ---- the report, pair by pair

-- one more pair that races
pub report_more : (s : Schedule) (r : Racer) (n : ℕ) (pairs : List Pair) (p : Pair) → p.first ≡ r → p.second ≡ n → IsTold s p → IsReportTo s r n pairs → IsReportTo s r (n + 1) (pairs ++ p ∷ [])
report_more s r n pairs p first second is_told front = record {
  rising = rising_push pairs p front.rising (λ q i. subst (λ (j : ℕ). IsAhead q.first q.second p.first j) (sym second) (subst (λ (x : Racer). IsAhead q.first q.second x n) (sym first) (front.ahead q i)));
  told = λ q i. elim (IsIn-append q pairs (p ∷ []) i) [
    | inl old ↦ front.told q old
    | inr new ↦ elim new [ inl same ↦ subst (IsTold s) (sym same) is_told | inr never ↦ absurd never ]
  ];
  ahead = λ q i. elim (IsIn-append q pairs (p ∷ []) i) [
    | inl old ↦ ahead_more q.first q.second r n (front.ahead q old)
    | inr new ↦ elim new [
      | inl same ↦ here_ahead q.first q.second r n (ap (λ (x : Pair). x.first) same ∙ first) (ap (λ (x : Pair). x.second) same ∙ second)
      | inr never ↦ absurd never
    ]
  ];
  whole = λ q j low race. elim (ahead_next q j r n low) [
    | inl less ↦ listed_later q j pairs (p ∷ []) (front.whole q j less race)
    | inr here ↦ (p, IsIn_right p pairs (p ∷ []) (inl refl), first ∙ sym here.0, second ∙ sym here.1)
  ];
}

-- all pairs of a condition are ahead of those of the next
pub report_next : (s : Schedule) (m n : ℕ) (pairs : List Pair) → n ≡ length s.systems → IsReportTo s (Condition m) n pairs → IsReportTo s (Condition (m + 1)) 0 pairs
report_next s m n pairs end front = record {
  rising = front.rising;
  told = front.told;
  ahead = λ p i. onward p.first p.second (front.ahead p i);
  whole = λ q j low race. front.whole q j (back q j race low) race;
}
  where
    onward : (q : Racer) (j : ℕ) → IsAhead q j (Condition m) n → IsAhead q j (Condition (m + 1)) 0
    onward (System i) j low = tt
    onward (Condition c) j (inl low) = inl (omega arith)
    onward (Condition c) j (inr low) = inl (omega (arith, low.0))

    back : (q : Racer) (j : ℕ) → IsRace s q j → IsAhead q j (Condition (m + 1)) 0 → IsAhead q j (Condition m) n
    back (System i) j race low = tt
    back (Condition c) j race (inl low) = let inside : j < length s.systems = race.system_known in elim (cases_lt c m) [
      | inl less ↦ inl less
      | inr more ↦ inr (omega arith, omega arith)
    ]
    back (Condition c) j race (inr low) = let none : j < 0 = low.1 in absurd (omega arith)

-- none is ahead of all
pub report_none : (s : Schedule) (pairs : List Pair) → pairs ≡ [] → IsReportTo s (System 0) 0 pairs
report_none s pairs none = subst (IsReportTo s (System 0) 0) (sym none) (record {
  rising = tt;
  told = λ p i. absurd i;
  ahead = λ p i. absurd i;
  whole = λ q j low race. absurd (never q j low);
})
  where
    never : (q : Racer) (j : ℕ) → IsAhead q j (System 0) 0 → ⊥
    never (System i) j (inl low) = let l : i < 0 = low in omega arith
    never (System i) j (inr low) = let l : j < 0 = low.1 in omega arith
    never (Condition c) j low = low

-- two that don't race add nothing
pub report_same : (s : Schedule) (r : Racer) (n : ℕ) (pairs : List Pair) → (IsRace s r n → ⊥) → IsReportTo s r n pairs → IsReportTo s r (n + 1) pairs
report_same s r n pairs apart front = record {
  rising = front.rising;
  told = front.told;
  ahead = λ p i. ahead_more p.first p.second r n (front.ahead p i);
  whole = λ q j low race. elim (ahead_next q j r n low) [
    | inl less ↦ front.whole q j less race
    | inr here ↦ absurd (apart (subst (λ (k : ℕ). IsRace s r k) here.1 (subst (λ (x : Racer). IsRace s x j) here.0 race)))
  ];
}

-- the pairs with all systems
pub report_end : (s : Schedule) (r : Racer) (n end : ℕ) (pairs : List Pair) → n ≤ end → end ≤ n → end ≡ length s.systems → IsReportTo s r n pairs → IsReportTo s r (length s.systems) pairs
report_end s r n end pairs within past count front = let at : n ≡ length s.systems = omega arith in subst (λ (k : ℕ). IsReportTo s r k pairs) at front

-- all pairs of a system are ahead of those of the next
pub report_next_system : (s : Schedule) (m n : ℕ) (pairs : List Pair) → n ≡ length s.systems → IsReportTo s (System m) n pairs → IsReportTo s (System (m + 1)) 0 pairs
report_next_system s m n pairs end front = record {
  rising = front.rising;
  told = front.told;
  ahead = λ p i. onward p.first p.second (front.ahead p i);
  whole = λ q j low race. front.whole q j (back q j race low) race;
}
  where
    onward : (q : Racer) (j : ℕ) → IsAhead q j (System m) n → IsAhead q j (System (m + 1)) 0
    onward (System i) j (inl low) = inl (omega arith)
    onward (System i) j (inr low) = inl (omega (arith, low.0))
    onward (Condition c) j low = low

    back : (q : Racer) (j : ℕ) → IsRace s q j → IsAhead q j (System (m + 1)) 0 → IsAhead q j (System m) n
    back (System i) j race (inl low) = let inside : j < length s.systems = race.1.second_known in elim (cases_lt i m) [
      | inl less ↦ inl less
      | inr more ↦ inr (omega arith, omega arith)
    ]
    back (System i) j race (inr low) = let none : j < 0 = low.1 in absurd (omega arith)
    back (Condition c) j race low = absurd low

-- all pairs of systems are ahead of those with conditions
pub report_conditions : (s : Schedule) (m end : ℕ) (pairs : List Pair) → end ≤ m → end ≡ length s.systems → IsReportTo s (System m) 0 pairs → IsReportTo s (Condition 0) 0 pairs
report_conditions s m end pairs past count front = record {
  rising = front.rising;
  told = front.told;
  ahead = λ p i. onward p.first p.second (front.ahead p i);
  whole = λ q j low race. front.whole q j (back q j race low) race;
}
  where
    onward : (q : Racer) (j : ℕ) → IsAhead q j (System m) 0 → IsAhead q j (Condition 0) 0
    onward (System i) j low = tt
    onward (Condition c) j low = absurd low

    back : (q : Racer) (j : ℕ) → IsRace s q j → IsAhead q j (Condition 0) 0 → IsAhead q j (System m) 0
    back (System i) j race low = let inside : i < length s.systems = race.1.first_known in inl (omega arith)
    back (Condition c) j race (inl low) = let none : c < 0 = low in absurd (omega arith)
    back (Condition c) j race (inr low) = let none : j < 0 = low.1 in absurd (omega arith)

-- the whole report
pub report_all : (s : Schedule) (m end : ℕ) (pairs : List Pair) → end ≤ m → end ≡ length s.conditions → IsReportTo s (Condition m) 0 pairs → IsReport s pairs
report_all s m end pairs past count front = record {
  rising = front.rising;
  told = front.told;
  whole = λ q j race. front.whole q j (all q j race) race;
}
  where
    all : (q : Racer) (j : ℕ) → IsRace s q j → IsAhead q j (Condition m) 0
    all (System i) j race = tt
    all (Condition c) j race = let inside : c < length s.conditions = race.condition_known in inl (omega arith)
