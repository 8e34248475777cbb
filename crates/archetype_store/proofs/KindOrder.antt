-- Kinds in order, and tables that are made.
use Rattle.archetype_store.proofs.Common.{◌≡◌, ◌≢◌, ℕ, zero, suc, ◌+◌, ◌<◌, ◌≤◌, Bool, true, false, cond, ◌==◌, ◌||◌, List, [], ◌∷◌, ◌++◌, map, filter, refl, sym, ap, ap₂, subst, ◌∙◌, arith, Result, Ok, Err, OnOk, OnErr, eq-eqb, nat_tests, AllByRecursion, length-map, Owned, Kind, kind_count, kind_number, has, StampedValue, stamped_number, in_order, AreBelow, TableValue, empty_table, AreShaped, AreUnlike, IsGrown, eqb-true}
use Rattle.kinds.specs.Kind.{numbers_from}
use Rattle.kinds.proofs.Numbers.{number_below}
use Rattle.archetype_store.proofs.TablesAfterRowChange.{grown_more}
use Rattle.archetype_store.proofs.ArchetypeColumns.{not_head as not_equal_from}

-- ---- kinds in order

each_below : (ks : List Kind) → AllByRecursion (λ n. n < kind_count) (map kind_number ks)
each_below [] = tt
each_below (k ∷ ks) = (number_below k, each_below ks)

not_equal : (n m : ℕ) → n < m → (n == m) ≡ false
not_equal n m l = grind (arith, nat_tests)

pub above_has : (n : ℕ) (ns : List ℕ) → AllByRecursion (λ m. n < m) ns → has n ns ≡ false
above_has n [] h = refl
above_has n (m ∷ ms) h = ap (λ b. b || has n ms) (not_equal_from n m h.0) ∙ above_has n ms h.1

-- among numbers from a greater one on a number is passed over
passed : (n first count : ℕ) (ns : List ℕ) → n < first → filter (λ m. has m (n ∷ ns)) (numbers_from first count) ≡ filter (λ m. has m ns) (numbers_from first count)
passed n first zero ns l = refl
passed n first (suc count) ns l =
    let e : has first (n ∷ ns) ≡ has first ns = ap (λ b. b || has first ns) (not_equal n first l) in
    ap₂ (λ (b : Bool) rest. cond b (first ∷ rest) rest) e (passed n (1 + first) count ns (omega arith))

lower : (n first : ℕ) → first ≤ n → (ns : List ℕ) → AllByRecursion (λ k. n < k) ns → AllByRecursion (λ k. 1 + first ≤ k) ns
lower n first l [] h = tt
lower n first l (k ∷ ks) h = ((let e : n < k = h.0 in let f : 1 + first ≤ k = omega arith in f), lower n first l ks h.1)

pub above_each : (n first : ℕ) → first ≤ n → (ns : List ℕ) → AllByRecursion (λ k. n < k) ns → AllByRecursion (λ k. first < k) ns
above_each n first l [] h = tt
above_each n first l (k ∷ ks) h = ((let e : n < k = h.0 in let f : first < k = omega arith in f), above_each n first l ks h.1)

upper : (first count : ℕ) (ns : List ℕ) → AllByRecursion (λ n. n < first + suc count) ns → AllByRecursion (λ n. n < (1 + first) + count) ns
upper first count [] h = tt
upper first count (k ∷ ks) h = ((let e : k < first + suc count = h.0 in let f : k < (1 + first) + count = omega arith in f), upper first count ks h.1)

above_first : (first n : ℕ) → first ≤ n → (first == n) ≡ false → 1 + first ≤ n
above_first first n l h = grind (arith, nat_tests)

-- rising numbers of a range are what is among them of the range
in_order_from : (first count : ℕ) (ns : List ℕ) → AreBelow ns → AllByRecursion (λ n. first ≤ n) ns → AllByRecursion (λ n. n < first + count) ns → filter (λ m. has m ns) (numbers_from first count) ≡ ns
in_order_from first zero [] b l u = refl
in_order_from first zero (n ∷ ns) b l u = absurd (let e : first ≤ n = l.0 in let f : n < first + 0 = u.0 in omega arith)
in_order_from first (suc count) [] b l u = in_order_from (1 + first) count [] tt tt tt
in_order_from first (suc count) (n ∷ ns) b l u =
    go (first == n) refl (λ low. in_order_from (1 + first) count ns b.1 low (upper first count ns u.1)) (λ low. in_order_from (1 + first) count (n ∷ ns) b low (upper first count (n ∷ ns) u))
  where
    go : (e : Bool) → (first == n) ≡ e →
        (AllByRecursion (λ k. 1 + first ≤ k) ns → filter (λ m. has m ns) (numbers_from (1 + first) count) ≡ ns) →
        (AllByRecursion (λ k. 1 + first ≤ k) (n ∷ ns) → filter (λ m. has m (n ∷ ns)) (numbers_from (1 + first) count) ≡ n ∷ ns) →
        filter (λ m. has m (n ∷ ns)) (numbers_from first (suc count)) ≡ n ∷ ns
    go true h here later =
        let same : first ≡ n = eqb-true first n h in
        let rest = filter (λ m. has m (n ∷ ns)) (numbers_from (1 + first) count) in
        let there : has first (n ∷ ns) ≡ true = ap (λ b. b || has first ns) (ap (λ m. n == m) same ∙ eq-eqb n n refl) in
        let low : first ≤ n = l.0 in
        ap (λ (b : Bool). cond b (first ∷ rest) rest) there
        ∙ ap₂ ◌∷◌ same (passed n (1 + first) count ns (omega arith) ∙ here (lower n first low ns b.0))
    go false h here later =
        let rest = filter (λ m. has m (n ∷ ns)) (numbers_from (1 + first) count) in
        let low : 1 + first ≤ n = above_first first n l.0 h in
        let more : first ≤ n = l.0 in
        let below : first < n = omega arith in
        let not_there : has first (n ∷ ns) ≡ false = above_has first (n ∷ ns) (below, above_each n first more ns b.0) in
        ap (λ (b : Bool). cond b (first ∷ rest) rest) not_there ∙ later (low, lower n first more ns b.0)

each_from_zero : (ns : List ℕ) → AllByRecursion (λ n. 0 ≤ n) ns
each_from_zero [] = tt
each_from_zero (n ∷ ns) = (omega arith, each_from_zero ns)

each_below_count : (ns : List ℕ) → AllByRecursion (λ n. n < kind_count) ns → AllByRecursion (λ n. n < 0 + kind_count) ns
each_below_count [] h = tt
each_below_count (n ∷ ns) h = ((let e : n < kind_count = h.0 in let f : n < 0 + kind_count = omega arith in f), each_below_count ns h.1)

-- kinds that rise are in order
in_order_kinds : (ks : List Kind) → AreBelow (map kind_number ks) → in_order (map kind_number ks) ≡ map kind_number ks
in_order_kinds ks b = in_order_from 0 kind_count (map kind_number ks) b (each_from_zero (map kind_number ks)) (each_below_count (map kind_number ks) (each_below ks))

-- ---- a table that is made

-- the table of kinds that rise
pub made_is : (made : TableValue) (ks : List Kind) (ns : List ℕ) → map kind_number ks ≡ ns → AreBelow ns → made ≡ empty_table (in_order (map kind_number ks)) → made ≡ empty_table ns
made_is made ks ns kinds below is = is ∙ ap empty_table (in_order_kinds ks (subst AreBelow (sym kinds) below) ∙ kinds)

module _ (tables new : List TableValue) (ns : List ℕ) where
  pub grown_by_made : AreBelow ns → ns ≢ [] → AllByRecursion (λ t. t.kinds ≢ ns) tables → new ≡ tables ++ empty_table ns ∷ [] →
      AreShaped tables → AreUnlike tables → IsGrown tables new
  grown_by_made below some others pushed shaped unlike =
      subst (IsGrown tables) (sym pushed) (grown_more tables ns (record { below = below; some = some; each = length-map ns (λ _. Owned) }) others shaped unlike)

  -- the same where it may be refused
  pub grown_if : AreBelow ns → ns ≢ [] → AllByRecursion (λ t. t.kinds ≢ ns) tables → AreShaped tables → AreUnlike tables → {A E : Type 0} → (r : Result A E) →
      OnOk r (new ≡ tables ++ empty_table ns ∷ []) → OnErr r (new ≡ tables) → IsGrown tables new
  grown_if below some others shaped unlike (Ok x) made same = grown_by_made below some others made shaped unlike
  grown_if below some others shaped unlike (Err x) made same = subst (IsGrown tables) (sym same)
      (record { held = λ t x. refl; entities = λ t. refl; rooms = λ t. refl; kinds = λ t l. refl; longer = omega arith; shaped = shaped; unlike = unlike; owned = λ h. h; layout = refl })

-- components have kinds
pub some_numbers : (ss : List StampedValue) → ss ≢ [] → map stamped_number ss ≢ []
some_numbers [] h = λ e. h refl
some_numbers (s ∷ ss) h = λ e. cc
