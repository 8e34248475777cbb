-- The numbers of rows in rising ids, where one is put in or taken out.
use Rattle.column_store.proofs.Common.{◌≡◌, ℕ, zero, suc, ◌+◌, ◌-◌, ◌<◌, ◌≤◌, Bool, true, false, ◌==◌, ◌||◌, ◌&&◌, nat_lt, ◌⊎◌, inl, inr, List, [], ◌∷◌, ◌++◌, length, get_or, set, map, option_map, Some, refl, sym, ap, ap₂, subst, ◌∙◌, add-zero, zero-add, add-one, arith, cases_eq, eq-eqb, eqb-true, or_left, or_right, nat_tests, length-map, length-set, length_push, same_lists, get_or_default, get_or_append_left, get_or-set_same, get_or-set_other, insert, remove, AllByRecursion, IsPartitionedBy, IsPartitionPoint, has, Entity, each-at, each-weaker, is_before, is_same, AreRising, IsNowhere, IsGap, entity_at, numbers_from, IsOrderOf, swap_removed, get-there}
use Rattle.std.proofs.lemmas.List.{get_or_push}
use Rattle.model.proofs.agreement.Agreement.{get_or-map}
use Rattle.column_store.proofs.Lists.{get-map, map-insert, map-remove, each-insert}
use Rattle.column_store.proofs.Ordered.{not_before_itself, rising-apart}
use Rattle.column_store.proofs.Rising.{parted_before, rising-insert, rising-remove}
use Rattle.column_store.proofs.Swapped.{length-swap_removed, get_or-swap_here, get_or-swap_other}

-- ---- elements

lt_true : (a b : ℕ) → a < b → nat_lt a b ≡ true
lt_true a b h = grind (arith, nat_tests)

-- ---- a gap by halving

-- whether a row is there and its entity comes before another
abbrev pub row_before : List Entity → Entity → ℕ → Bool
row_before es e row = nat_lt row (length es) && is_before (entity_at es row) e

before_there : (es : List Entity) (e : Entity) (row : ℕ) → row < length es → row_before es e row ≡ is_before (entity_at es row) e
before_there es e row l = ap (λ b. b && is_before (entity_at es row) e) (lt_true row (length es) l)

pub parted_rows : (es : List Entity) (e : Entity) (rows : List ℕ) → IsOrderOf es rows → IsPartitionedBy (row_before es e) rows
parted_rows es e rows h i j d le lt at =
    let f : ℕ → Entity = entity_at es in
    let there_j : get_or rows j d < length es = each-at (λ r. r < length es) rows j d lt h.within in
    let there_i : get_or rows i d < length es = each-at (λ r. r < length es) rows i d (omega arith) h.within in
    let long = length-map rows f in
    before_there es e (get_or rows i d) there_i
    ∙ ap (λ x. is_before x e) (sym (get_or-map f rows i d))
    ∙ parted_before e (map f rows) h.rising i j (f d) le (omega arith)
    (ap (λ x. is_before x e) (get_or-map f rows j d) ∙ sym (before_there es e (get_or rows j d) there_j) ∙ at)

pub gap_from_rows : (es : List Entity) (e : Entity) (rows : List ℕ) (i : ℕ) → AllByRecursion (λ row. row < length es) rows → i ≤ length rows →
    IsPartitionPoint (λ row. row_before es e row ≡ true) (λ row. row_before es e row ≡ false) rows i → IsGap e (map (entity_at es) rows) i
gap_from_rows es e [] zero w le h = tt
gap_from_rows es e [] (suc i) w le h = absurd (omega arith)
gap_from_rows es e (r ∷ rows) zero w le h = sym (before_there es e r w.0) ∙ h.1 0 r (omega arith) (omega arith)
gap_from_rows es e (r ∷ rows) (suc i) w le h = (
  sym (before_there es e r w.0) ∙ h.0 0 r (omega arith) (omega arith),
  gap_from_rows es e rows i w.1 (omega arith) (λ k d low high. h.0 (suc k) d (omega arith) (omega arith), λ k d low high. h.1 (suc k) d (omega arith) (omega arith)),
)

-- where a row comes before an entity those before it do, and where one doesn't those behind it don't
pub rows_below : (es : List Entity) (e : Entity) (rows : List ℕ) (middle : ℕ) → IsOrderOf es rows → middle < length rows → row_before es e (get_or rows middle 0) ≡ true →
    (k d : ℕ) → k < middle + 1 → row_before es e (get_or rows k d) ≡ true
rows_below es e rows middle h l at k d low =
    parted_rows es e rows h k middle d (omega arith) l (ap (row_before es e) (get_or_default rows middle d 0 l) ∙ at)

pub rows_above : (es : List Entity) (e : Entity) (rows : List ℕ) (middle : ℕ) → IsOrderOf es rows → row_before es e (get_or rows middle 0) ≡ false →
    (k d : ℕ) → middle ≤ k → k < length rows → row_before es e (get_or rows k d) ≡ false
rows_above es e rows middle h at k d high l = go (row_before es e (get_or rows k d)) refl
  where
    go : (b : Bool) → row_before es e (get_or rows k d) ≡ b → b ≡ false
    go false is = refl
    go true is =
        let before : row_before es e (get_or rows middle 0) ≡ true = parted_rows es e rows h middle k 0 high l (ap (row_before es e) (get_or_default rows k 0 d l) ∙ is) in
        sym before ∙ at

-- ---- the place of a row

pub each-has : (P : Entity → Type 0) (f : ℕ → Entity) (rows : List ℕ) (row : ℕ) → AllByRecursion P (map f rows) → has row rows ≡ true → P (f row)
each-has P f [] row h k = absurd (cc)
each-has P f (r ∷ rows) row h k = go (r == row) refl k (each-has P f rows row h.1)
  where
    go : (b : Bool) → (r == row) ≡ b → (b || has row rows) ≡ true → (has row rows ≡ true → P (f row)) → P (f row)
    go true e q more = subst (λ n. P (f n)) (eqb-true r row e) h.0
    go false e q more = more q

-- the gap of the entity of a row is the place of the row's number
pub placed : (es : List Entity) (rows : List ℕ) (i row d : ℕ) → AreRising (map (entity_at es) rows) → has row rows ≡ true → IsGap (entity_at es row) (map (entity_at es) rows) i →
    (i < length rows) × (get_or rows i d ≡ row)
placed es [] i row d h k g = absurd (cc)
placed es (r ∷ rows) zero row d h k g = go (r == row) refl k
  where
    go : (b : Bool) → (r == row) ≡ b → (b || has row rows) ≡ true → (0 < length (r ∷ rows)) × (r ≡ row)
    go true e q = (omega arith, eqb-true r row e)
    go false e q =
        let before : is_before (entity_at es r) (entity_at es row) ≡ true = each-has (λ y. is_before (entity_at es r) y ≡ true) (entity_at es) rows row h.0 q in
        absurd (cc (before, g))
placed es (r ∷ rows) (suc i) row d h k g = go (r == row) refl k (placed es rows i row d h.1)
  where
    go : (b : Bool) → (r == row) ≡ b → (b || has row rows) ≡ true → (has row rows ≡ true → IsGap (entity_at es row) (map (entity_at es) rows) i → (i < length rows) × (get_or rows i d ≡ row)) →
        (suc i < length (r ∷ rows)) × (get_or rows i d ≡ row)
    go true e q more =
        let same : r ≡ row = eqb-true r row e in
        absurd (not_before_itself (entity_at es row).index (entity_at es row).generation (subst (λ n. is_before (entity_at es n) (entity_at es row) ≡ true) same g.0))
    go false e q more = let p = more q g.1 in (omega (arith, p.0), p.1)

-- ---- a number more

has_inserted : (xs : List ℕ) (i y : ℕ) → has y (insert xs i y) ≡ true
has_inserted [] zero y = or_left (y == y) false (eq-eqb y y refl)
has_inserted [] (suc i) y = or_left (y == y) false (eq-eqb y y refl)
has_inserted (x ∷ xs) zero y = or_left (y == y) (has y (x ∷ xs)) (eq-eqb y y refl)
has_inserted (x ∷ xs) (suc i) y = or_right (x == y) (has y (insert xs i y)) (has_inserted xs i y)

has_insert : (xs : List ℕ) (i y k : ℕ) → has k xs ≡ true → has k (insert xs i y) ≡ true
has_insert [] i y k h = absurd (cc)
has_insert (x ∷ xs) zero y k h = or_right (y == k) (has k (x ∷ xs)) h
has_insert (x ∷ xs) (suc i) y k h = go (x == k) h (has_insert xs i y k)
  where
    go : (b : Bool) → (b || has k xs) ≡ true → (has k xs ≡ true → has k (insert xs i y) ≡ true) → (b || has k (insert xs i y)) ≡ true
    go true q more = refl
    go false q more = more q

map_within : (P : ℕ → Type 0) (f g : ℕ → Entity) (rows : List ℕ) → ((r : ℕ) → P r → f r ≡ g r) → AllByRecursion P rows → map f rows ≡ map g rows
map_within P f g [] h w = refl
map_within P f g (r ∷ rows) h w = ap₂ ◌∷◌ (h r w.0) (map_within P f g rows h w.1)

nowhere_rows : (es : List Entity) (e : Entity) (rows : List ℕ) → IsNowhere (λ x. is_same x e) es → AllByRecursion (λ row. row < length es) rows → IsNowhere (λ x. is_same x e) (map (entity_at es) rows)
nowhere_rows es e [] h w = tt
nowhere_rows es e (r ∷ rows) h w = (each-at (λ x. is_same x e ≡ false) es r (record { index = 0; generation = 0 }) w.0 h, nowhere_rows es e rows h w.1)

-- the number of a further row is put in before the rows whose entities don't come before its
pub ordered-push : (es : List Entity) (e : Entity) (rows : List ℕ) (gap : ℕ) → IsOrderOf es rows → IsNowhere (λ x. is_same x e) es → IsGap e (map (entity_at es) rows) gap →
    IsOrderOf (es ++ e ∷ []) (insert rows gap (length es))
ordered-push es e rows gap h absent g = record {
  within = each-insert (λ row. row < length more) rows gap (length es) (omega (arith, long)) (each-weaker (λ row. row < length es) (λ row. row < length more) (λ row l. omega (arith, long)) rows h.within);
  every = λ row l. every row l (cases_eq row (length es));
  rising = subst AreRising (sym there) (rising-insert e (map (entity_at es) rows) gap h.rising g (nowhere_rows es e rows absent h.within));
}
  where
    more : List Entity
    more = es ++ e ∷ []

    long : length (es ++ e ∷ []) ≡ length es + 1
    long = length_push es e

    every : (row : ℕ) → row < length (es ++ e ∷ []) → (row ≡ length es) ⊎ (row ≡ length es → ⊥) → has row (insert rows gap (length es)) ≡ true
    every row l (inl same) = subst (λ n. has n (insert rows gap (length es)) ≡ true) (sym same) (has_inserted rows gap (length es))
    every row l (inr other) = has_insert rows gap (length es) row (h.every row (omega (arith, long)))

    there : map (entity_at (es ++ e ∷ [])) (insert rows gap (length es)) ≡ insert (map (entity_at es) rows) gap e
    there = map-insert (entity_at (es ++ e ∷ [])) rows gap (length es)
        ∙ ap₂ (λ xs x. insert xs gap x)
        (map_within (λ row. row < length es) (entity_at (es ++ e ∷ [])) (entity_at es) rows (λ r l. get_or_append_left es (e ∷ []) (record { index = 0; generation = 0 }) r l) h.within)
        (get_or_push es e (record { index = 0; generation = 0 }) (length es) refl)

-- ---- a number less

has_found : (xs : List ℕ) (k d : ℕ) → has k xs ≡ true → (j : ℕ) × (j < length xs) × (get_or xs j d ≡ k)
has_found [] k d h = absurd (cc)
has_found (x ∷ xs) k d h = go (x == k) refl h (has_found xs k d)
  where
    go : (b : Bool) → (x == k) ≡ b → (b || has k xs) ≡ true → (has k xs ≡ true → (j : ℕ) × (j < length xs) × (get_or xs j d ≡ k)) → (j : ℕ) × (j < length (x ∷ xs)) × (get_or (x ∷ xs) j d ≡ k)
    go true e q more = (0, omega arith, eqb-true x k e)
    go false e q more = let p = more q in (suc p.0, omega (arith, p.1), p.2)

has_at : (xs : List ℕ) (j k d : ℕ) → j < length xs → get_or xs j d ≡ k → has k xs ≡ true
has_at [] j k d l e = absurd (omega arith)
has_at (x ∷ xs) zero k d l e = or_left (x == k) (has k xs) (eq-eqb x k e)
has_at (x ∷ xs) (suc j) k d l e = or_right (x == k) (has k xs) (has_at xs j k d (omega arith) e)

has_removed : (xs : List ℕ) (i j k d : ℕ) → j < length xs → (j ≡ i → ⊥) → get_or xs j d ≡ k → has k (remove xs i) ≡ true
has_removed [] i j k d l other e = absurd (omega arith)
has_removed (x ∷ xs) zero zero k d l other e = absurd (other refl)
has_removed (x ∷ xs) zero (suc j) k d l other e = has_at xs j k d (omega arith) e
has_removed (x ∷ xs) (suc i) zero k d l other e = or_left (x == k) (has k (remove xs i)) (eq-eqb x k e)
has_removed (x ∷ xs) (suc i) (suc j) k d l other e = or_right (x == k) (has k (remove xs i)) (has_removed xs i j k d (omega arith) (λ same. other (ap suc same)) e)

each_from : {A : Type 0} (P : A → Type 0) (xs : List A) (d : A) → ((j : ℕ) → j < length xs → P (get_or xs j d)) → AllByRecursion P xs
each_from P [] d h = tt
each_from P (x ∷ xs) d h = (h 0 (omega arith), each_from P xs d (λ j l. h (suc j) (omega arith)))

each_removed : {A : Type 0} (P : A → Type 0) (xs : List A) (i : ℕ) (d : A) → ((j : ℕ) → j < length xs → (j ≡ i → ⊥) → P (get_or xs j d)) → AllByRecursion P (remove xs i)
each_removed P [] zero d h = tt
each_removed P [] (suc i) d h = tt
each_removed P (x ∷ xs) zero d h = each_from P xs d (λ j l. h (suc j) (omega arith) (λ e. absurd (omega arith)))
each_removed P (x ∷ xs) (suc i) d h = (h 0 (omega arith) (λ e. absurd (omega arith)), each_removed P xs i d (λ j l other. h (suc j) (omega arith) (λ e. other (omega arith))))

remove_same : {A : Type 0} (xs ys : List A) (i : ℕ) → length xs ≡ length ys → ((j : ℕ) (d : A) → j < length xs → (j ≡ i → ⊥) → get_or xs j d ≡ get_or ys j d) → remove xs i ≡ remove ys i
remove_same [] [] i l h = refl
remove_same [] (y ∷ ys) i l h = absurd (omega arith)
remove_same (x ∷ xs) [] i l h = absurd (omega arith)
remove_same (x ∷ xs) (y ∷ ys) zero l h = same_lists xs ys (omega arith) (λ k d m. h (suc k) d (omega arith) (λ e. absurd (omega arith)))
remove_same (x ∷ xs) (y ∷ ys) (suc i) l h = ap₂ ◌∷◌ (h 0 x (omega arith) (λ e. absurd (omega arith))) (remove_same xs ys i (omega arith) (λ j d m other. h (suc j) d (omega arith) (λ e. other (omega arith))))

-- no row number is there twice
rows_apart : (es : List Entity) (rows : List ℕ) (i j d : ℕ) → IsOrderOf es rows → i < length rows → j < length rows → get_or rows i d ≡ get_or rows j d → i ≡ j
rows_apart es rows i j d h li lj same =
    let f : ℕ → Entity = entity_at es in
    rising-apart (map f rows) h.rising i j (f (get_or rows i d))
    (get-map f rows i ∙ ap (option_map f) (get-there rows i d li))
    (get-map f rows j ∙ ap (option_map f) (get-there rows j d lj) ∙ ap (λ r. Some (f r)) (sym same))

module _ (es : List Entity) (rows : List ℕ) (row place moved : ℕ) (h : IsOrderOf es rows) (within : row < length es)
    (at : (place < length rows) × (get_or rows place 0 ≡ row)) (last : (moved < length rows) × (get_or rows moved 0 ≡ length es - 1)) where
  -- a number that stays: it is within, and of the same entity
  stays : (j : ℕ) → j < length rows → (j ≡ place → ⊥) → (j ≡ moved) ⊎ (j ≡ moved → ⊥) →
      (get_or (set rows moved row) j 0 + 1 < length es) × (entity_at (swap_removed es row) (get_or (set rows moved row) j 0) ≡ entity_at es (get_or rows j 0))
  stays j l other (inl same) =
      let mine : get_or (set rows moved row) j 0 ≡ row = ap (λ k. get_or (set rows moved row) k 0) same ∙ get_or-set_same rows moved row 0 last.0 in
      let apart : row ≡ length es - 1 → ⊥ = λ e. other (same ∙ rows_apart es rows moved place 0 h last.0 at.0 (last.1 ∙ sym e ∙ sym at.1)) in
      let less : row + 1 < length es = below row (length es) within apart in
      let d : Entity = record { index = 0; generation = 0 } in (
        subst (λ r. r + 1 < length es) (sym mine) less,
        ap (entity_at (swap_removed es row)) mine ∙ get_or-swap_here es row d less ∙ ap (entity_at es) (sym last.1 ∙ ap (λ k. get_or rows k 0) (sym same)),
      )
    where
      below : (r n : ℕ) → r < n → (r ≡ n - 1 → ⊥) → r + 1 < n
      below r n l other = grind arith
  stays j l other (inr else) =
      let r = get_or rows j 0 in
      let mine : get_or (set rows moved row) j 0 ≡ r = get_or-set_other rows moved j row 0 else in
      let there : r < length es = each-at (λ k. k < length es) rows j 0 l h.within in
      let apart : r ≡ length es - 1 → ⊥ = λ e. else (rows_apart es rows j moved 0 h l last.0 (e ∙ sym last.1)) in
      let not_row : r ≡ row → ⊥ = λ e. other (rows_apart es rows j place 0 h l at.0 (e ∙ sym at.1)) in
      let less : r + 1 < length es = below r (length es) there apart in (
        subst (λ k. k + 1 < length es) (sym mine) less,
        ap (entity_at (swap_removed es row)) mine ∙ get_or-swap_other es row r (record { index = 0; generation = 0 }) less not_row,
      )
    where
      below : (r n : ℕ) → r < n → (r ≡ n - 1 → ⊥) → r + 1 < n
      below r n l other = grind arith

  every_stays : (k : ℕ) → k < length (swap_removed es row) → (k ≡ row) ⊎ (k ≡ row → ⊥) → has k (remove (set rows moved row) place) ≡ true
  every_stays k l (inl same) =
      let shorter = length-swap_removed es row within in
      let other : moved ≡ place → ⊥ = λ e. absurd (omega (arith, ap (λ j. get_or rows j 0) e, last.1, at.1)) in
      has_removed (set rows moved row) place moved k 0 (omega (arith, length-set rows moved row, last.0)) other (get_or-set_same rows moved row 0 last.0 ∙ sym same)
  every_stays k l (inr different) =
      let shorter = length-swap_removed es row within in
      let p = has_found rows k 0 (h.every k (omega arith)) in
      let not_moved : p.0 ≡ moved → ⊥ = λ e. absurd (omega (arith, ap (λ j. get_or rows j 0) e, last.1, p.2)) in
      let not_place : p.0 ≡ place → ⊥ = λ e. different (sym p.2 ∙ ap (λ j. get_or rows j 0) e ∙ at.1) in
      has_removed (set rows moved row) place p.0 k 0 (omega (arith, length-set rows moved row, p.1)) not_place (get_or-set_other rows moved p.0 row 0 not_moved ∙ p.2)

  -- the number of a row is taken out, and the last row has its number
  pub ordered-take : IsOrderOf (swap_removed es row) (remove (set rows moved row) place)
  ordered-take =
      let shorter = length-swap_removed es row within in
      let long = length-set rows moved row in
      let f : ℕ → Entity = entity_at es in
      let g : ℕ → Entity = entity_at (swap_removed es row) in
      record {
        within = each_removed (λ r. r < length (swap_removed es row)) (set rows moved row) place 0
            (λ j l other. let s = stays j (omega arith) other (cases_eq j moved) in omega (arith, s.0));
        every = λ k l. every_stays k l (cases_eq k row);
        rising = subst AreRising
            (sym (map-remove g (set rows moved row) place
            ∙ remove_same (map g (set rows moved row)) (map f rows) place (length-map (set rows moved row) g ∙ long ∙ sym (length-map rows f))
            (λ j d l other. same_at j d (omega (arith, length-map (set rows moved row) g)) other)))
            (rising-remove (map f rows) place h.rising);
      }
    where
      same_at : (j : ℕ) (d : Entity) → j < length rows → (j ≡ place → ⊥) → get_or (map (entity_at (swap_removed es row)) (set rows moved row)) j d ≡ get_or (map (entity_at es) rows) j d
      same_at j d l other =
          let g : ℕ → Entity = entity_at (swap_removed es row) in
          let f : ℕ → Entity = entity_at es in
          let s = stays j l other (cases_eq j moved) in
          get_or_default (map g (set rows moved row)) j d (g 0) (omega (arith, length-map (set rows moved row) g, length-set rows moved row))
          ∙ get_or-map g (set rows moved row) j 0 ∙ s.1 ∙ sym (get_or-map f rows j 0)
          ∙ sym (get_or_default (map f rows) j d (f 0) (omega (arith, length-map rows f)))

-- ---- row numbers in turn

numbers_after : (first count : ℕ) → numbers_from first (suc count) ≡ numbers_from first count ++ (first + count) ∷ []
numbers_after first zero = ap (λ n. n ∷ []) (sym (add-zero first))
numbers_after first (suc count) = ap (λ ns. first ∷ ns) (numbers_after (suc first) count ∙ ap (λ n. numbers_from (suc first) count ++ n ∷ []) (omega arith))

pub numbers-more : (count : ℕ) → numbers_from 0 (count + 1) ≡ numbers_from 0 count ++ count ∷ []
numbers-more count = ap (numbers_from 0) (add-one count) ∙ numbers_after 0 count ∙ ap (λ n. numbers_from 0 count ++ n ∷ []) (zero-add count)
