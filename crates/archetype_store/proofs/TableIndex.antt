-- Tables by the words of their kinds, and by the numbers of archetypes.
use Rattle.archetype_store.proofs.Common.{◌≡◌, ◌≢◌, ℕ, zero, suc, ◌+◌, ◌*◌, ◌%◌, ◌^◌, ◌<◌, ◌≤◌, Bool, true, false, cond, ◌==◌, ◌||◌, inl, inr, List, [], ◌∷◌, ◌++◌, length, get_or, set, drop, map, nat_eq, Option, Some, None, Result, OnOk, OnErr, Ok, Err, refl, sym, ap, ap₂, subst, ◌∙◌, arith, append_assoc, add-one, bit_or, slice_get, MatchOption, vec_capacity, AllByRecursion, bit_at, w32, cases_lt, eq-eqb, or_left, get_or_append_left, drop_more, drop_all, append-nil, get_or-append_seam, has, is_there, AreBelow, TableValue, empty_table, TableIndex, archetype_of, layout_of, table_at, kinds_at, shape_of, number_of, AreShaped, AreAllAlike, IsTableOf, has_bit, peopled_from, IsWord, IsFound, IsIndexed, told_table, set_number, kept_seen, noted, AreListed, eqb-true}
use Rattle.std.proofs.lemmas.Bool.Decides.{eqb_tells}
use Rattle.std.proofs.lemmas.List.{length-append}
use Rattle.std.proofs.lemmas.Nat.Bits.{bit_at-lt, bit_at_set_same, bit_at_set_other, same_from_bits}
use Rattle.archetype_store.proofs.FittingTables.{listed_kept, listed_more, alike_numbers, set_numbers}
use Rattle.archetype_store.proofs.TablesAfterRowChange.{shape_at}
use Rattle.archetype_store.proofs.KindOrder.{above_has, above_each}
use Rattle.archetype_store.proofs.ColumnStandings.{alike_same}
use Rattle.archetype_store.proofs.PlacesAfterRowChange.{kinds_kept as shapes_kinds}
use Rattle.archetype_store.proofs.RowMoves.{as_many_tables as shapes_many}
use Rattle.model.proofs.lists.Bools.{false_is}

-- ---- words and kinds

-- one bit set
pub bit_set : (word number k : ℕ) → number < 32 → has_bit (bit_or word (1 * 2 ^ number % 2 ^ 32)) k ≡ ((number == k) || has_bit word k)
bit_set word number k low = elim (eqb_tells number k) [
  | inl same ↦
      let there : has_bit (bit_or word (1 * 2 ^ number % 2 ^ 32)) number ≡ true = eq-eqb _ 1 (bit_at_set_same w32 word number low) in
      subst (λ (m : ℕ). has_bit (bit_or word (1 * 2 ^ number % 2 ^ 32)) m ≡ true) same.1 there ∙ sym (or_left (number == k) (has_bit word k) same.0)
  | inr other ↦
      ap (λ (x : ℕ). x == 1) (bit_at_set_other w32 word number low k (λ e. other.1 (sym e))) ∙ sym (ap (λ b. b || has_bit word k) other.0)
]

-- kinds have one word
bit_is : (x y : ℕ) → x < 2 → y < 2 → (x == 1) ≡ (y == 1) → x ≡ y
bit_is x y lx ly e = elim (eqb_tells x 1) [
  | inl p ↦ let a : x ≡ 1 = p.1 in let b : y ≡ 1 = eqb-true y 1 (sym e ∙ p.0) in omega arith
  | inr p ↦ let a : x ≢ 1 = p.1 in let b : y ≢ 1 = (λ is. a (eqb-true x 1 (e ∙ eq-eqb y 1 is))) in omega arith
]

pub same_word : (word other : ℕ) (kinds : List ℕ) → IsWord word kinds → IsWord other kinds → word ≡ other
same_word word other kinds h k = same_from_bits word other (λ i. bit_is (bit_at word i) (bit_at other i) (bit_at-lt word i) (bit_at-lt other i) (h i ∙ sym (k i)))

first_there : (n : ℕ) (ns : List ℕ) → has n (n ∷ ns) ≡ true
first_there n ns = ap (λ b. b || has n ns) (eq-eqb n n refl)

lesser_absent : (n m : ℕ) (ms : List ℕ) → n < m → AreBelow (m ∷ ms) → has n (m ∷ ms) ≡ false
lesser_absent n m ms l b = above_has n (m ∷ ms) (l, above_each m n (omega arith) ms b.0)

module _ (n m : ℕ) (ns ms : List ℕ) (b : AreBelow (n ∷ ns)) (c : AreBelow (m ∷ ms)) (h : (k : ℕ) → has k (n ∷ ns) ≡ has k (m ∷ ms)) where
  heads : n ≡ m
  heads = elim (cases_lt n m) [
    | inl l ↦ false_is (has n (m ∷ ms)) (lesser_absent n m ms l c) (sym (h n) ∙ first_there n ns)
    | inr ge ↦ elim (cases_lt m n) [
      | inl l ↦ false_is (has m (n ∷ ns)) (lesser_absent m n ns l b) (h m ∙ first_there m ms)
      | inr le ↦ omega arith
    ]
  ]

  tails : (k : ℕ) → has k ns ≡ has k ms
  tails k = go (n == k) refl
    where
      go : (e : Bool) → (n == k) ≡ e → has k ns ≡ has k ms
      go true e =
          let same : n ≡ k = eqb-true n k e in
          subst (λ j. has j ns ≡ false) same (above_has n ns b.0) ∙ sym (subst (λ j. has j ms ≡ false) (sym heads ∙ same) (above_has m ms c.0))
      go false e = sym (ap (λ d. d || has k ns) e) ∙ h k ∙ ap (λ d. d || has k ms) (ap (λ j. j == k) (sym heads) ∙ e)

-- rising kinds are told by which they are
pub same_kinds : (ns ms : List ℕ) → AreBelow ns → AreBelow ms → ((k : ℕ) → has k ns ≡ has k ms) → ns ≡ ms
same_kinds [] [] b c h = refl
same_kinds [] (m ∷ ms) b c h = false_is (has m []) refl (h m ∙ first_there m ms)
same_kinds (n ∷ ns) [] b c h = false_is (has n []) refl (sym (h n) ∙ first_there n ns)
same_kinds (n ∷ ns) (m ∷ ms) b c h = ap₂ ◌∷◌ (heads n m ns ms b c h) (same_kinds ns ms b.1 c.1 (tails n m ns ms b c h))

-- ---- tables by their words

-- what is found has the kinds
pub kinds_found : (T : List TableValue) (index : TableIndex) (word t : ℕ) (ns : List ℕ) → IsFound T index → AreShaped T → AreBelow ns → IsWord word ns → told_table index.by_word word ≡ Some t → kinds_at T t ≡ ns
kinds_found T index word t ns h shaped below is at =
    same_kinds (kinds_at T t) ns (shape_at T t (h.within t word at) shaped).below below (λ k. sym (h.theirs t word at k) ∙ is k)

each_at : (P : TableValue → Type 0) (T : List TableValue) → ((t : ℕ) → t < length T → P (table_at T t)) → AllByRecursion P T
each_at P [] h = tt
each_at P (u ∷ us) h = (h zero (omega arith), each_at P us (λ t l. h (suc t) (omega arith)))

none_some : {A P : Type 0} (o : Option A) (x : A) → o ≡ None → o ≡ Some x → P
none_some o x h k = let e : None ≡ Some x = sym h ∙ k in absurd (cc)

-- where none is found, no table has the kinds
pub none_found : (T : List TableValue) (index : TableIndex) (word : ℕ) (ns : List ℕ) → IsFound T index → IsWord word ns → told_table index.by_word word ≡ None → AllByRecursion (λ t. t.kinds ≢ ns) T
none_found T index word ns h is none =
    each_at (λ t. t.kinds ≢ ns) T (λ t l same. none_some (told_table index.by_word word) t none (h.known t word l (λ k. is k ∙ ap (has k) (sym same))))

-- the kinds of tables tell where they are found
pub found_kept : (T U : List TableValue) (index : TableIndex) → length U ≡ length T → ((t : ℕ) → kinds_at U t ≡ kinds_at T t) → IsFound T index → IsFound U index
found_kept T U index many kinds h = record {
  known = λ t word l is. h.known t word (subst (λ n. t < n) many l) (λ k. is k ∙ ap (has k) (kinds t));
  within = λ t word at. subst (λ n. t < n) (sym many) (h.within t word at);
  theirs = λ t word at k. h.theirs t word at k ∙ ap (has k) (sym (kinds t));
  room = subst (λ n. n ≤ vec_capacity index.peopled) (sym many) h.room;
  room_numbers = subst (λ n. n ≤ vec_capacity index.numbers) (sym many) h.room_numbers;
  listed = listed_kept T U (map kept_seen index.shapes.items) many kinds h.listed;
}

-- a table more
module _ (T : List TableValue) (index new : TableIndex) (word : ℕ) (made : TableValue) (h : IsFound T index) (none : told_table index.by_word word ≡ None) (is : IsWord word made.kinds)
    (put : (q : ℕ) → told_table new.by_word q ≡ cond (nat_eq word q) (Some (length T)) (told_table index.by_word q)) (room : suc (length T) ≤ vec_capacity new.peopled)
    (room_numbers : suc (length T) ≤ vec_capacity new.numbers) (listed : map kept_seen new.shapes.items ≡ map (noted (set_number made.kinds) (length T)) (map kept_seen index.shapes.items)) where
  more : List TableValue
  more = T ++ made ∷ []

  many : length more ≡ suc (length T)
  unfolding more
  many = length-append T (made ∷ []) ∙ omega arith

  before : (t : ℕ) → t < length T → kinds_at more t ≡ kinds_at T t
  unfolding more
  before t l = ap (λ (u : TableValue). u.kinds) (get_or_append_left T (made ∷ []) (empty_table []) t l)

  behind : kinds_at more (length T) ≡ made.kinds
  unfolding more
  behind = ap (λ (u : TableValue). u.kinds) (get_or-append_seam T made [] (empty_table []))

  old_word : (t q : ℕ) → told_table index.by_word q ≡ Some t → told_table new.by_word q ≡ Some t
  old_word t q at = put q ∙ go (nat_eq word q) refl
    where
      go : (b : Bool) → nat_eq word q ≡ b → cond b (Some (length T)) (told_table index.by_word q) ≡ Some t
      go true e = none_some (told_table index.by_word word) t none (ap (told_table index.by_word) (eqb-true word q e) ∙ at)
      go false e = at

  new_word : (q : ℕ) → word ≡ q → told_table new.by_word q ≡ Some (length T)
  new_word q e = put q ∙ ap (λ b. cond b (Some (length T)) (told_table index.by_word q)) (eq-eqb word q e)

  known : (t q : ℕ) → t < length more → IsWord q (kinds_at more t) → told_table new.by_word q ≡ Some t
  known t q l at = elim (cases_lt t (length T)) [
    | inl low ↦ old_word t q (h.known t q low (λ k. at k ∙ ap (has k) (before t low)))
    | inr high ↦
        let last : t ≡ length T = (let m = many in omega arith) in
        new_word q (same_word word q made.kinds is (λ k. at k ∙ ap (has k) (ap (kinds_at more) last ∙ behind))) ∙ ap (λ n. Some n) (sym last)
  ]

  told : (t q : ℕ) → told_table new.by_word q ≡ Some t → (t < length more) × IsWord q (kinds_at more t)
  told t q at = go (nat_eq word q) refl
    where
      go : (b : Bool) → nat_eq word q ≡ b → (t < length more) × IsWord q (kinds_at more t)
      go true e =
          let some : Some (length T) ≡ Some t = sym (new_word q (eqb-true word q e)) ∙ at in
          let last : length T ≡ t = cc in
          ((let m = many in omega arith), λ k. ap (λ w. has_bit w k) (sym (eqb-true word q e)) ∙ is k ∙ ap (has k) (sym (ap (kinds_at more) (sym last) ∙ behind)))
      go false e =
          let some : told_table index.by_word q ≡ Some t = sym (ap (λ b. cond b (Some (length T)) (told_table index.by_word q)) e) ∙ (sym (put q) ∙ at) in
          let low = h.within t q some in
          ((let m = many in omega arith), λ k. h.theirs t q some k ∙ ap (has k) (sym (before t low)))

  pub found_added : IsFound (T ++ made ∷ []) new
  unfolding more
  found_added = record {
    known = known;
    within = λ t q at. (told t q at).0;
    theirs = λ t q at. (told t q at).1;
    room = subst (λ n. n ≤ vec_capacity new.peopled) (sym many) room;
    room_numbers = subst (λ n. n ≤ vec_capacity new.numbers) (sym many) room_numbers;
    listed = subst (AreListed (T ++ made ∷ [])) (sym listed) (listed_more T made (set_number made.kinds) (length T) (map kept_seen index.shapes.items) refl refl h.listed);
  }

-- room, words and shapes alone are asked
pub found_other : (T : List TableValue) (index new : TableIndex) → ((word : ℕ) → told_table new.by_word word ≡ told_table index.by_word word) → length T ≤ vec_capacity new.peopled → length T ≤ vec_capacity new.numbers → map kept_seen new.shapes.items ≡ map kept_seen index.shapes.items →
    IsFound T index → IsFound T new
found_other T index new same room room_numbers listed h = record {
  known = λ t word l is. same word ∙ h.known t word l is;
  within = λ t word at. h.within t word (sym (same word) ∙ at);
  theirs = λ t word at. h.theirs t word (sym (same word) ∙ at);
  room = room;
  room_numbers = room_numbers;
  listed = subst (AreListed T) (sym listed) h.listed;
}

pub found_shapes : (T U : List TableValue) (index : TableIndex) → map shape_of U ≡ map shape_of T → IsFound T index → IsFound U index
found_shapes T U index h = found_kept T U index (shapes_many T U h) (shapes_kinds T U h)

-- ---- tables that differ in where their columns stand

alike_many : (T U : List TableValue) → AreAllAlike T U → length U ≡ length T
alike_many [] [] h = refl
alike_many [] (u ∷ us) h = absurd h
alike_many (t ∷ ts) [] h = absurd h
alike_many (t ∷ ts) (u ∷ us) h = ap suc (alike_many ts us h.1)

alike_peopled : (n : ℕ) (T U : List TableValue) → AreAllAlike T U → peopled_from n U ≡ peopled_from n T
alike_peopled n [] [] h = refl
alike_peopled n [] (u ∷ us) h = absurd h
alike_peopled n (t ∷ ts) [] h = absurd h
alike_peopled n (t ∷ ts) (u ∷ us) h = ap₂ (λ (b : Bool) rest. cond b (n ∷ rest) rest) (ap is_there h.0.rows) (alike_peopled (suc n) ts us h.1)

pub alike_found : (T U : List TableValue) (index : TableIndex) → AreAllAlike T U → IsFound T index → IsFound U index
alike_found T U index h = found_kept T U index (alike_many T U h) (alike_same T U h).kinds

pub alike_indexed : (T U : List TableValue) (index : TableIndex) → AreAllAlike T U → IsIndexed T index → IsIndexed U index
alike_indexed T U index h i = record { found = alike_found T U index h i.found; peopled = i.peopled ∙ sym (alike_peopled 0 T U h); numbers = i.numbers ∙ sym (alike_numbers 0 T U h) }

set_many : (T : List TableValue) (t : ℕ) (new : TableValue) → length (set T t new) ≡ length T
set_many [] zero new = refl
set_many [] (suc t) new = refl
set_many (u ∷ us) zero new = refl
set_many (u ∷ us) (suc t) new = ap suc (set_many us t new)

set_kinds : (T : List TableValue) (t : ℕ) (new : TableValue) → new.kinds ≡ kinds_at T t → (n : ℕ) → kinds_at (set T t new) n ≡ kinds_at T n
set_kinds [] zero new e n = refl
set_kinds [] (suc t) new e n = refl
set_kinds (u ∷ us) zero new e zero = e
set_kinds (u ∷ us) zero new e (suc n) = refl
set_kinds (u ∷ us) (suc t) new e zero = refl
set_kinds (u ∷ us) (suc t) new e (suc n) = set_kinds us t new e n

set_peopled : (m : ℕ) (T : List TableValue) (t : ℕ) (new : TableValue) → is_there new.rows ≡ is_there (table_at T t).rows → peopled_from m (set T t new) ≡ peopled_from m T
set_peopled m [] zero new e = refl
set_peopled m [] (suc t) new e = refl
set_peopled m (u ∷ us) zero new e = ap (λ (b : Bool). cond b (m ∷ peopled_from (suc m) us) (peopled_from (suc m) us)) e
set_peopled m (u ∷ us) (suc t) new e = ap (λ rest. cond (is_there u.rows) (m ∷ rest) rest) (set_peopled (suc m) us t new e)

-- another table of the same kinds in its place, with rows where it had some
pub set_indexed : (T : List TableValue) (t : ℕ) (new : TableValue) (index : TableIndex) → new.kinds ≡ kinds_at T t → is_there new.rows ≡ is_there (table_at T t).rows → IsIndexed T index → IsIndexed (set T t new) index
set_indexed T t new index kinds rows i = record {
  found = found_kept T (set T t new) index (set_many T t new) (set_kinds T t new kinds) i.found;
  peopled = i.peopled ∙ sym (set_peopled 0 T t new rows);
  numbers = i.numbers ∙ sym (set_numbers 0 T t new rows);
}

-- the same where it may be refused
pub set_indexed_if : {A E : Type 0} (r : Result A E) (T U : List TableValue) (t : ℕ) (new : TableValue) (index : TableIndex) → new.kinds ≡ kinds_at T t → is_there new.rows ≡ is_there (table_at T t).rows →
    OnOk r (U ≡ set T t new) → OnErr r (U ≡ T) → IsIndexed T index → IsIndexed U index
set_indexed_if (Ok x) T U t new index kinds rows done kept i = subst (λ V. IsIndexed V index) (sym done) (set_indexed T t new index kinds rows i)
set_indexed_if (Err x) T U t new index kinds rows done kept i = subst (λ V. IsIndexed V index) (sym kept) i

-- ---- the tables that have rows

pub peopled_many : (n : ℕ) (T : List TableValue) → length (peopled_from n T) ≡ length (layout_of T)
peopled_many n [] = refl
peopled_many n (u ∷ us) = go (is_there u.rows) (peopled_many (suc n) us)
  where
    go : (b : Bool) → length (peopled_from (suc n) us) ≡ length (layout_of us) → length (cond b (n ∷ peopled_from (suc n) us) (peopled_from (suc n) us)) ≡ length (cond b (archetype_of u ∷ layout_of us) (layout_of us))
    go true h = ap suc h
    go false h = h

table_step : (b : Bool) (u : TableValue) (us : List TableValue) (n t : ℕ) → is_there u.rows ≡ b → IsTableOf us n t → IsTableOf (u ∷ us) (cond b (suc n) n) (suc t)
table_step true u us n t e h = record { within = (let l = h.within in omega arith); peopled = h.peopled; number = ap (λ b. cond b (suc (number_of us t)) (number_of us t)) e ∙ ap suc h.number }
table_step false u us n t e h = record { within = (let l = h.within in omega arith); peopled = h.peopled; number = ap (λ b. cond b (suc (number_of us t)) (number_of us t)) e ∙ h.number }

-- the one at a place is that of the archetype of this number
peopled_at : (T : List TableValue) (m n t : ℕ) → slice_get (peopled_from m T) n ≡ Some t → (j : ℕ) × (t ≡ m + j) × IsTableOf T n j
peopled_at [] m n t h = absurd (let e : None ≡ Some t = h in cc)
peopled_at (u ∷ us) m n t h = go (is_there u.rows) refl (peopled_at us (suc m))
  where
    last : (k : ℕ) → suc m + k ≡ m + suc k
    last k = omega arith

    go : (b : Bool) → is_there u.rows ≡ b → ((i s : ℕ) → slice_get (peopled_from (suc m) us) i ≡ Some s → (j : ℕ) × (s ≡ suc m + j) × IsTableOf us i j) → (j : ℕ) × (t ≡ m + j) × IsTableOf (u ∷ us) n j
    go false e ih =
        let s : slice_get (peopled_from (suc m) us) n ≡ Some t = sym (ap (λ (b : Bool). slice_get (cond b (m ∷ peopled_from (suc m) us) (peopled_from (suc m) us)) n) e) ∙ h in
        let r = ih n t s in
        (suc r.0, r.1 ∙ last r.0, table_step false u us n r.0 e r.2)
    go true e ih = there n (sym (ap (λ (b : Bool). slice_get (cond b (m ∷ peopled_from (suc m) us) (peopled_from (suc m) us)) n) e) ∙ h)
      where
        there : (i : ℕ) → slice_get (m ∷ peopled_from (suc m) us) i ≡ Some t → (j : ℕ) × (t ≡ m + j) × IsTableOf (u ∷ us) i j
        there zero s = (zero, (let first : m ≡ t = cc in omega arith), record { within = omega arith; peopled = e; number = refl })
        there (suc i) s = let r = ih i t s in (suc r.0, r.1 ∙ last r.0, table_step true u us i r.0 e r.2)

pub table_told : (T : List TableValue) (index : TableIndex) (n : ℕ) (r : Option ℕ) → r ≡ slice_get index.peopled.items n → IsIndexed T index → MatchOption r (length (layout_of T) ≤ n) (IsTableOf T n)
table_told T index n None e i = elim (cases_lt n (length (layout_of T))) [
  | inl low ↦ absurd (let x = peopled_many 0 T in let y = ap length i.peopled in let z = slice_past index.peopled.items n (sym e) in omega arith)
  | inr high ↦ high
]
  where
    slice_past : (xs : List ℕ) (k : ℕ) → slice_get xs k ≡ None → length xs ≤ k
    slice_past [] k h = omega arith
    slice_past (x ∷ xs) zero h = absurd (cc)
    slice_past (x ∷ xs) (suc k) h = let l = slice_past xs k h in omega arith
table_told T index n (Some t) e i =
    let r = peopled_at T 0 n t (ap (λ xs. slice_get xs n) (sym i.peopled) ∙ sym e) in
    subst (IsTableOf T n) (let same : t ≡ 0 + r.0 = r.1 in omega arith) r.2

-- the tables from one on
next : (T : List TableValue) (n : ℕ) (u : TableValue) (named : List ℕ) → n < length T → u ≡ get_or T n u →
    named ++ cond (is_there u.rows) (n ∷ peopled_from (n + 1) (drop (n + 1) T)) (peopled_from (n + 1) (drop (n + 1) T)) ≡ named ++ peopled_from n (drop n T)
next T n u named l is =
    ap (λ (m : ℕ). named ++ cond (is_there u.rows) (n ∷ peopled_from m (drop (n + 1) T)) (peopled_from m (drop (n + 1) T))) (add-one n)
    ∙ ap (λ (v : TableValue). named ++ peopled_from n (v ∷ drop (n + 1) T)) is ∙ ap (λ rest. named ++ peopled_from n rest) (sym (drop_more T n u l))

-- the next table is named where it has rows
pub named_none : (T : List TableValue) (n : ℕ) (u : TableValue) (named : List ℕ) → n < length T → u ≡ get_or T n u → is_there u.rows ≡ false → named ++ peopled_from n (drop n T) ≡ peopled_from 0 T →
    named ++ peopled_from (n + 1) (drop (n + 1) T) ≡ peopled_from 0 T
named_none T n u named l is none h =
    ap (λ (b : Bool). named ++ cond b (n ∷ peopled_from (n + 1) (drop (n + 1) T)) (peopled_from (n + 1) (drop (n + 1) T))) (sym none) ∙ next T n u named l is ∙ h

pub named_next : (T : List TableValue) (n : ℕ) (u : TableValue) (named : List ℕ) → n < length T → u ≡ get_or T n u → is_there u.rows ≡ true → named ++ peopled_from n (drop n T) ≡ peopled_from 0 T →
    (named ++ n ∷ []) ++ peopled_from (n + 1) (drop (n + 1) T) ≡ peopled_from 0 T
named_next T n u named l is some h =
    append_assoc named (n ∷ []) (peopled_from (n + 1) (drop (n + 1) T))
    ∙ ap (λ (b : Bool). named ++ cond b (n ∷ peopled_from (n + 1) (drop (n + 1) T)) (peopled_from (n + 1) (drop (n + 1) T))) (sym some) ∙ next T n u named l is ∙ h

-- past the last
pub named_all : (T : List TableValue) (n : ℕ) (named : List ℕ) → length T ≤ n → named ++ peopled_from n (drop n T) ≡ peopled_from 0 T → named ≡ peopled_from 0 T
named_all T n named l h = sym (append-nil named) ∙ ap (λ rest. named ++ peopled_from n rest) (sym (drop_all n T l)) ∙ h
