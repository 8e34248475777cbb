-- Fields that are written in components, from one on.
use Rattle.column_store.proofs.Common.{◌≡◌, ◌≢◌, ◌⊎◌, inl, inr, ℕ, zero, suc, ◌+◌, ◌-◌, ◌<◌, ◌≤◌, min, ℤ, pos, List, [], ◌∷◌, length, get_or, set, map, drop, option_map, Some, slice_get, refl, sym, ap, ap₂, ◌∙◌, arith, cases_eq, get_or-set_same, get_or-set_other, word_at, Stamp, update_at, Cell, length-update_at, ColumnCells, cell_of, cells_of, ColumnWords, words_with, field_cell, with_field_cells, with_field_words, changed_stamp, changed_stamps}
use Rattle.std.proofs.lemmas.List.{drop_all, drop_more}

-- ---- one value more

words-put : {A : Type 0} (w : A → List ℤ) (width field place : ℕ) (v : ℤ) (items : List A) (x y : A) → place < length items → x ≡ get_or items place x → w y ≡ words_with width field v (w x) →
    map w (set items place y) ≡ update_at place (words_with width field v) (map w items)
words-put w width field place v [] x y l is e = absurd (omega arith)
words-put w width field zero v (z ∷ zs) x y l is e = ap (λ ws. ws ∷ map w zs) (e ∙ ap (λ u. words_with width field v (w u)) is)
words-put w width field (suc n) v (z ∷ zs) x y l is e = ap (λ ws. w z ∷ ws) (words-put w width field n v zs x y (omega arith) is e)

pub write-more : {A : Type 0} (w : A → List ℤ) (width field from i : ℕ) (values : List ℤ) (d v : ℤ) (items : List A) (x y : A) (last : List (List ℤ)) → i < length values → from + i < length items → v ≡ get_or values i d →
    x ≡ get_or items (from + i) x → w y ≡ words_with width field v (w x) →
    with_field_words width field (from + i) (drop i values) (map w items) ≡ last → with_field_words width field (from + (i + 1)) (drop (i + 1) values) (map w (set items (from + i) y)) ≡ last
write-more w width field from i values d v items x y last l within read is e h =
    ap₂ (λ a ws. with_field_words width field a (drop (i + 1) values) ws) (let n : from + (i + 1) ≡ suc (from + i) = omega arith in n)
    (words-put w width field (from + i) v items x y within is e ∙ ap (λ u. update_at (from + i) (words_with width field u) (map w items)) read)
    ∙ sym (ap (λ vs. with_field_words width field (from + i) vs (map w items)) (drop_more values i d l)) ∙ h

pub stamps-more : (tick from i count : ℕ) (now new last : List Stamp) → i < count → new ≡ update_at (from + i) (changed_stamp tick) now →
    changed_stamps tick (from + i) (count - i) now ≡ last → changed_stamps tick (from + (i + 1)) (count - (i + 1)) new ≡ last
stamps-more tick from i count now new last l e h =
    ap₂ (λ a ss. changed_stamps tick a (count - (i + 1)) ss) (let n : from + (i + 1) ≡ suc (from + i) = omega arith in n) e
    ∙ sym (ap (λ m. changed_stamps tick (from + i) m now) (let n : count - i ≡ suc (count - (i + 1)) = omega arith in n)) ∙ h

-- ---- cells

cells-updated : (f : List ℤ → List ℤ) (g : Stamp → Stamp) (h : Cell → Cell) → ((w : List ℤ) (s : Stamp) → cell_of (f w) (g s) ≡ h (cell_of w s)) →
    (i : ℕ) (ws : List (List ℤ)) (ss : List Stamp) → cells_of (update_at i f ws) (update_at i g ss) ≡ update_at i h (cells_of ws ss)
cells-updated f g h k i [] ss = refl
cells-updated f g h k zero (w ∷ ws) [] = refl
cells-updated f g h k (suc i) (w ∷ ws) [] = refl
cells-updated f g h k zero (w ∷ ws) (s ∷ ss) = ap (λ c. c ∷ cells_of ws ss) (k w s)
cells-updated f g h k (suc i) (w ∷ ws) (s ∷ ss) = ap (λ cs. cell_of w s ∷ cs) (cells-updated f g h k i ws ss)

pub cells-written : (width tick field i : ℕ) (values : List ℤ) (ws : List (List ℤ)) (ss : List Stamp) →
    cells_of (with_field_words width field i values ws) (changed_stamps tick i (length values) ss) ≡ with_field_cells width tick field i values (cells_of ws ss)
cells-written width tick field i [] ws ss = refl
cells-written width tick field i (v ∷ vs) ws ss =
    cells-written width tick field (suc i) vs (update_at i (words_with width field v) ws) (update_at i (changed_stamp tick) ss)
    ∙ ap (with_field_cells width tick field (suc i) vs) (cells-updated (words_with width field v) (changed_stamp tick) (field_cell width tick field v) (λ w s. refl) i ws ss)

-- ---- lengths stay

pub length-field_words : (width field i : ℕ) (values : List ℤ) (ws : List (List ℤ)) → length (with_field_words width field i values ws) ≡ length ws
length-field_words width field i [] ws = refl
length-field_words width field i (v ∷ vs) ws = length-field_words width field (suc i) vs (update_at i (words_with width field v) ws) ∙ length-update_at i (words_with width field v) ws

pub length-changed_stamps : (tick i n : ℕ) (ss : List Stamp) → length (changed_stamps tick i n ss) ≡ length ss
length-changed_stamps tick i zero ss = refl
length-changed_stamps tick i (suc n) ss = length-changed_stamps tick (suc i) n (update_at i (changed_stamp tick) ss) ∙ length-update_at i (changed_stamp tick) ss

-- a column by its words and stamps
pub written-view : (column new : ColumnWords) (ss news : List Stamp) (room newroom width tick field from : ℕ) (values : List ℤ) →
    new ≡ record { kind = column.kind; words = with_field_words width field from values column.words; room = column.room } → news ≡ changed_stamps tick from (length values) ss → newroom ≡ room →
    (let v : ColumnCells = record { kind = new.kind; cells = cells_of new.words news; room = min new.room newroom } in v) ≡ record { kind = column.kind; cells = with_field_cells width tick field from values (cells_of column.words ss); room = min column.room room }
written-view column new ss news room newroom width tick field from values e f k =
    ap (λ (n : ColumnWords). let v : ColumnCells = record { kind = n.kind; cells = cells_of n.words news; room = min n.room newroom } in v) e
    ∙ ap₂ (λ (xs : List Stamp) (m : ℕ). let v : ColumnCells = record { kind = column.kind; cells = cells_of (with_field_words width field from values column.words) xs; room = min column.room m } in v) f k
    ∙ ap (λ (cells : List Cell). let v : ColumnCells = record { kind = column.kind; cells = cells; room = min column.room room } in v) (cells-written width tick field from values column.words ss)

pub written-lengths : (column new : ColumnWords) (ss news : List Stamp) (width tick field from : ℕ) (values : List ℤ) →
    new ≡ record { kind = column.kind; words = with_field_words width field from values column.words; room = column.room } → news ≡ changed_stamps tick from (length values) ss →
    length column.words ≡ length ss → length new.words ≡ length news
written-lengths column new ss news width tick field from values e f h =
    ap (λ (n : ColumnWords). length n.words) e ∙ length-field_words width field from values column.words ∙ h ∙ sym (ap length f ∙ length-changed_stamps tick from (length values) ss)

-- ---- fields that are read from one on

words-read : {A : Type 0} (w : A → List ℤ) (items : List A) (j field : ℕ) (x : A) (v : ℤ) → j < length items → x ≡ get_or items j x → v ≡ word_at (w x) field →
    option_map (λ (ws : List ℤ). word_at ws field) (slice_get (map w items) j) ≡ Some v
words-read w [] j field x v l is e = absurd (omega arith)
words-read w (z ∷ zs) zero field x v l is e = ap Some (ap (λ u. word_at (w u) field) (sym is) ∙ sym e)
words-read w (z ∷ zs) (suc j) field x v l is e = words-read w zs j field x v (omega arith) is e

pub read-more : {A : Type 0} (w : A → List ℤ) (items : List A) (from i field : ℕ) (x : A) (v : ℤ) (values : List ℤ) → from + i < length items → i < length values → x ≡ get_or items (from + i) x → v ≡ word_at (w x) field →
    ((k : ℕ) → k < i → option_map (λ (ws : List ℤ). word_at ws field) (slice_get (map w items) (from + k)) ≡ Some (get_or values k (pos 0))) →
    (k : ℕ) → k < i + 1 → option_map (λ (ws : List ℤ). word_at ws field) (slice_get (map w items) (from + k)) ≡ Some (get_or (set values i v) k (pos 0))
read-more w items from i field x v values within room is e h k l = go (cases_eq k i)
  where
    go : (k ≡ i) ⊎ (k ≢ i) → option_map (λ (ws : List ℤ). word_at ws field) (slice_get (map w items) (from + k)) ≡ Some (get_or (set values i v) k (pos 0))
    go (inl same) =
        ap (λ j. option_map (λ (ws : List ℤ). word_at ws field) (slice_get (map w items) (from + j))) same
        ∙ words-read w items (from + i) field x v within is e
        ∙ sym (ap Some (ap (λ j. get_or (set values i v) j (pos 0)) same ∙ get_or-set_same values i v (pos 0) room))
    go (inr other) = h k (omega (arith, other)) ∙ sym (ap Some (get_or-set_other values i k v (pos 0) other))

-- all values are written
pub all-written : (width field from i : ℕ) (values : List ℤ) (ws last : List (List ℤ)) → length values ≤ i → with_field_words width field from (drop i values) ws ≡ last → ws ≡ last
all-written width field from i values ws last l e = sym (ap (λ vs. with_field_words width field from vs ws) (drop_all i values l)) ∙ e

-- ---- a field that a component has not

pub amount_kept : (field : ℕ) (v value : ℤ) → field ≢ 0 → v ∷ [] ≡ words_with 1 field value (v ∷ [])
amount_kept zero v value d = absurd (d refl)
amount_kept (suc field) v value d = refl

pub pair_kept : (field : ℕ) (x y value : ℤ) → field ≢ 0 → field ≢ 1 → x ∷ y ∷ [] ≡ words_with 2 field value (x ∷ y ∷ [])
pair_kept zero x y value d e = absurd (d refl)
pair_kept (suc zero) x y value d e = absurd (e refl)
pair_kept (suc (suc field)) x y value d e = refl
