-- Cells of words and stamps, and edits of them.
use Rattle.column_store.proofs.Common.{◌≡◌, ℕ, zero, suc, ◌-◌, ◌<◌, ℤ, List, [], ◌∷◌, ◌++◌, length, get_or, set, take, option_map, refl, sym, ap, ◌∙◌, arith, swap_remove, word_at, slice_get, Some, Stamp, Cell, update_at, cell_of, cells_of, stamp_of, changed_cell, swap_removed}
use Rattle.column_store.proofs.Swapped.{swap_removed-is, length-swap_removed}

-- as many cells as words
pub length-cells_of : (ws : List (List ℤ)) (ss : List Stamp) → length ws ≡ length ss → length (cells_of ws ss) ≡ length ss
length-cells_of [] ss h = h
length-cells_of (w ∷ ws) [] h = absurd (omega arith)
length-cells_of (w ∷ ws) (s ∷ ss) h = ap suc (length-cells_of ws ss (omega arith))

-- the cell at a place
pub get-cells_of : (ws : List (List ℤ)) (ss : List Stamp) (i : ℕ) (w : List ℤ) (s : Stamp) → slice_get ws i ≡ Some w → slice_get ss i ≡ Some s → slice_get (cells_of ws ss) i ≡ Some (cell_of w s)
get-cells_of [] ss i w s h e = absurd (cc)
get-cells_of (x ∷ ws) [] i w s h e = absurd (cc)
get-cells_of (x ∷ ws) (y ∷ ss) zero w s h e = cc
get-cells_of (x ∷ ws) (y ∷ ss) (suc i) w s h e = get-cells_of ws ss i w s h e

set_first : (x w : List ℤ) (y s : Stamp) (tick : ℕ) (cs : List Cell) → s ≡ record y { changed = tick } → cell_of w s ∷ cs ≡ changed_cell w tick (cell_of x y) ∷ cs
set_first x w y s tick cs e = cc

-- a write of words and of the changed stamp
pub cells_of-set : (ws : List (List ℤ)) (ss : List Stamp) (i : ℕ) (w : List ℤ) (tick : ℕ) (s d : Stamp) → length ws ≡ length ss → i < length ss →
    s ≡ record (get_or ss i d) { changed = tick } → cells_of (set ws i w) (set ss i s) ≡ update_at i (changed_cell w tick) (cells_of ws ss)
cells_of-set [] ss i w tick s d h l e = absurd (omega arith)
cells_of-set (x ∷ ws) [] i w tick s d h l e = absurd (omega arith)
cells_of-set (x ∷ ws) (y ∷ ss) zero w tick s d h l e = set_first x w y s tick (cells_of ws ss) e
cells_of-set (x ∷ ws) (y ∷ ss) (suc i) w tick s d h l e = ap (λ cs. cell_of x y ∷ cs) (cells_of-set ws ss i w tick s d (omega arith) (omega arith) e)

-- a write of words and of both stamps
pub cells_of-replace : (ws : List (List ℤ)) (ss : List Stamp) (i : ℕ) (w : List ℤ) (s : Stamp) → length ws ≡ length ss → i < length ss →
    cells_of (set ws i w) (set ss i s) ≡ update_at i (λ _. cell_of w s) (cells_of ws ss)
cells_of-replace [] ss i w s h l = absurd (omega arith)
cells_of-replace (x ∷ ws) [] i w s h l = absurd (omega arith)
cells_of-replace (x ∷ ws) (y ∷ ss) zero w s h l = refl
cells_of-replace (x ∷ ws) (y ∷ ss) (suc i) w s h l = ap (λ cs. cell_of x y ∷ cs) (cells_of-replace ws ss i w s (omega arith) (omega arith))

-- an element more of both
pub cells_of-append : (ws : List (List ℤ)) (ss : List Stamp) (w : List ℤ) (s : Stamp) → length ws ≡ length ss →
    cells_of (ws ++ w ∷ []) (ss ++ s ∷ []) ≡ cells_of ws ss ++ cell_of w s ∷ []
cells_of-append [] [] w s h = refl
cells_of-append [] (y ∷ ss) w s h = absurd (omega arith)
cells_of-append (x ∷ ws) [] w s h = absurd (omega arith)
cells_of-append (x ∷ ws) (y ∷ ss) w s h = ap (λ cs. cell_of x y ∷ cs) (cells_of-append ws ss w s (omega arith))

take-cells_of : (n : ℕ) (ws : List (List ℤ)) (ss : List Stamp) → cells_of (take n ws) (take n ss) ≡ take n (cells_of ws ss)
take-cells_of zero ws ss = refl
take-cells_of (suc n) [] ss = refl
take-cells_of (suc n) (x ∷ ws) [] = refl
take-cells_of (suc n) (x ∷ ws) (y ∷ ss) = ap (λ cs. cell_of x y ∷ cs) (take-cells_of n ws ss)

set-cells_of : (ws : List (List ℤ)) (ss : List Stamp) (i : ℕ) (w : List ℤ) (s : Stamp) → cells_of (set ws i w) (set ss i s) ≡ set (cells_of ws ss) i (cell_of w s)
set-cells_of [] ss i w s = refl
set-cells_of (x ∷ ws) [] zero w s = refl
set-cells_of (x ∷ ws) [] (suc i) w s = refl
set-cells_of (x ∷ ws) (y ∷ ss) zero w s = refl
set-cells_of (x ∷ ws) (y ∷ ss) (suc i) w s = ap (λ cs. cell_of x y ∷ cs) (set-cells_of ws ss i w s)

get_or-cells_of : (ws : List (List ℤ)) (ss : List Stamp) (i : ℕ) (w : List ℤ) (s : Stamp) → length ws ≡ length ss → cell_of (get_or ws i w) (get_or ss i s) ≡ get_or (cells_of ws ss) i (cell_of w s)
get_or-cells_of [] [] i w s h = refl
get_or-cells_of [] (y ∷ ss) i w s h = absurd (omega arith)
get_or-cells_of (x ∷ ws) [] i w s h = absurd (omega arith)
get_or-cells_of (x ∷ ws) (y ∷ ss) zero w s h = refl
get_or-cells_of (x ∷ ws) (y ∷ ss) (suc i) w s h = get_or-cells_of ws ss i w s (omega arith)

cells_of-swap : (ws : List (List ℤ)) (ss : List Stamp) (i : ℕ) (w : List ℤ) (s : Stamp) → length ws ≡ length ss →
    cells_of (swap_remove ws i w) (swap_remove ss i s) ≡ swap_remove (cells_of ws ss) i (cell_of w s)
cells_of-swap ws ss i w s h =
    let n = length ss - 1 in
    ap (λ m. cells_of (take (m - 1) (set ws i (get_or ws (m - 1) w))) (take n (set ss i (get_or ss n s)))) h
    ∙ take-cells_of n (set ws i (get_or ws n w)) (set ss i (get_or ss n s))
    ∙ ap (take n) (set-cells_of ws ss i (get_or ws n w) (get_or ss n s) ∙ ap (set (cells_of ws ss) i) (get_or-cells_of ws ss n w s h))
    ∙ ap (λ m. take (m - 1) (set (cells_of ws ss) i (get_or (cells_of ws ss) (m - 1) (cell_of w s)))) (sym (length-cells_of ws ss h))

-- one removed of both
pub cells_of-swap_removed : (ws : List (List ℤ)) (ss : List Stamp) (i : ℕ) (d : Stamp) → length ws ≡ length ss → i < length ss →
    cells_of (swap_removed ws i) (swap_remove ss i d) ≡ swap_removed (cells_of ws ss) i
cells_of-swap_removed [] ss i d h l = absurd (omega arith)
cells_of-swap_removed (x ∷ ws) [] i d h l = absurd (omega arith)
cells_of-swap_removed (x ∷ ws) (y ∷ ss) i d h l = ap (cells_of (swap_removed (x ∷ ws) i)) (swap_removed-is (y ∷ ss) i d l) ∙ cells_of-swap (x ∷ ws) (y ∷ ss) i x y h

-- the words at a place
pub words-cells_of : (ws : List (List ℤ)) (ss : List Stamp) (i : ℕ) (w : List ℤ) → length ws ≡ length ss → slice_get ws i ≡ Some w → option_map (λ (c : Cell). c.words) (slice_get (cells_of ws ss) i) ≡ Some w
words-cells_of [] ss i w l h = absurd (cc)
words-cells_of (x ∷ ws) [] i w l h = absurd (omega arith)
words-cells_of (x ∷ ws) (y ∷ ss) zero w l h = cc
words-cells_of (x ∷ ws) (y ∷ ss) (suc i) w l h = words-cells_of ws ss i w (omega arith) h

-- a word of the component at a place
pub word-cells_of : (ws : List (List ℤ)) (ss : List Stamp) (i field : ℕ) → length ws ≡ length ss →
    option_map (λ (c : Cell). word_at c.words field) (slice_get (cells_of ws ss) i) ≡ option_map (λ (w : List ℤ). word_at w field) (slice_get ws i)
word-cells_of [] ss i field h = refl
word-cells_of (w ∷ ws) [] i field h = absurd (omega arith)
word-cells_of (w ∷ ws) (s ∷ ss) zero field h = refl
word-cells_of (w ∷ ws) (s ∷ ss) (suc i) field h = word-cells_of ws ss i field (omega arith)

-- the stamp at a place
pub stamp-cells_of : (ws : List (List ℤ)) (ss : List Stamp) (i : ℕ) (s : Stamp) → length ws ≡ length ss → slice_get ss i ≡ Some s → option_map stamp_of (slice_get (cells_of ws ss) i) ≡ Some s
stamp-cells_of ws [] i s l h = absurd (cc)
stamp-cells_of [] (y ∷ ss) i s l h = absurd (omega arith)
stamp-cells_of (x ∷ ws) (y ∷ ss) zero s l h = h
stamp-cells_of (x ∷ ws) (y ∷ ss) (suc i) s l h = stamp-cells_of ws ss i s (omega arith) h

-- an element that was read
pub get-there : {A : Type 0} (xs : List A) (i : ℕ) (x : A) → i < length xs → x ≡ get_or xs i x → slice_get xs i ≡ Some x
get-there [] i x l e = absurd (omega arith)
get-there (y ∷ ys) zero x l e = cc
get-there (y ∷ ys) (suc i) x l e = get-there ys i x (omega arith) e

-- lists of one length have one length after a removal
pub length-removed : {A B : Type 0} (xs : List A) (ys : List B) (i : ℕ) (d : B) → length xs ≡ length ys → i < length ys → length (swap_removed xs i) ≡ length (swap_remove ys i d)
length-removed xs ys i d h l = omega (arith, length-swap_removed xs i (omega arith), length-swap_removed ys i l, ap length (swap_removed-is ys i d l))

pub ruleset cell_edits = (length-cells_of, get-cells_of, cells_of-set, cells_of-replace, cells_of-append, cells_of-swap_removed, words-cells_of, stamp-cells_of, get-there, length-removed)
