-- Lists with a gap: what is before it, and what is behind it, the last one first.
use Rattle.column_store.proofs.Common.{◌≡◌, ℕ, zero, suc, ◌+◌, ◌-◌, ◌<◌, ◌≤◌, List, [], ◌∷◌, ◌++◌, length, reverse, set, get_or, refl, sym, ap, ◌∙◌, arith, insert, length_push, get_or_append_left}
use Rattle.std.proofs.Math.Seq.{get_or-append_right}
use Rattle.std.proofs.lemmas.List.{append_assoc, reverse-append, length-append, length-reverse, get_or-reverse}

turned : (fs bs : List ℕ) (b : ℕ) → fs ++ reverse (b ∷ bs) ≡ (fs ++ reverse bs) ++ b ∷ []
turned fs bs b = ap (λ ys. fs ++ ys) (reverse-append (b ∷ []) bs) ∙ sym (append_assoc fs (reverse bs) (b ∷ []))

pub length-gap : (fs bs : List ℕ) → length (fs ++ reverse bs) ≡ length fs + length bs
length-gap fs bs = length-append fs (reverse bs) ∙ ap (λ n. length fs + n) (length-reverse bs)

-- ---- a number is replaced

set_left : (xs ys : List ℕ) (i x : ℕ) → i < length xs → set (xs ++ ys) i x ≡ set xs i x ++ ys
set_left [] ys i x l = absurd (omega arith)
set_left (y ∷ xs) ys zero x l = refl
set_left (y ∷ xs) ys (suc i) x l = ap (λ zs. y ∷ zs) (set_left xs ys i x (omega arith))

set_last : (xs : List ℕ) (i b x : ℕ) → i ≡ length xs → set (xs ++ b ∷ []) i x ≡ xs ++ x ∷ []
set_last [] zero b x h = refl
set_last [] (suc i) b x h = absurd (omega arith)
set_last (y ∷ xs) zero b x h = absurd (omega arith)
set_last (y ∷ xs) (suc i) b x h = ap (λ zs. y ∷ zs) (set_last xs i b x (omega arith))

pub set_before : (fs bs : List ℕ) (i x : ℕ) → i < length fs → set fs i x ++ bs ≡ set (fs ++ bs) i x
set_before fs bs i x l = sym (set_left fs bs i x l)

set_turned : (fs bs : List ℕ) (j x : ℕ) → j < length bs → fs ++ reverse (set bs j x) ≡ set (fs ++ reverse bs) (length fs + (length bs - 1 - j)) x
set_turned fs [] j x l = absurd (omega arith)
set_turned fs (b ∷ bs) zero x l =
    let n = length-gap fs bs in
    turned fs bs x
    ∙ sym (ap (λ ys. set ys (length fs + (length (b ∷ bs) - 1 - 0)) x) (turned fs bs b) ∙ set_last (fs ++ reverse bs) (length fs + (length (b ∷ bs) - 1 - 0)) b x (omega (arith, n)))
set_turned fs (b ∷ bs) (suc j) x l =
    let n = length-gap fs bs in
    let less : length bs - 1 - j < length bs = omega arith in
    let z : length fs + (length (b ∷ bs) - 1 - suc j) ≡ length fs + (length bs - 1 - j) = omega arith in
    turned fs (set bs j x) b
    ∙ ap (λ ys. ys ++ b ∷ []) (set_turned fs bs j x (omega arith))
    ∙ sym (ap (λ ys. set ys (length fs + (length (b ∷ bs) - 1 - suc j)) x) (turned fs bs b)
    ∙ ap (λ m. set ((fs ++ reverse bs) ++ b ∷ []) m x) z
    ∙ set_left (fs ++ reverse bs) (b ∷ []) (length fs + (length bs - 1 - j)) x (omega (arith, n, less)))

pub set_behind : (fs bs : List ℕ) (i j x : ℕ) → length fs ≤ i → i < length fs + length bs → j ≡ length bs - 1 - (i - length fs) → fs ++ reverse (set bs j x) ≡ set (fs ++ reverse bs) i x
set_behind fs bs i j x low high is =
    set_turned fs bs j x (omega (arith, is)) ∙ ap (λ n. set (fs ++ reverse bs) n x) (let z : length fs + (length bs - 1 - j) ≡ i = omega (arith, is) in z)

-- ---- the gap is moved

-- a number that is moved from the end of the front to that of the back
pub moved_back : (fs bs fs' bs' : List ℕ) (x : ℕ) → fs ≡ fs' ++ x ∷ [] → bs' ≡ bs ++ x ∷ [] → fs' ++ reverse bs' ≡ fs ++ reverse bs
moved_back fs bs fs' bs' x e f =
    ap (λ ys. fs' ++ reverse ys) f ∙ ap (λ ys. fs' ++ ys) (reverse-append bs (x ∷ [])) ∙ sym (append_assoc fs' (x ∷ []) (reverse bs)) ∙ ap (λ xs. xs ++ reverse bs) (sym e)

-- as many numbers as before, where one is moved
pub moved_many : (a b a' b' n : ℕ) → a' + 1 ≡ a → b' ≡ b + 1 → a + b ≡ n → a' + b' ≡ n
moved_many a b a' b' n e f h = omega arith

-- the same, where it is moved the other way
pub moved_other : (a b a' b' n : ℕ) → b' + 1 ≡ b → a' ≡ a + 1 → a + b ≡ n → a' + b' ≡ n
moved_other a b a' b' n e f h = omega arith

-- where one is moved from the front, the gap is not yet before a place
pub not_yet_before : (place len n m : ℕ) → place < len → len ≡ n → m + 1 ≡ n → place ≤ m
not_yet_before place len n m l e f = omega arith

-- where one is moved to the front, the gap is not yet behind a place
pub not_yet_behind : (place len n m : ℕ) → len < place → len ≡ n → m ≡ n + 1 → m ≤ place
not_yet_behind place len n m l e f = omega arith

-- ---- a number more

-- a number put in behind a first part
insert_at : (fs cs : List ℕ) (x : ℕ) → (fs ++ x ∷ []) ++ cs ≡ insert (fs ++ cs) (length fs) x
insert_at [] cs x = refl
insert_at (y ∷ fs) cs x = ap (λ zs. y ∷ zs) (insert_at fs cs x)

-- a number that is put in at the gap
pub inserted_items : (xs fs bs fs' : List ℕ) (place x : ℕ) → fs ++ reverse bs ≡ xs → length fs ≡ place → fs' ≡ fs ++ x ∷ [] → fs' ++ reverse bs ≡ insert xs place x
inserted_items xs fs bs fs' place x is at e =
    ap (λ ys. ys ++ reverse bs) e ∙ insert_at fs (reverse bs) x ∙ ap (λ ys. insert ys (length fs) x) is ∙ ap (λ n. insert xs n x) at

-- there is room for it
pub inserted_fits : (xs fs bs fs' : List ℕ) (x room newroom : ℕ) → fs ++ reverse bs ≡ xs → fs' ≡ fs ++ x ∷ [] → length xs < room → newroom ≡ room → length fs' + length bs ≤ newroom
inserted_fits xs fs bs fs' x room newroom is e l same =
    let long : length fs + length bs ≡ length xs = sym (length-gap fs bs) ∙ ap length is in
    let more : length fs' ≡ length fs + 1 = ap length e ∙ length_push fs x in
    omega arith

-- ---- what is at a place

-- a place before the gap
pub get_before : (fs cs : List ℕ) (i : ℕ) → i < length fs → get_or fs i 0 ≡ get_or (fs ++ cs) i 0
get_before fs cs i l = sym (get_or_append_left fs cs 0 i l)

-- a place behind the gap
pub get_behind : (fs bs : List ℕ) (i : ℕ) → length fs ≤ i → i < length (fs ++ reverse bs) → get_or bs (length bs - 1 - (i - length fs)) 0 ≡ get_or (fs ++ reverse bs) i 0
get_behind fs bs i low high =
    let long = length-gap fs bs in
    sym (get_or-reverse bs (i - length fs) 0 (omega arith)) ∙ sym (get_or-append_right fs (reverse bs) i 0 low)

-- the place from the end is in the list
pub behind_within : (fs bs : List ℕ) (i : ℕ) → length fs ≤ i → i < length (fs ++ reverse bs) → length bs - 1 - (i - length fs) < length bs
behind_within fs bs i low high = let long = length-gap fs bs in omega arith

-- where a place is behind the gap, something is
pub behind_some : (fs bs : List ℕ) (i : ℕ) → length fs ≤ i → i < length (fs ++ reverse bs) → 1 ≤ length bs
behind_some fs bs i low high = let long = length-gap fs bs in omega arith
