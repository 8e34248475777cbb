-- The order of ids, and places among ids that rise.
use Rattle.column_store.proofs.Common.{◌≡◌, ℕ, zero, suc, ◌-◌, ◌<◌, ◌≤◌, ap, ◌∙◌, true, false, ◌||◌, ◌&&◌, ◌==◌, nat_lt, List, [], ◌∷◌, ◌++◌, length, get_or, take, arith, nat_tests, insert, remove, AllByRecursion, IsPartitionedBy, Entity, each-at, each-weaker, is_before, is_same, AreRising, IsNowhere, IsGap}
use Rattle.column_store.proofs.Lists.{each-insert, each-remove}
use Rattle.model.proofs.lists.Places.{each-push}

-- ---- two pairs of numbers, the first ones deciding

trans_pairs : (a b c d e f : ℕ) → (nat_lt a c || ((a == c) && nat_lt b d)) ≡ true → (nat_lt c e || ((c == e) && nat_lt d f)) ≡ true → (nat_lt a e || ((a == e) && nat_lt b f)) ≡ true
trans_pairs a b c d e f h k = grind (arith, nat_tests)

rest_pairs : (a b c d : ℕ) → (nat_lt a c || ((a == c) && nat_lt b d)) ≡ false → ((a == c) && (b == d)) ≡ false → (nat_lt c a || ((c == a) && nat_lt d b)) ≡ true
rest_pairs a b c d h k = grind (arith, nat_tests)

-- ---- ids

pub before_trans : (x y z : Entity) → is_before x y ≡ true → is_before y z ≡ true → is_before x z ≡ true
before_trans x y z h k = trans_pairs x.index x.generation y.index y.generation z.index z.generation h k

-- one that is neither before nor the same comes after
pub after_rest : (x e : Entity) → is_before x e ≡ false → is_same x e ≡ false → is_before e x ≡ true
after_rest x e h k = rest_pairs x.index x.generation e.index e.generation h k

-- ---- ids that rise

-- the ids before one come first
pub parted_before : (e : Entity) (xs : List Entity) → AreRising xs → IsPartitionedBy (λ y. is_before y e) xs
parted_before e [] r i j d le lt h = absurd (omega arith)
parted_before e (x ∷ xs) r zero zero d le lt h = h
parted_before e (x ∷ xs) r zero (suc j) d le lt h =
    before_trans x (get_or xs j d) e (each-at (λ y. is_before x y ≡ true) xs j d (omega arith) r.0) h
parted_before e (x ∷ xs) r (suc i) zero d le lt h = absurd (omega arith)
parted_before e (x ∷ xs) r (suc i) (suc j) d le lt h = parted_before e xs r.1 i j d (omega arith) (omega arith) h

-- a gap is within the list
pub gap-within : (e : Entity) (xs : List Entity) (i : ℕ) → IsGap e xs i → i ≤ length xs
gap-within e [] zero g = omega arith
gap-within e [] (suc i) g = absurd g
gap-within e (x ∷ xs) zero g = omega arith
gap-within e (x ∷ xs) (suc i) g = let l = gap-within e xs i g.1 in omega arith

-- ---- an id more or less

pub rising-insert : (e : Entity) (es : List Entity) (i : ℕ) → AreRising es → IsGap e es i → IsNowhere (λ x. is_same x e) es → AreRising (insert es i e)
rising-insert e [] zero r g a = (tt, tt)
rising-insert e [] (suc i) r g a = absurd g
rising-insert e (x ∷ es) zero r g a = let first = after_rest x e g a.0 in
    ((first, each-weaker (λ y. is_before x y ≡ true) (λ y. is_before e y ≡ true) (λ y h. before_trans e x y first h) es r.0), r)
rising-insert e (x ∷ es) (suc i) r g a = (each-insert (λ y. is_before x y ≡ true) es i e g.0 r.0, rising-insert e es i r.1 g.1 a.1)

pub rising-remove : (es : List Entity) (i : ℕ) → AreRising es → AreRising (remove es i)
rising-remove [] zero r = tt
rising-remove [] (suc i) r = tt
rising-remove (x ∷ es) zero r = r.1
rising-remove (x ∷ es) (suc i) r = (each-remove (λ y. is_before x y ≡ true) es i r.0, rising-remove es i r.1)

-- one that comes behind the last
pub rising-behind : (e : Entity) (xs : List Entity) (d : Entity) → AreRising xs → is_before (get_or xs (length xs - 1) d) e ≡ true → 0 < length xs → AreRising (xs ++ e ∷ [])
rising-behind e [] d r h some = absurd (omega arith)
rising-behind e (x ∷ []) d r h some = ((h, tt), (tt, tt))
rising-behind e (x ∷ y ∷ ys) d r h some =
    let last : is_before x (get_or (y ∷ ys) (length (y ∷ ys) - 1) d) ≡ true = each-at (λ z. is_before x z ≡ true) (y ∷ ys) (length (y ∷ ys) - 1) d (omega arith) r.0 in
    let there : is_before (get_or (y ∷ ys) (length (y ∷ ys) - 1) d) e ≡ true = ap (λ n. is_before (get_or (x ∷ y ∷ ys) n d) e) (before_last (length ys)) ∙ h in
    (each-push (λ z. is_before x z ≡ true) (y ∷ ys) e r.0 (before_trans x (get_or (y ∷ ys) (length (y ∷ ys) - 1) d) e last there), rising-behind e (y ∷ ys) d r.1 there (omega arith))
  where
    before_last : (n : ℕ) → suc (suc n - 1) ≡ suc (suc n) - 1
    before_last n = omega arith

each_take : (P : Entity → Type 0) (n : ℕ) (xs : List Entity) → AllByRecursion P xs → AllByRecursion P (take n xs)
each_take P zero xs h = tt
each_take P (suc n) [] h = tt
each_take P (suc n) (x ∷ xs) h = (h.0, each_take P n xs h.1)

pub rising-take : (n : ℕ) (xs : List Entity) → AreRising xs → AreRising (take n xs)
rising-take zero xs r = tt
rising-take (suc n) [] r = tt
rising-take (suc n) (x ∷ xs) r = (each_take (λ y. is_before x y ≡ true) n xs r.0, rising-take n xs r.1)
