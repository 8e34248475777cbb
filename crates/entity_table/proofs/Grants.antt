-- A grant of several ids is that of one id after the other, and what the grant of one id is.
use Rattle.std.proofs.Common.{◌≡◌, ℕ, zero, suc, ◌+◌, ◌-◌, ◌<◌, ◌≤◌, Bool, true, false, cond, ◌==◌, ◌||◌, nat_le, List, [], ◌∷◌, ◌++◌, length, get_or, take, map, replicate, refl, ap, ap₂, sym, ◌∙◌, arith, append_assoc}
use Rattle.std.specs.Prelude.{All}
use Rattle.std.specs.List.{AllByRecursion}
use Rattle.std.proofs.lemmas.Bool.{cond_both, cond-true, cond-false, le-leb, lt-leb}
use Rattle.std.proofs.lemmas.Bool.Decides.{nat_tests}
use Rattle.std.proofs.lemmas.List.{length-append, length-replicate, append-nil, replicate-append-replicate}
use Rattle.std.proofs.lemmas.List.Elements.{All-nil, All-cons}
use Rattle.model.specs.declared.entities.Entity.{Entity}
use Rattle.model.specs.Lists.{has, map_index, update_at, tail_of}
use Rattle.model.specs.state.State.{Slot, fresh_slot, is_vacant, most_indices, is_living}
use Rattle.model.specs.state.Ids.{vacant_from, vacant_indices, with_room, has_ids, id_at, least_vacant, granted_ids, granted_slot, grant}
use Rattle.model.proofs.lists.Lists.{map_index-id, length-map_index, get_or-append_replicate}
use Rattle.model.proofs.lists.Each.{each-at}
use Rattle.model.proofs.shape.Slots.{vacant-living as vacant_lives, length-vacant_fresh}
use Rattle.entity_table.specs.Ids.{lives_at, IsGranted, AreApart}

-- ---- words

-- the slots with the first n vacant ones granted
abbrev pub first_granted : ℕ → List Slot → List Slot
first_granted n [] = []
first_granted zero (s ∷ ss) = s ∷ ss
first_granted (suc n) (s ∷ ss) = cond (is_vacant s.status) (granted_slot s ∷ first_granted n ss) (s ∷ first_granted (suc n) ss)

-- the ids of the first n vacant slots, where the first slot has this index
abbrev pub first_ids : ℕ → ℕ → List Slot → List Entity
first_ids index n [] = []
first_ids index zero (s ∷ ss) = []
first_ids index (suc n) (s ∷ ss) = cond (is_vacant s.status)
    (record { index = index; generation = s.generation } ∷ first_ids (suc index) n ss)
    (first_ids (suc index) (suc n) ss)

-- ---- vacant indices

-- those of two lists, one after the other
pub vacant_from-append : (b : ℕ) (xs ys : List Slot) → vacant_from b (xs ++ ys) ≡ vacant_from b xs ++ vacant_from (b + length xs) ys
vacant_from-append b [] ys = ap (λ k. vacant_from k ys) (let e : b ≡ b + 0 = omega arith in e)
vacant_from-append b (x ∷ xs) ys = go (is_vacant x.status) (vacant_from-append (suc b) xs ys ∙ ap (λ k. vacant_from (suc b) xs ++ vacant_from k ys) (let e : suc b + length xs ≡ b + suc (length xs) = omega arith in e))
  where
    go : (v : Bool) → vacant_from (suc b) (xs ++ ys) ≡ vacant_from (suc b) xs ++ vacant_from (b + suc (length xs)) ys →
        cond v (b ∷ vacant_from (suc b) (xs ++ ys)) (vacant_from (suc b) (xs ++ ys)) ≡ cond v (b ∷ vacant_from (suc b) xs) (vacant_from (suc b) xs) ++ vacant_from (b + suc (length xs)) ys
    go true e = ap (◌∷◌ b) e
    go false e = e

length-vacant_room : (n : ℕ) (xs : List Slot) → length (vacant_indices (xs ++ replicate n fresh_slot)) ≡ length (vacant_indices xs) + n
length-vacant_room n xs =
    ap length (vacant_from-append 0 xs (replicate n fresh_slot)) ∙ length-append (vacant_indices xs) (vacant_from (0 + length xs) (replicate n fresh_slot))
    ∙ ap (λ k. length (vacant_indices xs) + k) (length-vacant_fresh (0 + length xs) n)

-- ---- the first vacant slots

first_granted-zero : (xs : List Slot) → first_granted 0 xs ≡ xs
first_granted-zero [] = refl
first_granted-zero (x ∷ xs) = refl

first_ids-zero : (b : ℕ) (xs : List Slot) → first_ids b 0 xs ≡ []
first_ids-zero b [] = refl
first_ids-zero b (x ∷ xs) = refl

-- where the first slot is vacant, and where it isn't
granted_here : (m : ℕ) (x : Slot) (xs : List Slot) → is_vacant x.status ≡ true → first_granted (suc m) (x ∷ xs) ≡ granted_slot x ∷ first_granted m xs
granted_here m x xs v = cond-true (is_vacant x.status) (granted_slot x ∷ first_granted m xs) (x ∷ first_granted (suc m) xs) v

granted_later : (m : ℕ) (x : Slot) (xs : List Slot) → is_vacant x.status ≡ false → first_granted m (x ∷ xs) ≡ x ∷ first_granted m xs
granted_later zero x xs v = ap (◌∷◌ x) (sym (first_granted-zero xs))
granted_later (suc m) x xs v = cond-false (is_vacant x.status) (granted_slot x ∷ first_granted m xs) (x ∷ first_granted (suc m) xs) v

ids_here : (b m : ℕ) (x : Slot) (xs : List Slot) → is_vacant x.status ≡ true → first_ids b (suc m) (x ∷ xs) ≡ record { index = b; generation = x.generation } ∷ first_ids (suc b) m xs
ids_here b m x xs v = cond-true (is_vacant x.status) (record { index = b; generation = x.generation } ∷ first_ids (suc b) m xs) (first_ids (suc b) (suc m) xs) v

ids_later : (b m : ℕ) (x : Slot) (xs : List Slot) → is_vacant x.status ≡ false → first_ids b m (x ∷ xs) ≡ first_ids (suc b) m xs
ids_later b zero x xs v = sym (first_ids-zero (suc b) xs)
ids_later b (suc m) x xs v = cond-false (is_vacant x.status) (record { index = b; generation = x.generation } ∷ first_ids (suc b) m xs) (first_ids (suc b) (suc m) xs) v

vacant_here : (b : ℕ) (x : Slot) (xs : List Slot) → is_vacant x.status ≡ true → vacant_from b (x ∷ xs) ≡ b ∷ vacant_from (suc b) xs
vacant_here b x xs v = cond-true (is_vacant x.status) (b ∷ vacant_from (suc b) xs) (vacant_from (suc b) xs) v

vacant_later : (b : ℕ) (x : Slot) (xs : List Slot) → is_vacant x.status ≡ false → vacant_from b (x ∷ xs) ≡ vacant_from (suc b) xs
vacant_later b x xs v = cond-false (is_vacant x.status) (b ∷ vacant_from (suc b) xs) (vacant_from (suc b) xs) v

-- the first one, and then the others
first_granted-suc : (m : ℕ) (xs : List Slot) → first_granted (suc m) xs ≡ first_granted m (first_granted 1 xs)
first_granted-suc m [] = refl
first_granted-suc m (x ∷ xs) = go (is_vacant x.status) refl (first_granted-suc m xs)
  where
    go : (v : Bool) → is_vacant x.status ≡ v → first_granted (suc m) xs ≡ first_granted m (first_granted 1 xs) → first_granted (suc m) (x ∷ xs) ≡ first_granted m (first_granted 1 (x ∷ xs))
    go true e rest = granted_here m x xs e ∙ sym (granted_later m (granted_slot x) xs refl)
        ∙ ap (λ ys. first_granted m (granted_slot x ∷ ys)) (sym (first_granted-zero xs)) ∙ ap (first_granted m) (sym (granted_here 0 x xs e))
    go false e rest = granted_later (suc m) x xs e ∙ ap (◌∷◌ x) rest ∙ sym (granted_later m x (first_granted 1 xs) e) ∙ ap (first_granted m) (sym (granted_later 1 x xs e))

first_ids-suc : (b m : ℕ) (xs : List Slot) → first_ids b (suc m) xs ≡ first_ids b 1 xs ++ first_ids b m (first_granted 1 xs)
first_ids-suc b m [] = refl
first_ids-suc b m (x ∷ xs) = go (is_vacant x.status) refl (first_ids-suc (suc b) m xs)
  where
    go : (v : Bool) → is_vacant x.status ≡ v → first_ids (suc b) (suc m) xs ≡ first_ids (suc b) 1 xs ++ first_ids (suc b) m (first_granted 1 xs) → first_ids b (suc m) (x ∷ xs) ≡ first_ids b 1 (x ∷ xs) ++ first_ids b m (first_granted 1 (x ∷ xs))
    go true e rest = ids_here b m x xs e ∙ sym (ap₂ (λ ids ys. ids ++ first_ids b m ys) (ids_here b 0 x xs e) (granted_here 0 x xs e)
        ∙ ap₂ (λ ids ys. (record { index = b; generation = x.generation } ∷ ids) ++ first_ids b m (granted_slot x ∷ ys)) (first_ids-zero (suc b) xs) (first_granted-zero xs)
        ∙ ap (◌∷◌ (record { index = b; generation = x.generation })) (ids_later b m (granted_slot x) xs refl))
    go false e rest = ids_later b (suc m) x xs e ∙ rest ∙ sym (ap₂ (λ ids ys. ids ++ first_ids b m ys) (ids_later b 1 x xs e) (granted_later 1 x xs e)
        ∙ ap (λ ids. first_ids (suc b) 1 xs ++ ids) (ids_later b m x (first_granted 1 xs) e))

-- what comes after a vacant slot doesn't tell which is the first
first_granted-append : (b : ℕ) (xs ys : List Slot) → 0 < length (vacant_from b xs) → first_granted 1 (xs ++ ys) ≡ first_granted 1 xs ++ ys
first_granted-append b [] ys l = absurd (omega arith)
first_granted-append b (x ∷ xs) ys l = go (is_vacant x.status) refl (λ k. first_granted-append (suc b) xs ys k)
  where
    go : (v : Bool) → is_vacant x.status ≡ v → (0 < length (vacant_from (suc b) xs) → first_granted 1 (xs ++ ys) ≡ first_granted 1 xs ++ ys) → first_granted 1 (x ∷ (xs ++ ys)) ≡ first_granted 1 (x ∷ xs) ++ ys
    go true e rest = granted_here 0 x (xs ++ ys) e ∙ ap (◌∷◌ (granted_slot x)) (first_granted-zero (xs ++ ys) ∙ ap (λ zs. zs ++ ys) (sym (first_granted-zero xs))) ∙ ap (λ zs. zs ++ ys) (sym (granted_here 0 x xs e))
    go false e rest =
        let left : 0 < length (vacant_from (suc b) xs) = omega (arith, ap length (vacant_later b x xs e), l) in
        granted_later 1 x (xs ++ ys) e ∙ ap (◌∷◌ x) (rest left) ∙ ap (λ zs. zs ++ ys) (sym (granted_later 1 x xs e))

first_ids-append : (b : ℕ) (xs ys : List Slot) → 0 < length (vacant_from b xs) → first_ids b 1 (xs ++ ys) ≡ first_ids b 1 xs
first_ids-append b [] ys l = absurd (omega arith)
first_ids-append b (x ∷ xs) ys l = go (is_vacant x.status) refl (λ k. first_ids-append (suc b) xs ys k)
  where
    go : (v : Bool) → is_vacant x.status ≡ v → (0 < length (vacant_from (suc b) xs) → first_ids (suc b) 1 (xs ++ ys) ≡ first_ids (suc b) 1 xs) → first_ids b 1 (x ∷ (xs ++ ys)) ≡ first_ids b 1 (x ∷ xs)
    go true e rest = ids_here b 0 x (xs ++ ys) e ∙ ap (◌∷◌ (record { index = b; generation = x.generation })) (first_ids-zero (suc b) (xs ++ ys) ∙ sym (first_ids-zero (suc b) xs)) ∙ sym (ids_here b 0 x xs e)
    go false e rest =
        let left : 0 < length (vacant_from (suc b) xs) = omega (arith, ap length (vacant_later b x xs e), l) in
        ids_later b 1 x (xs ++ ys) e ∙ rest left ∙ sym (ids_later b 1 x xs e)

-- once the first one is granted it is vacant no more
vacant_from-first : (b : ℕ) (xs : List Slot) → vacant_from b (first_granted 1 xs) ≡ tail_of (vacant_from b xs)
vacant_from-first b [] = refl
vacant_from-first b (x ∷ xs) = go (is_vacant x.status) refl (vacant_from-first (suc b) xs)
  where
    go : (v : Bool) → is_vacant x.status ≡ v → vacant_from (suc b) (first_granted 1 xs) ≡ tail_of (vacant_from (suc b) xs) → vacant_from b (first_granted 1 (x ∷ xs)) ≡ tail_of (vacant_from b (x ∷ xs))
    go true e rest = ap (vacant_from b) (granted_here 0 x xs e) ∙ ap (vacant_from (suc b)) (first_granted-zero xs) ∙ ap tail_of (sym (vacant_here b x xs e))
    go false e rest = ap (vacant_from b) (granted_later 1 x xs e) ∙ vacant_later b x (first_granted 1 xs) e ∙ rest ∙ ap tail_of (sym (vacant_later b x xs e))

length-tail_of : (ns : List ℕ) → length (tail_of ns) ≡ length ns - 1
length-tail_of [] = refl
length-tail_of (n ∷ ns) = omega arith

-- ---- a grant is that of the first vacant slots

has_nil : (c n : ℕ) → has c (take n (let none : List ℕ = [] in none)) ≡ false
has_nil c zero = refl
has_nil c (suc n) = refl

other : (c b : ℕ) (r : Bool) → c < b → r ≡ false → ((b == c) || r) ≡ false
other c b r l h = grind (arith, nat_tests)

has_step : (v : Bool) (c b n : ℕ) (r : List ℕ) → c < b → ((k : ℕ) → has c (take k r) ≡ false) → has c (take n (cond v (b ∷ r) r)) ≡ false
has_step true c b zero r l h = refl
has_step true c b (suc n) r l h = other c b _ l (h n)
has_step false c b n r l h = h n

-- an index below those looked at is not among the vacant ones
has-vacant_from : (c b n : ℕ) (xs : List Slot) → c < b → has c (take n (vacant_from b xs)) ≡ false
has-vacant_from c b n [] l = has_nil c n
has-vacant_from c b n (x ∷ xs) l =
    has_step (is_vacant x.status) c b n (vacant_from (suc b) xs) l (λ k. has-vacant_from c (suc b) k xs (omega arith))

first_is : (b : ℕ) (r : Bool) → ((b == (b + 0)) || r) ≡ true
first_is b r = grind (arith, nat_tests)

later_is : (b i : ℕ) (r : Bool) → ((b == (b + suc i)) || r) ≡ r
later_is b i r = grind (arith, nat_tests)

granted_by : (v : Bool) (n b : ℕ) (x : Slot) (xs : List Slot) (f : ℕ → Slot → Slot) →
    ((i : ℕ) (s : Slot) → f i s ≡ cond (has (b + i) (take (suc n) (cond v (b ∷ vacant_from (suc b) xs) (vacant_from (suc b) xs)))) (granted_slot s) s) →
    ((g : ℕ → Slot → Slot) → ((i : ℕ) (s : Slot) → g i s ≡ cond (has (suc b + i) (take n (vacant_from (suc b) xs))) (granted_slot s) s) → map_index g xs ≡ first_granted n xs) →
    ((g : ℕ → Slot → Slot) → ((i : ℕ) (s : Slot) → g i s ≡ cond (has (suc b + i) (take (suc n) (vacant_from (suc b) xs))) (granted_slot s) s) → map_index g xs ≡ first_granted (suc n) xs) →
    f 0 x ∷ map_index (λ i. f (suc i)) xs ≡ cond v (granted_slot x ∷ first_granted n xs) (x ∷ first_granted (suc n) xs)
granted_by true n b x xs f h few all = ap₂ ◌∷◌
    (h 0 x ∙ ap (λ t. cond t (granted_slot x) x) (first_is b (has (b + 0) (take n (vacant_from (suc b) xs)))))
    (few (λ i. f (suc i)) (λ i s. h (suc i) s ∙ ap (λ t. cond t (granted_slot s) s) (later_is b i _ ∙ ap (λ k. has k (take n (vacant_from (suc b) xs))) (let e : b + suc i ≡ suc b + i = omega arith in e))))
granted_by false n b x xs f h few all = ap₂ ◌∷◌
    (h 0 x ∙ ap (λ t. cond t (granted_slot x) x) (has-vacant_from (b + 0) (suc b) (suc n) xs (omega arith)))
    (all (λ i. f (suc i)) (λ i s. h (suc i) s ∙ ap (λ k. cond (has k (take (suc n) (vacant_from (suc b) xs))) (granted_slot s) s) (let e : b + suc i ≡ suc b + i = omega arith in e)))

ids_by : (v : Bool) (n b : ℕ) (x : Slot) (xs ys : List Slot) → (get_or ys b fresh_slot).generation ≡ x.generation →
    map (id_at ys) (take n (vacant_from (suc b) xs)) ≡ first_ids (suc b) n xs →
    map (id_at ys) (take (suc n) (vacant_from (suc b) xs)) ≡ first_ids (suc b) (suc n) xs →
    map (id_at ys) (take (suc n) (cond v (b ∷ vacant_from (suc b) xs) (vacant_from (suc b) xs))) ≡ cond v (record { index = b; generation = x.generation } ∷ first_ids (suc b) n xs) (first_ids (suc b) (suc n) xs)
ids_by true n b x xs ys e few all = ap₂ ◌∷◌ (ap (λ g. let id : Entity = record { index = b; generation = g } in id) e) few
ids_by false n b x xs ys e few all = all

-- granting the named indices is granting the first vacant slots
map_index-granted : (n b : ℕ) (xs : List Slot) (f : ℕ → Slot → Slot) → ((i : ℕ) (s : Slot) → f i s ≡ cond (has (b + i) (take n (vacant_from b xs))) (granted_slot s) s) → map_index f xs ≡ first_granted n xs
map_index-granted n b [] f h = refl
map_index-granted zero b (x ∷ xs) f h = map_index-id f fresh_slot (x ∷ xs) (λ i. h i (get_or (x ∷ xs) i fresh_slot))
map_index-granted (suc n) b (x ∷ xs) f h = granted_by (is_vacant x.status) n b x xs f h
    (λ g k. map_index-granted n (suc b) xs g k) (λ g k. map_index-granted (suc n) (suc b) xs g k)

-- the ids of the named indices are those of the first vacant slots
map-id_at : (n b : ℕ) (xs ys : List Slot) → ((i : ℕ) → get_or ys (b + i) fresh_slot ≡ get_or xs i fresh_slot) → map (id_at ys) (take n (vacant_from b xs)) ≡ first_ids b n xs
map-id_at zero b [] ys h = refl
map-id_at (suc n) b [] ys h = refl
map-id_at zero b (x ∷ xs) ys h = refl
map-id_at (suc n) b (x ∷ xs) ys h = ids_by (is_vacant x.status) n b x xs ys (ap (λ s. s.generation) (ap (λ k. get_or ys k fresh_slot) (let e : b ≡ b + 0 = omega arith in e) ∙ h 0))
    (map-id_at n (suc b) xs ys (λ i. ap (λ k. get_or ys k fresh_slot) (let e : suc b + i ≡ b + suc i = omega arith in e) ∙ h (suc i)))
    (map-id_at (suc n) (suc b) xs ys (λ i. ap (λ k. get_or ys k fresh_slot) (let e : suc b + i ≡ b + suc i = omega arith in e) ∙ h (suc i)))

pub grant-is : (n : ℕ) (xs : List Slot) → grant n xs ≡ first_granted n (with_room n xs)
unfolding grant
grant-is n xs = map_index-granted n 0 (with_room n xs) _ (λ i s. ap (λ k. cond (has k (least_vacant n xs)) (granted_slot s) s) (let e : i ≡ 0 + i = omega arith in e))

pub granted_ids-is : (n : ℕ) (xs : List Slot) → granted_ids n xs ≡ first_ids 0 n (with_room n xs)
unfolding granted_ids
granted_ids-is n xs = map-id_at n 0 (with_room n xs) (with_room n xs) (λ i. ap (λ k. get_or (with_room n xs) k fresh_slot) (let e : 0 + i ≡ i = omega arith in e))

-- ---- one id after the other

-- the room for one more
with_room-suc : (m : ℕ) (xs : List Slot) → with_room (suc m) xs ≡ with_room 1 xs ++ replicate (m - (length (vacant_indices (with_room 1 xs)) - 1)) fresh_slot
unfolding with_room
with_room-suc m xs =
    let vacant = length (vacant_indices xs) in
    let count : suc m - vacant ≡ (1 - vacant) + (m - (length (vacant_indices (xs ++ replicate (1 - vacant) fresh_slot)) - 1)) = omega (arith, length-vacant_room (1 - vacant) xs) in
    ap (λ k. xs ++ replicate k fresh_slot) count
    ∙ ap (λ ys. xs ++ ys) (sym (replicate-append-replicate (1 - vacant) (m - (length (vacant_indices (xs ++ replicate (1 - vacant) fresh_slot)) - 1)) fresh_slot))
    ∙ sym (append_assoc xs (replicate (1 - vacant) fresh_slot) (replicate (m - (length (vacant_indices (xs ++ replicate (1 - vacant) fresh_slot)) - 1)) fresh_slot))

-- with room for one, one is vacant
vacant-with_room : (xs : List Slot) → 0 < length (vacant_indices (with_room 1 xs))
unfolding with_room
vacant-with_room xs = omega (arith, length-vacant_room (1 - length (vacant_indices xs)) xs)

-- the room for others after one is granted
with_room-granted : (m : ℕ) (xs : List Slot) → with_room m (grant 1 xs) ≡ first_granted 1 (with_room (suc m) xs)
unfolding with_room
with_room-granted m xs =
    let one = with_room 1 xs in
    let others = replicate (m - (length (vacant_indices one) - 1)) fresh_slot in
    ap (with_room m) (grant-is 1 xs)
    ∙ ap (λ k. first_granted 1 one ++ replicate (m - k) fresh_slot) (ap length (vacant_from-first 0 one) ∙ length-tail_of (vacant_indices one))
    ∙ sym (first_granted-append 0 one others (vacant-with_room xs))
    ∙ ap (first_granted 1) (sym (with_room-suc m xs))

-- one is granted, and then the others
pub grant-suc : (m : ℕ) (xs : List Slot) → grant (suc m) xs ≡ grant m (grant 1 xs)
grant-suc m xs = grant-is (suc m) xs ∙ first_granted-suc m (with_room (suc m) xs) ∙ ap (first_granted m) (sym (with_room-granted m xs)) ∙ sym (grant-is m (grant 1 xs))

pub granted_ids-suc : (m : ℕ) (xs : List Slot) → granted_ids (suc m) xs ≡ granted_ids 1 xs ++ granted_ids m (grant 1 xs)
granted_ids-suc m xs =
    let one = with_room 1 xs in
    let others = replicate (m - (length (vacant_indices one) - 1)) fresh_slot in
    granted_ids-is (suc m) xs ∙ first_ids-suc 0 m (with_room (suc m) xs)
    ∙ ap₂ (λ ids ys. ids ++ first_ids 0 m ys)
    (ap (first_ids 0 1) (with_room-suc m xs) ∙ first_ids-append 0 one others (vacant-with_room xs) ∙ sym (granted_ids-is 1 xs))
    (sym (with_room-granted m xs))
    ∙ ap (λ ids. granted_ids 1 xs ++ ids) (sym (granted_ids-is m (grant 1 xs)))

-- ---- one id

-- what the grant of the first vacant index is
pub record GrantsFirst (b : ℕ) (xs : List Slot) (x : ℕ) (rest : List ℕ) : Type 0 where
  pub at : ℕ
  pub is : x ≡ b + at
  pub within : at < length xs
  pub vacant : is_vacant (get_or xs at fresh_slot).status ≡ true
  pub granted : first_granted 1 xs ≡ update_at at granted_slot xs
  pub ids : first_ids b 1 xs ≡ record { index = x; generation = (get_or xs at fresh_slot).generation } ∷ []
  pub left : vacant_from b (update_at at granted_slot xs) ≡ rest

grants_first : (b : ℕ) (xs : List Slot) (x : ℕ) (rest : List ℕ) → vacant_from b xs ≡ x ∷ rest → GrantsFirst b xs x rest
grants_first b [] x rest h = absurd (cc)
grants_first b (s ∷ ss) x rest h = go (is_vacant s.status) refl (λ e. grants_first (suc b) ss x rest e)
  where
    go : (v : Bool) → is_vacant s.status ≡ v → (vacant_from (suc b) ss ≡ x ∷ rest → GrantsFirst (suc b) ss x rest) → GrantsFirst b (s ∷ ss) x rest
    go true e f =
        let same : b ∷ vacant_from (suc b) ss ≡ x ∷ rest = sym (vacant_here b s ss e) ∙ h in
        let first : b ≡ x = cc in
        record {
          at = 0;
          is = omega arith;
          within = omega arith;
          vacant = e;
          granted = granted_here 0 s ss e ∙ ap (◌∷◌ (granted_slot s)) (first_granted-zero ss);
          ids = ids_here b 0 s ss e ∙ ap₂ (λ k ids. record { index = k; generation = s.generation } ∷ ids) first (first_ids-zero (suc b) ss);
          left = cc;
        }
    go false e f =
        let r : GrantsFirst (suc b) ss x rest = f (sym (vacant_later b s ss e) ∙ h) in
        let is = r.is in
        let within = r.within in
        record {
          at = suc r.at;
          is = omega arith;
          within = omega arith;
          vacant = r.vacant;
          granted = granted_later 1 s ss e ∙ ap (◌∷◌ s) r.granted;
          ids = ids_later b 1 s ss e ∙ r.ids;
          left = vacant_later b s (update_at r.at granted_slot ss) e ∙ r.left;
        }

-- what the grant of one id is, where x is the least vacant index
pub record GrantsLeast (xs : List Slot) (x : ℕ) (rest : List ℕ) : Type 0 where
  pub within : x < length xs
  pub vacant : is_vacant (get_or xs x fresh_slot).status ≡ true
  pub granted : grant 1 xs ≡ update_at x granted_slot xs
  pub ids : granted_ids 1 xs ≡ record { index = x; generation = (get_or xs x fresh_slot).generation } ∷ []
  pub left : vacant_indices (grant 1 xs) ≡ rest

room_there : (xs : List Slot) → 0 < length (vacant_indices xs) → with_room 1 xs ≡ xs
unfolding with_room
room_there xs l = ap (λ k. xs ++ replicate k fresh_slot) (let e : 1 - length (vacant_indices xs) ≡ 0 = omega arith in e) ∙ append-nil xs

pub grants_least : (xs : List Slot) (x : ℕ) (rest : List ℕ) → vacant_indices xs ≡ x ∷ rest → GrantsLeast xs x rest
grants_least xs x rest h =
    let r : GrantsFirst 0 xs x rest = grants_first 0 xs x rest h in
    let same : r.at ≡ x = (let e = r.is in omega arith) in
    let within = r.within in
    let room : with_room 1 xs ≡ xs = room_there xs (omega (arith, ap length h)) in
    let granted : grant 1 xs ≡ update_at r.at granted_slot xs = grant-is 1 xs ∙ ap (first_granted 1) room ∙ r.granted in
    record {
      within = omega arith;
      vacant = ap (λ k. is_vacant (get_or xs k fresh_slot).status) (sym same) ∙ r.vacant;
      granted = granted ∙ ap (λ k. update_at k granted_slot xs) same;
      ids = granted_ids-is 1 xs ∙ ap (first_ids 0 1) room ∙ r.ids ∙ ap (λ k. record { index = x; generation = (get_or xs k fresh_slot).generation } ∷ []) same;
      left = ap vacant_indices granted ∙ r.left;
    }

-- what the grant of one id is, where no index is vacant
pub record GrantsNext (xs : List Slot) : Type 0 where
  pub granted : grant 1 xs ≡ xs ++ granted_slot fresh_slot ∷ []
  pub ids : granted_ids 1 xs ≡ record { index = length xs; generation = 1 } ∷ []
  pub left : vacant_indices (grant 1 xs) ≡ []

first_granted-past : (b : ℕ) (xs ys : List Slot) → vacant_from b xs ≡ [] → first_granted 1 (xs ++ ys) ≡ xs ++ first_granted 1 ys
first_granted-past b [] ys h = refl
first_granted-past b (x ∷ xs) ys h = go (is_vacant x.status) refl (λ k. first_granted-past (suc b) xs ys k)
  where
    go : (v : Bool) → is_vacant x.status ≡ v → (vacant_from (suc b) xs ≡ [] → first_granted 1 (xs ++ ys) ≡ xs ++ first_granted 1 ys) → first_granted 1 (x ∷ (xs ++ ys)) ≡ x ∷ (xs ++ first_granted 1 ys)
    go true e rest = absurd (omega (arith, ap length (sym (vacant_here b x xs e) ∙ h)))
    go false e rest = granted_later 1 x (xs ++ ys) e ∙ ap (◌∷◌ x) (rest (sym (vacant_later b x xs e) ∙ h))

first_ids-past : (b : ℕ) (xs ys : List Slot) → vacant_from b xs ≡ [] → first_ids b 1 (xs ++ ys) ≡ first_ids (b + length xs) 1 ys
first_ids-past b [] ys h = ap (λ k. first_ids k 1 ys) (let e : b ≡ b + 0 = omega arith in e)
first_ids-past b (x ∷ xs) ys h = go (is_vacant x.status) refl (λ k. first_ids-past (suc b) xs ys k)
  where
    go : (v : Bool) → is_vacant x.status ≡ v → (vacant_from (suc b) xs ≡ [] → first_ids (suc b) 1 (xs ++ ys) ≡ first_ids (suc b + length xs) 1 ys) → first_ids b 1 (x ∷ (xs ++ ys)) ≡ first_ids (b + suc (length xs)) 1 ys
    go true e rest = absurd (omega (arith, ap length (sym (vacant_here b x xs e) ∙ h)))
    go false e rest = ids_later b 1 x (xs ++ ys) e ∙ rest (sym (vacant_later b x xs e) ∙ h) ∙ ap (λ k. first_ids k 1 ys) (let e : suc b + length xs ≡ b + suc (length xs) = omega arith in e)

pub grants_next : (xs : List Slot) → vacant_indices xs ≡ [] → GrantsNext xs
unfolding with_room
grants_next xs h =
    let room : with_room 1 xs ≡ xs ++ fresh_slot ∷ [] = ap (λ ns. xs ++ replicate (1 - length ns) fresh_slot) h in
    let granted : grant 1 xs ≡ xs ++ granted_slot fresh_slot ∷ [] = grant-is 1 xs ∙ ap (first_granted 1) room ∙ first_granted-past 0 xs (fresh_slot ∷ []) h in
    record {
      granted = granted;
      ids = granted_ids-is 1 xs ∙ ap (first_ids 0 1) room ∙ first_ids-past 0 xs (fresh_slot ∷ []) h ∙ ap (λ k. record { index = k; generation = 1 } ∷ []) (let e : 0 + length xs ≡ length xs = omega arith in e);
      left = ap vacant_indices granted ∙ vacant_from-append 0 xs (granted_slot fresh_slot ∷ []) ∙ append-nil (vacant_indices xs) ∙ h;
    }

-- ---- whether there are ids

pub has_ids-is : (n : ℕ) (xs : List Slot) → has_ids n xs ≡ nat_le (length xs + (n - length (vacant_indices xs))) most_indices
unfolding has_ids with_room
has_ids-is n xs = ap (λ k. nat_le k most_indices) (length-append xs _ ∙ ap (λ k. length xs + k) (length-replicate (n - length (vacant_indices xs)) fresh_slot))

pub has_ids-false : (n : ℕ) (xs : List Slot) → most_indices < length xs + (n - length (vacant_indices xs)) → has_ids n xs ≡ false
has_ids-false n xs l = has_ids-is n xs ∙ lt-leb (length xs + (n - length (vacant_indices xs))) most_indices l

pub has_ids-true : (n : ℕ) (xs : List Slot) → length xs + (n - length (vacant_indices xs)) ≤ most_indices → has_ids n xs ≡ true
has_ids-true n xs l = has_ids-is n xs ∙ le-leb (length xs + (n - length (vacant_indices xs))) most_indices l

-- how many slots a grant leaves
pub length-grant : (n : ℕ) (xs : List Slot) → length (grant n xs) ≡ length xs + (n - length (vacant_indices xs))
unfolding grant with_room
length-grant n xs =
    length-map_index (λ index slot. cond (has index (least_vacant n xs)) (granted_slot slot) slot) (with_room n xs)
    ∙ length-append xs (replicate (n - length (vacant_indices xs)) fresh_slot)
    ∙ ap (λ k. length xs + k) (length-replicate (n - length (vacant_indices xs)) fresh_slot)

-- ---- what a grant gives is granted

granted_of : (v : Bool) (n b : ℕ) (x : Slot) (xs zs : List Slot) →
    ((i : ℕ) → get_or zs (b + i) fresh_slot ≡ get_or (cond v (granted_slot x ∷ first_granted n xs) (x ∷ first_granted (suc n) xs)) i fresh_slot) →
    (((i : ℕ) → get_or zs (suc b + i) fresh_slot ≡ get_or (first_granted n xs) i fresh_slot) → All (IsGranted zs) (first_ids (suc b) n xs)) →
    (((i : ℕ) → get_or zs (suc b + i) fresh_slot ≡ get_or (first_granted (suc n) xs) i fresh_slot) → All (IsGranted zs) (first_ids (suc b) (suc n) xs)) →
    All (IsGranted zs) (cond v (record { index = b; generation = x.generation } ∷ first_ids (suc b) n xs) (first_ids (suc b) (suc n) xs))
granted_of true n b x xs zs h few all =
    let here : get_or zs b fresh_slot ≡ granted_slot x = ap (λ k. get_or zs k fresh_slot) (let e : b ≡ b + 0 = omega arith in e) ∙ h 0 in
    All-cons (IsGranted zs) _ _ (record { status = ap (λ s. s.status) here; generation = ap (λ s. s.generation) here })
    (few (λ i. ap (λ k. get_or zs k fresh_slot) (let e : suc b + i ≡ b + suc i = omega arith in e) ∙ h (suc i)))
granted_of false n b x xs zs h few all = all (λ i. ap (λ k. get_or zs k fresh_slot) (let e : suc b + i ≡ b + suc i = omega arith in e) ∙ h (suc i))

ids-granted : (n b : ℕ) (xs zs : List Slot) → ((i : ℕ) → get_or zs (b + i) fresh_slot ≡ get_or (first_granted n xs) i fresh_slot) → All (IsGranted zs) (first_ids b n xs)
ids-granted n b [] zs h = All-nil (IsGranted zs)
ids-granted zero b (x ∷ xs) zs h = All-nil (IsGranted zs)
ids-granted (suc n) b (x ∷ xs) zs h = granted_of (is_vacant x.status) n b x xs zs h (ids-granted n (suc b) xs zs) (ids-granted (suc n) (suc b) xs zs)

pub granted-each : (n : ℕ) (xs : List Slot) → All (IsGranted (grant n xs)) (granted_ids n xs)
granted-each n xs = rw (grant-is n xs, granted_ids-is n xs) (ids-granted n 0 (with_room n xs) (first_granted n (with_room n xs)) (λ i. ap (λ k. get_or (first_granted n (with_room n xs)) k fresh_slot) (let e : 0 + i ≡ i = omega arith in e)))

-- ---- who lives

lives-first_granted : (n : ℕ) (xs : List Slot) (i : ℕ) → lives_at (first_granted n xs) i ≡ lives_at xs i
lives-first_granted n [] i = refl
lives-first_granted zero (x ∷ xs) i = refl
lives-first_granted (suc n) (x ∷ xs) i = go (is_vacant x.status) refl i (lives-first_granted n xs) (lives-first_granted (suc n) xs)
  where
    go : (v : Bool) → is_vacant x.status ≡ v → (j : ℕ) → ((k : ℕ) → lives_at (first_granted n xs) k ≡ lives_at xs k) → ((k : ℕ) → lives_at (first_granted (suc n) xs) k ≡ lives_at xs k) →
        lives_at (cond v (granted_slot x ∷ first_granted n xs) (x ∷ first_granted (suc n) xs)) j ≡ lives_at (x ∷ xs) j
    go true e zero few all = sym (vacant_lives x.status e)
    go true e (suc j) few all = few j
    go false e zero few all = refl
    go false e (suc j) few all = all j

-- a grant lets nobody live or die
pub lives_at-grant : (n : ℕ) (xs : List Slot) (i : ℕ) → lives_at (grant n xs) i ≡ lives_at xs i
unfolding with_room
lives_at-grant n xs i =
    ap (λ ys. lives_at ys i) (grant-is n xs) ∙ lives-first_granted n (with_room n xs) i
    ∙ ap (λ (s : Slot). is_living s.status) (get_or-append_replicate xs (n - length (vacant_indices xs)) i fresh_slot)

-- ---- no id is granted twice

not_below : (b c n : ℕ) (xs : List Slot) → b ≤ c → AllByRecursion (λ (e : Entity). b ≤ e.index) (first_ids c n xs)
not_below b c n [] l = tt
not_below b c zero (x ∷ xs) l = tt
not_below b c (suc n) (x ∷ xs) l = cond_both (is_vacant x.status) (record { index = c; generation = x.generation } ∷ first_ids (suc c) n xs) (first_ids (suc c) (suc n) xs)
    (AllByRecursion (λ (e : Entity). b ≤ e.index)) (λ v. (l, not_below b (suc c) n xs (omega arith))) (λ v. not_below b (suc c) (suc n) xs (omega arith))

apart-nil : AreApart []
apart-nil j k d before within same = absurd (omega arith)

apart-cons : (e : Entity) (es : List Entity) → AllByRecursion (λ (x : Entity). suc e.index ≤ x.index) es → AreApart es → AreApart (e ∷ es)
apart-cons e es above h j zero d before within same = absurd (omega arith)
apart-cons e es above h zero (suc k) d before within same =
    let later : suc e.index ≤ (get_or es k d).index = each-at (λ (x : Entity). suc e.index ≤ x.index) es k d (omega arith) above in
    absurd (omega (arith, ap (λ (x : Entity). x.index) same))
apart-cons e es above h (suc j) (suc k) d before within same = h j k d (omega arith) (omega arith) same

ids-apart : (b n : ℕ) (xs : List Slot) → AreApart (first_ids b n xs)
ids-apart b n [] = apart-nil
ids-apart b zero (x ∷ xs) = apart-nil
ids-apart b (suc n) (x ∷ xs) = cond_both (is_vacant x.status) (record { index = b; generation = x.generation } ∷ first_ids (suc b) n xs) (first_ids (suc b) (suc n) xs) AreApart
    (λ v. apart-cons (record { index = b; generation = x.generation }) (first_ids (suc b) n xs) (not_below (suc b) (suc b) n xs (omega arith)) (ids-apart (suc b) n xs))
    (λ v. ids-apart (suc b) (suc n) xs)

pub granted-apart : (n : ℕ) (xs : List Slot) → AreApart (granted_ids n xs)
granted-apart n xs = rw (granted_ids-is n xs) (ids-apart 0 n (with_room n xs))
