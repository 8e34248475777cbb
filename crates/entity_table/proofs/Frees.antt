-- What an index that is freed makes of the vacant ones.
use Rattle.std.proofs.Common.{◌≡◌, ℕ, zero, suc, ◌+◌, ◌<◌, ◌≤◌, Bool, true, false, cond, nat_le, List, [], ◌∷◌, length, get_or, refl, ap, sym, ◌∙◌, arith}
use Rattle.std.proofs.lemmas.Bool.{cond-true, cond-false, cond_both, lt-leb}
use Rattle.model.specs.Lists.{update_at}
use Rattle.model.specs.state.State.{Slot, fresh_slot, is_vacant}
use Rattle.model.specs.state.Ids.{vacant_from}
use Rattle.entity_table.specs.Rising.{insert_rising}
use Rattle.entity_table.proofs.Ascending.{insert_least}
use Rattle.model.proofs.shape.GivenIds.{vacant-above}

-- no more are vacant than there are
pub length-vacant_from : (b : ℕ) (xs : List Slot) → length (vacant_from b xs) ≤ length xs
length-vacant_from b [] = omega arith
length-vacant_from b (x ∷ xs) = let few = length-vacant_from (suc b) xs in
    cond_both (is_vacant x.status) (b ∷ vacant_from (suc b) xs) (vacant_from (suc b) xs) (λ ns. length ns ≤ suc (length xs)) (λ e. omega arith) (λ e. omega arith)

-- where one is not vacant, fewer are vacant than there are
pub length-vacant_lt : (b i : ℕ) (xs : List Slot) → i < length xs → is_vacant (get_or xs i fresh_slot).status ≡ false → length (vacant_from b xs) < length xs
length-vacant_lt b i [] l h = absurd (omega arith)
length-vacant_lt b zero (x ∷ xs) l h = let few = length-vacant_from (suc b) xs in
    omega (arith, ap length (cond-false (is_vacant x.status) (b ∷ vacant_from (suc b) xs) (vacant_from (suc b) xs) h))
length-vacant_lt b (suc i) (x ∷ xs) l h = let few = length-vacant_lt (suc b) i xs (omega arith) h in
    cond_both (is_vacant x.status) (b ∷ vacant_from (suc b) xs) (vacant_from (suc b) xs) (λ ns. length ns < suc (length xs)) (λ e. omega arith) (λ e. omega arith)

-- an index that becomes vacant
pub vacant_from-more : (f : Slot → Slot) (b i : ℕ) (xs : List Slot) → i < length xs → is_vacant (get_or xs i fresh_slot).status ≡ false → is_vacant (f (get_or xs i fresh_slot)).status ≡ true →
    vacant_from b (update_at i f xs) ≡ insert_rising (b + i) (vacant_from b xs)
vacant_from-more f b i [] l h k = absurd (omega arith)
vacant_from-more f b zero (x ∷ xs) l h k =
    cond-true (is_vacant (f x).status) (b ∷ vacant_from (suc b) xs) (vacant_from (suc b) xs) k
    ∙ sym (insert_least b (vacant_from (suc b) xs) (vacant-above b (suc b) xs (omega arith)))
    ∙ ap (λ n. insert_rising n (vacant_from (suc b) xs)) (let e : b ≡ b + 0 = omega arith in e)
    ∙ ap (insert_rising (b + 0)) (sym (cond-false (is_vacant x.status) (b ∷ vacant_from (suc b) xs) (vacant_from (suc b) xs) h))
vacant_from-more f b (suc i) (x ∷ xs) l h k = go (is_vacant x.status)
    (vacant_from-more f (suc b) i xs (omega arith) h k ∙ ap (λ n. insert_rising n (vacant_from (suc b) xs)) (let e : suc b + i ≡ b + suc i = omega arith in e))
  where
    go : (v : Bool) → vacant_from (suc b) (update_at i f xs) ≡ insert_rising (b + suc i) (vacant_from (suc b) xs) →
        cond v (b ∷ vacant_from (suc b) (update_at i f xs)) (vacant_from (suc b) (update_at i f xs)) ≡ insert_rising (b + suc i) (cond v (b ∷ vacant_from (suc b) xs) (vacant_from (suc b) xs))
    go true e = ap (◌∷◌ b) e ∙ sym (cond-false (nat_le (b + suc i) b) ((b + suc i) ∷ b ∷ vacant_from (suc b) xs) (b ∷ insert_rising (b + suc i) (vacant_from (suc b) xs)) (lt-leb (b + suc i) b (omega arith)))
    go false e = e

-- an index that stays vacant or not
pub vacant_from-same : (f : Slot → Slot) (b i : ℕ) (xs : List Slot) → (i < length xs → is_vacant (f (get_or xs i fresh_slot)).status ≡ is_vacant (get_or xs i fresh_slot).status) →
    vacant_from b (update_at i f xs) ≡ vacant_from b xs
vacant_from-same f b i [] h = refl
vacant_from-same f b zero (x ∷ xs) h = ap (λ v. cond v (b ∷ vacant_from (suc b) xs) (vacant_from (suc b) xs)) (h (omega arith))
vacant_from-same f b (suc i) (x ∷ xs) h = ap (λ ns. cond (is_vacant x.status) (b ∷ ns) ns) (vacant_from-same f (suc b) i xs (λ l. h (omega arith)))
