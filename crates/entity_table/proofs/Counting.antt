-- How many entities live, and what a change of one index makes of it.
use Rattle.std.proofs.Common.{◌≡◌, ℕ, zero, suc, ◌<◌, ◌≤◌, Bool, true, false, cond, List, [], ◌∷◌, length, refl, ap, sym, ◌∙◌, arith}
use Rattle.std.proofs.lemmas.Bool.{cond_both, false≢true}
use Rattle.model.specs.Lists.{update_at}
use Rattle.model.specs.state.State.{Slot, is_living, is_granted}
use Rattle.model.specs.state.Ids.{grant}
use Rattle.model.specs.state.Commands.{freed}
use Rattle.entity_table.specs.Ids.{slot_at, lives_at, living_count}
use Rattle.entity_table.proofs.Grants.{lives_at-grant}
use Rattle.entity_table.proofs.Releases.{lives-freed, granted-lives}

-- no more live than there are
pub count-length : (xs : List Slot) → living_count xs ≤ length xs
count-length [] = omega arith
count-length (x ∷ xs) = let few = count-length xs in
    cond_both (is_living x.status) (suc (living_count xs)) (living_count xs) (λ n. n ≤ suc (length xs)) (λ e. omega arith) (λ e. omega arith)

-- where none lives the count is 0
pub count-none : (xs : List Slot) → ((i : ℕ) → lives_at xs i ≡ false) → living_count xs ≡ 0
count-none [] h = refl
count-none (x ∷ xs) h = ap (λ b. cond b (suc (living_count xs)) (living_count xs)) (h zero) ∙ count-none xs (λ i. h (suc i))

-- where it is 0 none lives
pub none-count : (xs : List Slot) (i : ℕ) → living_count xs ≡ 0 → lives_at xs i ≡ false
none-count [] i h = refl
none-count (x ∷ xs) zero h = go (is_living x.status) h
  where
    go : (b : Bool) → cond b (suc (living_count xs)) (living_count xs) ≡ 0 → b ≡ false
    go true f = absurd (omega arith)
    go false f = refl
none-count (x ∷ xs) (suc i) h = none-count xs i (go (is_living x.status) h)
  where
    go : (b : Bool) → cond b (suc (living_count xs)) (living_count xs) ≡ 0 → living_count xs ≡ 0
    go true f = absurd (omega arith)
    go false f = f

-- where the same indices live as many do
pub count-alike : (xs ys : List Slot) → ((i : ℕ) → lives_at xs i ≡ lives_at ys i) → living_count xs ≡ living_count ys
count-alike [] ys h = sym (count-none ys (λ i. sym (h i)))
count-alike (x ∷ xs) [] h = count-none (x ∷ xs) h
count-alike (x ∷ xs) (y ∷ ys) h =
    ap (λ b. cond b (suc (living_count xs)) (living_count xs)) (h zero)
    ∙ ap (λ n. cond (is_living y.status) (suc n) n) (count-alike xs ys (λ i. h (suc i)))

pub count-grant : (n : ℕ) (xs : List Slot) → living_count (grant n xs) ≡ living_count xs
count-grant n xs = count-alike (grant n xs) xs (lives_at-grant n xs)

-- ---- a change of one index

-- one who lived is gone
pub count-less : (f : Slot → Slot) (i : ℕ) (xs : List Slot) → lives_at xs i ≡ true → is_living (f (slot_at xs i)).status ≡ false →
    living_count xs ≡ suc (living_count (update_at i f xs))
count-less f i [] h g = absurd (false≢true h)
count-less f zero (x ∷ xs) h g =
    ap (λ b. cond b (suc (living_count xs)) (living_count xs)) h ∙ ap (λ b. suc (cond b (suc (living_count xs)) (living_count xs))) (sym g)
count-less f (suc i) (x ∷ xs) h g = go (is_living x.status) (count-less f i xs h g)
  where
    go : (b : Bool) → living_count xs ≡ suc (living_count (update_at i f xs)) →
        cond b (suc (living_count xs)) (living_count xs) ≡ suc (cond b (suc (living_count (update_at i f xs))) (living_count (update_at i f xs)))
    go true e = ap suc e
    go false e = e

-- one lives who did not
pub count-more : (f : Slot → Slot) (i : ℕ) (xs : List Slot) → i < length xs → lives_at xs i ≡ false → is_living (f (slot_at xs i)).status ≡ true →
    living_count (update_at i f xs) ≡ suc (living_count xs)
count-more f i [] l h g = absurd (omega arith)
count-more f zero (x ∷ xs) l h g =
    ap (λ b. cond b (suc (living_count xs)) (living_count xs)) g ∙ ap (λ b. suc (cond b (suc (living_count xs)) (living_count xs))) (sym h)
count-more f (suc i) (x ∷ xs) l h g = go (is_living x.status) (count-more f i xs (omega arith) h g)
  where
    go : (b : Bool) → living_count (update_at i f xs) ≡ suc (living_count xs) →
        cond b (suc (living_count (update_at i f xs))) (living_count (update_at i f xs)) ≡ suc (cond b (suc (living_count xs)) (living_count xs))
    go true e = ap suc e
    go false e = e

-- who was granted is gone
pub count-released : (i : ℕ) (xs : List Slot) → is_granted (slot_at xs i).status ≡ true → living_count (update_at i freed xs) ≡ living_count xs
count-released i [] h = refl
count-released zero (x ∷ xs) h =
    ap (λ b. cond b (suc (living_count xs)) (living_count xs)) (lives-freed x ∙ sym (granted-lives (x ∷ xs) zero h))
count-released (suc i) (x ∷ xs) h = ap (λ n. cond (is_living x.status) (suc n) n) (count-released i xs h)
