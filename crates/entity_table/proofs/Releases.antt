-- A release is that of one id after the other, and what stays granted while others are spawned.
use Rattle.std.proofs.Common.{◌≡◌, ◌≢◌, ℕ, suc, ◌+◌, ◌<◌, Bool, true, false, cond, ◌==◌, ◌&&◌, ◌||◌, ◌⊎◌, inl, inr, List, [], ◌∷◌, ◌++◌, length, get_or, take, refl, ap, sym, ◌∙◌, arith}
use Rattle.std.specs.Prelude.{All}
use Rattle.std.proofs.lemmas.Bool.{cond_both, cases_eq, eq-eqb, ne_eqb, or_right, false≢true}
use Rattle.std.proofs.lemmas.List.{ext_get_or, take_more, get_or_append_left, length-append}
use Rattle.std.proofs.lemmas.List.Folds.{list_any-append}
use Rattle.model.specs.declared.entities.Entity.{Entity}
use Rattle.model.specs.Lists.{update_at}
use Rattle.model.specs.state.State.{Slot, fresh_slot, is_granted, last_generation, Status, is_living}
use Rattle.model.specs.state.State.Status.{Vacant, Granted, Living, Retired}
use Rattle.model.specs.state.Commands.{freed, names_index, release}
use Rattle.model.proofs.lists.Lists.{get_or-map_index, length-update_at, get_or-update_at_other}
use Rattle.model.proofs.shape.Slots.{length-release}
use Rattle.entity_table.specs.Ids.{slot_at, lives_at, IsGranted, AreApart}
use Rattle.entity_table.proofs.Edits.{get_or-update_at, update_at-same, update_at-id}
use Rattle.model.proofs.lists.Bools.{or_false}

-- ---- one id after the other

-- what a release makes of an index
released : List Entity → ℕ → Slot → Slot
released ids index slot = cond (is_granted slot.status && names_index index ids) (freed slot) slot

release-at : (ids : List Entity) (xs : List Slot) (i : ℕ) → slot_at (release ids xs) i ≡ released ids i (slot_at xs i)
unfolding release released
release-at ids xs i = get_or-map_index (λ index slot. cond (is_granted slot.status && names_index index ids) (freed slot) slot) xs i fresh_slot refl

names_index-push : (i : ℕ) (ids : List Entity) (e : Entity) → names_index i (ids ++ e ∷ []) ≡ (names_index i ids || ((e.index == i) || false))
names_index-push i ids e = list_any-append (λ x. x.index == i) ids (e ∷ [])

pub freed-granted : (slot : Slot) → is_granted (freed slot).status ≡ false
freed-granted slot = cond_both (slot.generation == last_generation)
    (record { generation = slot.generation; status = Retired; row = [] })
    (record { generation = suc slot.generation; status = Vacant; row = [] }) (λ (s : Slot). is_granted s.status ≡ false) (λ e. refl) (λ e. refl)

-- the change that the release of one id more is
abbrev pub freed_if_granted : Slot → Slot
freed_if_granted slot = cond (is_granted slot.status) (freed slot) slot

released_here : (slot : Slot) (named more : Bool) → more ≡ true →
    cond (is_granted slot.status && more) (freed slot) slot ≡ freed_if_granted (cond (is_granted slot.status && named) (freed slot) slot)
released_here slot named more e = go (is_granted slot.status) named refl ∙ ap (λ m. freed_if_granted (cond (is_granted slot.status && named) (freed slot) slot)) e
  where
    go : (g n : Bool) → is_granted slot.status ≡ g → cond (g && more) (freed slot) slot ≡ freed_if_granted (cond (g && n) (freed slot) slot)
    go true true f = ap (λ m. cond m (freed slot) slot) e ∙ sym (ap (λ b. cond b (freed (freed slot)) (freed slot)) (freed-granted slot))
    go true false f = ap (λ m. cond m (freed slot) slot) e ∙ sym (ap (λ b. cond b (freed slot) slot) f)
    go false n f = sym (ap (λ b. cond b (freed slot) slot) f)

-- the release of one id more
pub release-push : (ids : List Entity) (e : Entity) (xs : List Slot) → release (ids ++ e ∷ []) xs ≡ update_at e.index freed_if_granted (release ids xs)
unfolding released
release-push ids e xs = ext_get_or fresh_slot (release (ids ++ e ∷ []) xs) (update_at e.index freed_if_granted (release ids xs))
    (length-release (ids ++ e ∷ []) xs ∙ sym (length-update_at e.index freed_if_granted (release ids xs) ∙ length-release ids xs))
    (λ i l. go i (let k = length-release (ids ++ e ∷ []) xs in omega arith) (cases_eq e.index i))
  where
    go : (i : ℕ) → i < length xs → (e.index ≡ i) ⊎ (e.index ≡ i → ⊥) → get_or (release (ids ++ e ∷ []) xs) i fresh_slot ≡ get_or (update_at e.index freed_if_granted (release ids xs)) i fresh_slot
    go i l (inl same) =
        let all : names_index i (ids ++ e ∷ []) ≡ true = names_index-push i ids e ∙ or_right (names_index i ids) ((e.index == i) || false) (ap (λ b. b || false) (eq-eqb e.index i same)) in
        release-at (ids ++ e ∷ []) xs i ∙ released_here (slot_at xs i) (names_index i ids) (names_index i (ids ++ e ∷ [])) all
        ∙ ap freed_if_granted (sym (release-at ids xs i))
        ∙ sym (get_or-update_at freed_if_granted (release ids xs) i fresh_slot (let k = length-release ids xs in omega arith))
        ∙ ap (λ k. get_or (update_at k freed_if_granted (release ids xs)) i fresh_slot) (sym same)
    go i l (inr other) =
        let none : names_index i (ids ++ e ∷ []) ≡ names_index i ids = names_index-push i ids e ∙ ap (λ b. names_index i ids || (b || false)) (ne_eqb e.index i other) ∙ or_false (names_index i ids) in
        release-at (ids ++ e ∷ []) xs i ∙ ap (λ n. cond (is_granted (slot_at xs i).status && n) (freed (slot_at xs i)) (slot_at xs i)) none
        ∙ sym (release-at ids xs i) ∙ sym (get_or-update_at_other e.index i freed_if_granted (release ids xs) fresh_slot other)

-- at an index that is granted, and at another
pub freed_if-granted : (i : ℕ) (xs : List Slot) → is_granted (slot_at xs i).status ≡ true → update_at i freed_if_granted xs ≡ update_at i freed xs
freed_if-granted i xs h = update_at-same freed_if_granted freed xs i fresh_slot (λ l. ap (λ b. cond b (freed (slot_at xs i)) (slot_at xs i)) h)

pub freed_if-other : (i : ℕ) (xs : List Slot) → is_granted (slot_at xs i).status ≡ false → update_at i freed_if_granted xs ≡ xs
freed_if-other i xs h = update_at-id freed_if_granted xs i fresh_slot (λ l. ap (λ b. cond b (freed (slot_at xs i)) (slot_at xs i)) h)

-- a step of a loop that releases: the index is freed where it is granted
pub release_more : (ids : List Entity) (k : ℕ) (d : Entity) (xs : List Slot) → k < length ids →
    release (take (k + 1) ids) xs ≡ update_at (get_or ids k d).index freed_if_granted (release (take k ids) xs)
release_more ids k d xs l = ap (λ es. release es xs) (take_more ids k d l) ∙ release-push (take k ids) (get_or ids k d) xs

-- ---- who lives

granted_lives : (status : Status) → is_granted status ≡ true → is_living status ≡ false
granted_lives Vacant e = absurd (false≢true e)
granted_lives Granted e = refl
granted_lives Living e = absurd (false≢true e)
granted_lives Retired e = absurd (false≢true e)

-- who is granted doesn't live
pub granted-lives : (xs : List Slot) (i : ℕ) → is_granted (slot_at xs i).status ≡ true → lives_at xs i ≡ false
granted-lives xs i e = granted_lives (slot_at xs i).status e

pub lives-freed : (slot : Slot) → is_living (freed slot).status ≡ false
lives-freed slot = cond_both (slot.generation == last_generation)
    (record { generation = slot.generation; status = Retired; row = [] })
    (record { generation = suc slot.generation; status = Vacant; row = [] }) (λ (s : Slot). is_living s.status ≡ false) (λ e. refl) (λ e. refl)

-- a release lets nobody live or die
pub lives_at-release : (ids : List Entity) (xs : List Slot) (i : ℕ) → lives_at (release ids xs) i ≡ lives_at xs i
unfolding released
lives_at-release ids xs i = ap (λ (s : Slot). is_living s.status) (release-at ids xs i) ∙ go (is_granted (slot_at xs i).status) refl (names_index i ids)
  where
    go : (g : Bool) → is_granted (slot_at xs i).status ≡ g → (n : Bool) → is_living (cond (g && n) (freed (slot_at xs i)) (slot_at xs i)).status ≡ lives_at xs i
    go true e true = lives-freed (slot_at xs i) ∙ sym (granted-lives xs i e)
    go true e false = refl
    go false e n = refl

-- a release leaves the slots of those that live
pub living-release : (ids : List Entity) (xs : List Slot) (i : ℕ) → lives_at xs i ≡ true → slot_at (release ids xs) i ≡ slot_at xs i
unfolding released
living-release ids xs i h = release-at ids xs i ∙ go (is_granted (slot_at xs i).status) refl (names_index i ids)
  where
    go : (g : Bool) → is_granted (slot_at xs i).status ≡ g → (n : Bool) → cond (g && n) (freed (slot_at xs i)) (slot_at xs i) ≡ slot_at xs i
    go true e n = absurd (false≢true (sym (granted-lives xs i e) ∙ h))
    go false e n = refl

-- ---- what stays granted

-- two granted ids of one index are one
pub same_granted : (xs : List Slot) (a b : Entity) → IsGranted xs a → IsGranted xs b → a.index ≡ b.index → a ≡ b
same_granted xs a b p q e =
    let generations : a.generation ≡ b.generation = sym p.generation ∙ ap (λ k. (slot_at xs k).generation) e ∙ q.generation in
    λ i. record { index = e i; generation = generations i }

-- two that are not one have two indices
pub indices_apart : (xs : List Slot) (ids : List Entity) (j k : ℕ) (d : Entity) → All (IsGranted xs) ids → AreApart ids → j < k → k < length ids →
    (get_or ids j d).index ≢ (get_or ids k d).index
indices_apart xs ids j k d granted apart before within same =
    apart j k d before within (same_granted xs (get_or ids j d) (get_or ids k d) (granted j d (omega arith)) (granted k d within) same)

-- the first of two lists of ids that are apart
pub apart_left : (xs ys : List Entity) → AreApart (xs ++ ys) → AreApart xs
apart_left xs ys h j k d before within same =
    h j k d before (omega (arith, length-append xs ys)) (get_or_append_left xs ys d j (omega arith) ∙ same ∙ sym (get_or_append_left xs ys d k within))

-- a granted id stays so while another index changes
pub granted-other : (f : Slot → Slot) (i : ℕ) (xs : List Slot) (e : Entity) → i ≢ e.index → IsGranted xs e → IsGranted (update_at i f xs) e
granted-other f i xs e other h =
    let same : slot_at (update_at i f xs) e.index ≡ slot_at xs e.index = get_or-update_at_other i e.index f xs fresh_slot other in
    record { status = ap (λ (s : Slot). s.status) same ∙ h.status; generation = ap (λ (s : Slot). s.generation) same ∙ h.generation }
