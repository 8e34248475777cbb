-- What it leaves to take back a grant of one: the book before it.
use Rattle.std.proofs.Common.{◌≡◌, ℕ, ◌+◌, ◌<◌, ◌≤◌, true, false, zero, suc, ◌-◌, List, [], ◌∷◌, ◌++◌, length, get_or, set, take, refl, ap, sym, subst, ◌∙◌, arith}
use Rattle.std.proofs.lemmas.Bool.{false≢true}
use Rattle.std.proofs.lemmas.List.{length-append, take_at}
use Rattle.model.specs.Lists.{update_at, head_or}
use Rattle.model.specs.declared.entities.Entity.{Entity}
use Rattle.model.specs.state.State.{Slot, fresh_slot, is_vacant, is_living}
use Rattle.model.specs.state.State.Status.{Vacant, Granted, Living, Retired}
use Rattle.model.specs.state.Shape.{IsSlot}
use Rattle.model.specs.state.Ids.{vacant_indices, granted_ids, granted_slot, grant}
use Rattle.model.proofs.lists.Lists.{length-update_at}
use Rattle.model.proofs.lists.Each.{each-at}
use Rattle.entity_table.specs.Rising.{Numbers, insert_rising}
use Rattle.entity_table.specs.Ids.{slot_at, living_count, vacated, IsBook, IsCounted}
use Rattle.entity_table.proofs.Edits.{set-written, get_or-update_at, update_at-id}
use Rattle.entity_table.proofs.Frees.{vacant_from-more}
use Rattle.entity_table.proofs.BookShape.{room_for_one}
use Rattle.entity_table.proofs.Grants.{GrantsLeast, grants_least, grants_next}
use Rattle.entity_table.proofs.Counting.{count-grant}

-- a vacant slot of a book is what it is when it is vacated
vacant-is : (s : Slot) → IsSlot (λ kind. 0) 0 s → is_vacant s.status ≡ true → (s.status ≡ Vacant) × (vacated s ≡ s)
vacant-is s h v = go s.status refl v
  where
    go : (status : _) → s.status ≡ status → is_vacant status ≡ true → (s.status ≡ Vacant) × (vacated s ≡ s)
    go Vacant e k =
        let none : s.row ≡ [] = h.no_row (ap is_living e) in
        (e, (λ i. record { generation = s.generation; status = sym e i; row = sym none i }))
    go Granted e k = absurd (false≢true k)
    go Living e k = absurd (false≢true k)
    go Retired e k = absurd (false≢true k)

-- ---- which id it was

-- an id of an index that was vacant
pub record WasVacant (xs : List Slot) (e : Entity) : Type 0 where
  pub rest : List ℕ
  pub first : vacant_indices xs ≡ e.index ∷ rest
  pub least : GrantsLeast xs e.index rest

module _ (xs : List Slot) (e : Entity) (book : IsBook xs) (given : granted_ids 1 xs ≡ e ∷ []) where
  there : (x : ℕ) → x < length xs → IsSlot (λ kind. 0) 0 (slot_at xs x)
  there x l = each-at (IsSlot (λ kind. 0) 0) xs x fresh_slot l book.slots

  -- of generation 1: no index was vacant
  pub fresh_last : e.generation ≡ 1 → vacant_indices xs ≡ []
  fresh_last one = go (vacant_indices xs) refl
    where
      go : (ns : List ℕ) → vacant_indices xs ≡ ns → vacant_indices xs ≡ []
      go [] h = h
      go (x ∷ rest) h =
          let r = grants_least xs x rest h in
          let same : (slot_at xs x).generation ≡ e.generation = ap (λ es. (head_or e es).generation) (sym r.ids ∙ given) in
          let s = there x r.within in
          let back : 1 < (slot_at xs x).generation = s.came_back (vacant-is (slot_at xs x) s r.vacant).0 in
          absurd (omega arith)

  -- of another: its index was the least vacant one
  pub other_vacant : (e.generation ≡ 1 → ⊥) → WasVacant xs e
  other_vacant other = go (vacant_indices xs) refl
    where
      go : (ns : List ℕ) → vacant_indices xs ≡ ns → WasVacant xs e
      go [] h = absurd (other (sym (ap (λ es. (head_or e es).generation) (sym (grants_next xs h).ids ∙ given))))
      go (x ∷ rest) h =
          let r = grants_least xs x rest h in
          let same : x ≡ e.index = ap (λ es. (head_or e es).index) (sym r.ids ∙ given) in
          record { rest = rest; first = h ∙ ap (λ n. n ∷ rest) same; least = subst (λ n. GrantsLeast xs n rest) same r }

-- ---- the new index is the last one

pub last_dropped : (xs ys : List Slot) (n : ℕ) → vacant_indices xs ≡ [] → ys ≡ grant 1 xs → n ≡ length ys → take (n - 1) ys ≡ xs
last_dropped xs ys n h e m =
    let same : ys ≡ xs ++ granted_slot fresh_slot ∷ [] = e ∙ (grants_next xs h).granted in
    ap (take (n - 1)) same ∙ take_at xs (granted_slot fresh_slot ∷ []) (n - 1) (omega (arith, m, ap length same, length-append xs (granted_slot fresh_slot ∷ [])))

pub counted_last : (xs ys : List Slot) (numbers : Numbers) (living : ℕ) → IsBook xs → vacant_indices xs ≡ [] → ys ≡ grant 1 xs → IsCounted ys numbers living → IsCounted xs numbers living
counted_last xs ys numbers living book h e c =
    let r = grants_next xs h in
    let room = c.kept.room in
    record {
      kept = record {
        whole = book;
        vacant = c.kept.vacant ∙ ap vacant_indices e ∙ r.left ∙ sym h;
        room = omega (arith, ap length (e ∙ r.granted), length-append xs (granted_slot fresh_slot ∷ []));
      };
      count = c.count ∙ ap living_count e ∙ count-grant 1 xs;
    }

-- ---- the index is vacant again

update_at-twice : (f g : Slot → Slot) (i : ℕ) (xs : List Slot) → update_at i f (update_at i g xs) ≡ update_at i (λ s. f (g s)) xs
update_at-twice f g i [] = refl
update_at-twice f g zero (x ∷ xs) = refl
update_at-twice f g (suc i) (x ∷ xs) = ap (◌∷◌ x) (update_at-twice f g i xs)

module _ (xs ys : List Slot) (e : Entity) (numbers : Numbers) (living : ℕ) (book : IsBook xs) (was : WasVacant xs e) (same : ys ≡ grant 1 xs) (counted : IsCounted ys numbers living) where
  is : ys ≡ update_at e.index granted_slot xs
  is = same ∙ was.least.granted

  pub within_back : e.index < length ys
  within_back = let l = was.least.within in omega (arith, ap length is, length-update_at e.index granted_slot xs)

  not_vacant : is_vacant (slot_at ys e.index).status ≡ false
  not_vacant = ap (λ (s : Slot). is_vacant s.status) (ap (λ zs. slot_at zs e.index) is ∙ get_or-update_at granted_slot xs e.index fresh_slot was.least.within)

  whole : update_at e.index vacated ys ≡ xs
  whole =
      ap (update_at e.index vacated) is
      ∙ update_at-twice vacated granted_slot e.index xs
      ∙ update_at-id (λ s. vacated (granted_slot s)) xs e.index fresh_slot
      (λ l. (vacant-is (slot_at xs e.index) (each-at (IsSlot (λ kind. 0) 0) xs e.index fresh_slot l book.slots) was.least.vacant).1)

  pub room_back : length numbers.rising < numbers.room
  room_back = room_for_one e.index ys numbers within_back not_vacant counted.kept

  pub written_back : (place new : Slot) → place ≡ get_or ys e.index place → new ≡ vacated place → set ys e.index new ≡ xs
  written_back place new read written = set-written vacated ys e.index place new within_back read written ∙ whole

  pub counted_back : (more : Numbers) → more.rising ≡ insert_rising e.index numbers.rising → numbers.room ≤ more.room → IsCounted xs more living
  counted_back more pushed r =
      let room = counted.kept.room in
      record {
        kept = record {
          whole = book;
          vacant = pushed ∙ ap (insert_rising e.index) counted.kept.vacant
              ∙ ap (λ k. insert_rising k (vacant_indices ys)) (let z : e.index ≡ 0 + e.index = omega arith in z)
              ∙ sym (vacant_from-more vacated 0 e.index ys within_back not_vacant refl)
              ∙ ap vacant_indices whole;
          room = omega (arith, ap length whole, length-update_at e.index vacated ys);
        };
        count = counted.count ∙ ap living_count same ∙ count-grant 1 xs;
      }
