-- Slots that are added one behind the other, and filled.
use Rattle.std.proofs.Common.{◌≡◌, ◌≢◌, ℕ, suc, ◌+◌, ◌<◌, ◌≤◌, Bool, true, false, ◌&&◌, ◌==◌, List, [], ◌∷◌, ◌++◌, length, take, drop, get_or, append_assoc, length-append, length-take, refl, sym, ap, ap₂, subst, ◌∙◌, eq-eqb, arith}
use Rattle.std.proofs.lemmas.Bool.{false≢true}
use Rattle.std.proofs.lemmas.List.{drop_more, take_more}
use Rattle.std.specs.List.{AllByRecursion}
use Rattle.model.specs.Lists.{update_at}
use Rattle.model.proofs.lists.Each.{each-at}
use Rattle.model.specs.declared.entities.Entity.{Entity}
use Rattle.model.specs.state.State.{Component, Slot, Status, World, fresh_slot, is_living, most_indices}
use Rattle.model.specs.state.State.Status.{Vacant, Granted, Living, Retired}
use Rattle.model.specs.state.Shape.{IsSlot}
use Rattle.model.specs.state.Commands.{is_alive}
use Rattle.kinds.specs.Components.{widths}
use Rattle.entity_table.specs.Status.{status_of, empty_slot}
use Rattle.entity_table.specs.declared.status.Status.{Status as TableStatus}
use Rattle.archetype_store.specs.Store.{with_slot, with_slots}
use Rattle.state_text.specs.LineWords.{AreLines, IsSlotAt, slot_words, slots_before}

-- ---- the last one

update_last : {A : Type 0} (f : A → A) (xs : List A) (x : A) → update_at (length xs) f (xs ++ x ∷ []) ≡ xs ++ f x ∷ []
update_last f [] x = refl
update_last f (y ∷ xs) x = ap (λ ys. y ∷ ys) (update_last f xs x)

get_last : {A : Type 0} (xs : List A) (x d : A) → get_or (xs ++ x ∷ []) (length xs) d ≡ x
get_last [] x d = refl
get_last (y ∷ xs) x d = get_last xs x d

-- its entity lives where its status says so
pub last_lives : (xs : List Slot) (s : Slot) (id : Entity) → id.index ≡ length xs → id.generation ≡ s.generation → is_living s.status ≡ true → is_alive (xs ++ s ∷ []) id ≡ true
last_lives xs s id index generation living =
    let here : get_or (xs ++ s ∷ []) id.index fresh_slot ≡ s = ap (λ i. get_or (xs ++ s ∷ []) i fresh_slot) index ∙ get_last xs s fresh_slot in
    ap₂ ◌&&◌ (ap (λ (slot : Slot). is_living slot.status) here ∙ living) (ap (λ (slot : Slot). slot.generation == id.generation) here ∙ eq-eqb s.generation id.generation (sym generation))

-- ---- a slot without components, and with them

-- a status that lives
lives : (status : Status) → is_living status ≡ true → status ≡ Living
lives Vacant e = absurd (false≢true e)
lives Granted e = absurd (false≢true e)
lives Living e = refl
lives Retired e = absurd (false≢true e)

-- without its components it is one that can be added
pub bare : (clock generation : ℕ) (status : TableStatus) (slot : Slot) → generation ≡ slot.generation → status_of status ≡ slot.status → IsSlot widths clock slot → IsSlot (λ kind. 0) 0 (empty_slot generation status)
bare clock generation status slot same_generation same_status h =
    let least = h.least in
    let most = h.most in
    record {
      least = omega (arith, least, same_generation);
      most = omega (arith, most, same_generation);
      came_back = λ e. let back = h.came_back (sym same_status ∙ e) in omega (arith, back, same_generation);
      retired = λ e. same_generation ∙ h.retired (sym same_status ∙ e);
      no_row = λ e. refl;
      rising = tt;
      components = tt;
    }

-- where it has none, it is added whole
pub bare_is : (generation : ℕ) (status : TableStatus) (slot : Slot) → generation ≡ slot.generation → status_of status ≡ slot.status → slot.row ≡ [] → empty_slot generation status ≡ slot
bare_is generation status slot same_generation same_status none = λ i. record { generation = same_generation i; status = same_status i; row = sym none i }

-- where it has some, it lives
pub filled_lives : (clock : ℕ) (slot : Slot) → IsSlot widths clock slot → slot.row ≢ [] → is_living slot.status ≡ true
filled_lives clock slot h some = go (is_living slot.status) refl
  where
    go : (b : Bool) → is_living slot.status ≡ b → is_living slot.status ≡ true
    go true e = e
    go false e = absurd (some (h.no_row e))

-- and is given them
pub filled_is : (w before after : World) (generation index : ℕ) (status : TableStatus) (row : List Component) (slot : Slot) → generation ≡ slot.generation → status_of status ≡ slot.status → is_living slot.status ≡ true
    → row ≡ slot.row → index ≡ length w.slots → before ≡ with_slots (λ slots. slots ++ empty_slot generation status ∷ []) w
    → after ≡ with_slot index (λ old. record { generation = old.generation; status = Living; row = row }) before → after ≡ with_slots (λ slots. slots ++ slot ∷ []) w
filled_is w before after generation index status row slot same_generation same_status living same_row here pushed filled =
    filled ∙ (λ i. with_slot (here i) (λ old. record { generation = old.generation; status = Living; row = row }) (pushed i))
    ∙ ap (λ slots. with_slots (λ _. slots) w) (update_last (λ old. record { generation = old.generation; status = Living; row = row }) w.slots (empty_slot generation status))
    ∙ (λ i. with_slots (λ slots. slots ++ record { generation = same_generation i; status = sym (lives slot.status living) i; row = same_row i } ∷ []) w)

-- ---- the next one

-- so many of the slots of a world were added, and these lines are left
pub record Here (w now : World) (slots : List Slot) (more : List (List (List ℕ))) (i : ℕ) (text : List ℕ) : Type 0 where
  pub slot : Slot
  pub is : IsSlotAt now.clock slot
  pub room : length now.slots < most_indices
  pub lines : AreLines (slot_words (length now.slots) slot ∷ slots_before (length w.slots + (i + 1)) (drop (i + 1) slots) more) text
  pub added : with_slots (λ front. front ++ slot ∷ []) now ≡ with_slots (λ front. front ++ take (i + 1) slots) w

pub here : (w now : World) (slots : List Slot) (more : List (List (List ℕ))) (i : ℕ) (text : List ℕ) → i < length slots → length w.slots + length slots ≤ most_indices → now.clock ≡ w.clock
    → AllByRecursion (IsSlotAt w.clock) slots → now ≡ with_slots (λ front. front ++ take i slots) w → AreLines (slots_before (length w.slots + i) (drop i slots) more) text → Here w now slots more i text
here w now slots more i text low room clock is so_far left =
    let slot = get_or slots i fresh_slot in
    let many : length now.slots ≡ length w.slots + i =
    ap (λ (v : World). length v.slots) so_far ∙ length-append w.slots (take i slots) ∙ ap (λ n. length w.slots + n) (let k = length-take i slots in omega (arith, k, low)) in
    let index : suc (length w.slots + i) ≡ length w.slots + (i + 1) = omega arith in
    record {
      slot = slot;
      is = subst (λ k. IsSlotAt k slot) (sym clock) (each-at (IsSlotAt w.clock) slots i fresh_slot low is);
      room = omega (arith, many, low, room);
      lines = subst (λ n. AreLines (slot_words (length now.slots) slot ∷ slots_before n (drop (i + 1) slots) more) text) index
          (subst (λ n. AreLines (slot_words n slot ∷ slots_before (suc (length w.slots + i)) (drop (i + 1) slots) more) text) (sym many)
          (subst (λ list. AreLines (slots_before (length w.slots + i) list more) text) (drop_more slots i fresh_slot low) left));
      added = ap (with_slots (λ front. front ++ slot ∷ [])) so_far
          ∙ ap (λ xs. with_slots (λ _. xs) w) (append_assoc w.slots (take i slots) (slot ∷ []) ∙ ap (λ xs. w.slots ++ xs) (sym (take_more slots i fresh_slot low)));
    }
