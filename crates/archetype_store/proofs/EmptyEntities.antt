-- Who lives without components, told from the id book and the rows.
use Rattle.archetype_store.proofs.Common.{◌≡◌, ℕ, Bool, true, false, cond, not, ◌==◌, ◌&&◌, List, Option, Some, None, refl, sym, ap, ap₂, ◌∙◌, eq-eqb, Entity, is_there, Slot, is_living, row_at, is_alive, slot_at, with_rows, StorageValue, row_of, bare_of, HasRows}
use Rattle.entity_table.proofs.WithRows.{status-with_rows, generation-with_rows}
use Rattle.archetype_store.proofs.SlotRows.{row_at_slots}

and_one : (b c : Bool) → c ≡ true → (b && c) ≡ b
and_one true c h = h
and_one false c h = refl

module _ (book : List Slot) (a : StorageValue) (h : HasRows book a) (i : ℕ) (slots : List Slot) (same : with_rows (row_of a.rows) book ≡ slots) where
  -- the id of an index at its generation lives where the index does
  living : is_alive book (record { index = i; generation = (slot_at book i).generation }) ≡ is_living (slot_at slots i).status
  living =
      and_one (is_living (slot_at book i).status) ((slot_at book i).generation == (slot_at book i).generation) (eq-eqb (slot_at book i).generation (slot_at book i).generation refl)
      ∙ ap is_living (sym (status-with_rows (row_of a.rows) book i) ∙ ap (λ ss. (slot_at ss i).status) same)

  row_is : row_of a.rows i ≡ (slot_at slots i).row
  row_is = sym (row_at_slots book a h i) ∙ ap (λ ss. row_at ss i) same

  generation_is : (slot_at book i).generation ≡ (slot_at slots i).generation
  generation_is = sym (generation-with_rows (row_of a.rows) book i) ∙ ap (λ ss. (slot_at ss i).generation) same

  pub empty_is : (g : ℕ) (b r : Bool) → g ≡ (slot_at book i).generation → is_alive book (record { index = i; generation = g }) ≡ b → not (is_there (row_of a.rows i)) ≡ r →
      cond (b && r) (Some (record { index = i; generation = g })) None ≡ bare_of i (slot_at slots i)
  empty_is g b r at alive empty =
      ap₂ (λ x y. cond (x && y) (let o : Option Entity = Some (record { index = i; generation = g }) in o) None)
      (sym alive ∙ ap (λ j. is_alive book (record { index = i; generation = j })) at ∙ living) (sym empty ∙ ap (λ row. not (is_there row)) row_is)
      ∙ ap (λ j. cond (is_living (slot_at slots i).status && not (is_there (slot_at slots i).row)) (let o : Option Entity = Some (record { index = i; generation = j }) in o) None) (at ∙ generation_is)
