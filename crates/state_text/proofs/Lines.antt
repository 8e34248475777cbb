-- The lines of slots, one after the other.
use Rattle.std.proofs.Common.{◌≡◌, ℕ, zero, suc, ◌+◌, ◌<◌, List, [], ◌∷◌, ◌++◌, length, take, get_or, append_assoc, append-nil, add-zero, add-one, zero-add, sym, ap, ◌∙◌, arith}
use Rattle.model.specs.state.State.{Component, Status, Slot, fresh_slot}
use Rattle.state_text.specs.declared.form.Form.{Form}
use Rattle.state_text.specs.StateText.{slot_line, slot_lines}

-- one slot more is one line more
slot-after : (form : Form) (n : ℕ) (slots : List Slot) (i : ℕ) → i < length slots
    → slot_lines form n (take (suc i) slots) ≡ slot_lines form n (take i slots) ++ slot_line form (n + i) (get_or slots i fresh_slot)
slot-after form n [] i below = absurd (omega arith)
slot-after form n (slot ∷ slots) zero below = append-nil (slot_line form n slot) ∙ ap (λ index. slot_line form index slot) (sym (add-zero n))
slot-after form n (slot ∷ slots) (suc i) below =
    ap (λ rest. slot_line form n slot ++ rest) (slot-after form (suc n) slots i (omega arith))
    ∙ sym (append_assoc (slot_line form n slot) (slot_lines form (suc n) (take i slots)) (slot_line form (suc n + i) (get_or slots i fresh_slot)))
    ∙ ap (λ index. slot_lines form n (slot ∷ take i slots) ++ slot_line form index (get_or slots i fresh_slot)) (let e : suc n + i ≡ n + suc i = omega arith in e)

pub slots-more : (form : Form) (slots : List Slot) (i generation : ℕ) (status : Status) (row : List Component) (first now next : List ℕ) → i < length slots
    → generation ≡ (get_or slots i fresh_slot).generation → status ≡ (get_or slots i fresh_slot).status → row ≡ (get_or slots i fresh_slot).row
    → now ≡ first ++ slot_lines form 0 (take i slots) → next ≡ now ++ slot_line form i (record { generation = generation; status = status; row = row })
    → next ≡ first ++ slot_lines form 0 (take (i + 1) slots)
slots-more form slots i generation status row first now next below generations statuses rows so_far more =
    let slot = get_or slots i fresh_slot in
    more ∙ (λ k. so_far k ++ slot_line form i (record { generation = generations k; status = statuses k; row = rows k }))
    ∙ append_assoc first (slot_lines form 0 (take i slots)) (slot_line form i slot)
    ∙ ap (λ ys. first ++ ys) (ap (λ index. slot_lines form 0 (take i slots) ++ slot_line form index slot) (sym (zero-add i))
    ∙ sym (slot-after form 0 slots i below) ∙ ap (λ n. slot_lines form 0 (take n slots)) (sym (add-one i)))
