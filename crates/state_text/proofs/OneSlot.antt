-- Lines of slots: two that are equal, of one index, are of slots that are equal, but for stamps where the form leaves these out.
use Rattle.std.proofs.Common.{◌≡◌, ℕ, zero, suc, ◌<◌, ◌≤◌, true, eqb, cond, List, [], ◌∷◌, ◌++◌, length, map, codes, refl, sym, ap, ◌∙◌, arith}
use Rattle.std.proofs.lemmas.Bool.{and_parts, eqb-true}
use Rattle.std.specs.Fmt.{signed_decimal}
use Rattle.std.specs.List.{AllByRecursion, list_all}
use Rattle.model.specs.Lists.{head_or}
use Rattle.model.specs.state.State.{Component, Status, Slot, last_tick}
use Rattle.model.specs.state.State.Status.{Vacant, Granted, Living, Retired}
use Rattle.model.specs.state.Shape.{IsComponent}
use Rattle.kinds.specs.Kind.{kind_count, name_of_kind}
use Rattle.kinds.specs.Components.{widths}
use Rattle.state_text.specs.declared.form.Form.{Form}
use Rattle.state_text.specs.Laws.{FitsComponent}
use Rattle.state_text.specs.StateText.{number_text, words_text, stamp_text, status_name, slot_line, slot_lines}
use Rattle.state_text.specs.LineWords.{IsSlotAt}
use Rattle.state_text.proofs.Cuts.{Cut, Any, same, behind, told, join, Passes, word, in_word, Past, past_all, past_end, number, nothing, to_end}
use Rattle.state_text.proofs.KindNames.{at_below, same_word}
use Rattle.state_text.proofs.OneLine.{integers, kept_stamp, stamp, past_stamp, end}

-- ---- tests

pub passes_from : (f : List ℕ) → list_all in_word f ≡ true → Passes in_word f
passes_from [] h = tt
passes_from (b ∷ f) h = let parts = and_parts (in_word b) (list_all in_word f) h in (parts.0, passes_from f parts.1)

-- ---- names of kinds

-- the greatest number below a bound whose kind has a name
abbrev kind_named : ℕ → List ℕ → ℕ
kind_named zero name = 0
kind_named (suc n) name = cond (same_word (name_of_kind n) name) n (kind_named n name)

kind_found : (k : ℕ) → k < kind_count → kind_named kind_count (name_of_kind k) ≡ k
kind_found k low = eqb-true (kind_named kind_count (name_of_kind k)) k (at_below (λ n. eqb (kind_named kind_count (name_of_kind n)) n) kind_count k refl low)

kind : (k l : ℕ) → k < kind_count → l < kind_count → Cut Past (name_of_kind k) (name_of_kind l) (k ≡ l)
kind k l low low' = told
    (word in_word (name_of_kind k) (name_of_kind l)
    (passes_from (name_of_kind k) (at_below (λ n. list_all in_word (name_of_kind n)) kind_count k refl low))
    (passes_from (name_of_kind l) (at_below (λ n. list_all in_word (name_of_kind n)) kind_count l refl low')))
    (λ names. sym (kind_found k low) ∙ ap (kind_named kind_count) names ∙ kind_found l low')

-- ---- components

-- what holds of the components of a state
abbrev IsComponentOf64 : ℕ → Component → Type 0
IsComponentOf64 clock c = IsComponent widths clock c × FitsComponent c

-- a component behind its space
abbrev tail : Form → Component → List ℕ
tail form c = name_of_kind c.kind ++ stamp_text form c.cell.added ++ stamp_text form c.cell.changed ++ words_text c.cell.words

abbrev pub kept_component : Form → Component → Component
kept_component form c = record { kind = c.kind; cell = record { words = c.cell.words; added = kept_stamp form c.cell.added; changed = kept_stamp form c.cell.changed } }

component : (form : Form) (clock : ℕ) → clock ≤ last_tick → (c d : Component) → IsComponentOf64 clock c → IsComponentOf64 clock d
    → Cut Past (tail form c) (tail form d) (kept_component form c ≡ kept_component form d)
component form clock most c d ic id =
    told (join (join (join (kind c.kind d.kind ic.1.kind id.1.kind)
    (past_stamp form c.cell.added) (past_stamp form d.cell.added) (λ _. stamp form clock most c.cell.added d.cell.added ic.0.added id.0.added))
    (past_stamp form c.cell.changed) (past_stamp form d.cell.changed) (λ _. stamp form clock most c.cell.changed d.cell.changed ic.0.changed id.0.changed))
    (past_all signed_decimal c.cell.words) (past_all signed_decimal d.cell.words)
    (λ p. integers c.cell.words d.cell.words (ic.0.width ∙ ap widths p.0.0 ∙ sym id.0.width) ic.1.words id.1.words))
    (λ p i. record { kind = p.0.0.0 i; cell = record { words = p.1 i; added = p.0.0.1 i; changed = p.0.1 i } })

-- ---- slots

passes_status : (a : Status) → Passes in_word (status_name a)
passes_status Vacant = passes_from (codes "vacant") refl
passes_status Granted = passes_from (codes "granted") refl
passes_status Living = passes_from (codes "live") refl
passes_status Retired = passes_from (codes "retired") refl

-- the status by the first letter of its word
abbrev status_by : ℕ → Status
status_by b = cond (eqb b 118) Vacant (cond (eqb b 103) Granted (cond (eqb b 108) Living Retired))

status_found : (a : Status) → status_by (head_or 0 (status_name a)) ≡ a
status_found Vacant = refl
status_found Granted = refl
status_found Living = refl
status_found Retired = refl

status : (a b : Status) → Cut Past (status_name a) (status_name b) (a ≡ b)
status a b = told (word in_word (status_name a) (status_name b) (passes_status a) (passes_status b))
    (λ names. sym (status_found a) ∙ ap (λ name. status_by (head_or 0 name)) names ∙ status_found b)

pub both : {X : Type 0} (P Q : X → Type 0) (xs : List X) → AllByRecursion P xs → AllByRecursion Q xs → AllByRecursion (λ x. P x × Q x) xs
both P Q [] p q = tt
both P Q (x ∷ xs) p q = ((p.0, q.0), both P Q xs p.1 q.1)

abbrev pub kept_slot : Form → Slot → Slot
kept_slot form slot = record { generation = slot.generation; status = slot.status; row = map (kept_component form) slot.row }

slot : (form : Form) (clock : ℕ) → clock ≤ last_tick → (index : ℕ) (a b : Slot) → IsSlotAt clock a → IsSlotAt clock b
    → Cut Any (slot_line form index a) (slot_line form index b) (kept_slot form a ≡ kept_slot form b)
slot form clock most index a b ia ib =
    told (join (join (join (join (status a.status b.status) (λ s a. refl) (λ s a. refl) (λ _. same (number_text index)))
    (λ s past. tt) (λ s past. tt) (λ _. behind 118 (number a.generation b.generation (let l = ia.0.most in omega (arith, l)) (let l = ib.0.most in omega (arith, l)))))
    (λ s e. past_all (tail form) a.row s (past_end s e)) (λ s e. past_all (tail form) b.row s (past_end s e))
    (λ _. to_end (tail form) (kept_component form) (IsComponentOf64 clock) (component form clock most) a.row b.row
    (both (IsComponent widths clock) FitsComponent a.row ia.0.components ia.1) (both (IsComponent widths clock) FitsComponent b.row ib.0.components ib.1)))
    (λ s a. refl) (λ s a. refl) (λ _. end))
    (λ p i. record { generation = p.0.0.1 i; status = p.0.0.0.0 i; row = p.0.1 i })

-- as many slots
pub slots : (form : Form) (clock : ℕ) → clock ≤ last_tick → (index : ℕ) (xs ys : List Slot) → length xs ≡ length ys
    → AllByRecursion (IsSlotAt clock) xs → AllByRecursion (IsSlotAt clock) ys
    → Cut Any (slot_lines form index xs) (slot_lines form index ys) (map (kept_slot form) xs ≡ map (kept_slot form) ys)
slots form clock most index [] [] count ia ib = nothing
slots form clock most index [] (b ∷ ys) count ia ib = absurd (omega (arith, count))
slots form clock most index (a ∷ xs) [] count ia ib = absurd (omega (arith, count))
slots form clock most index (a ∷ xs) (b ∷ ys) count ia ib =
    told (join (slot form clock most index a b ia.0 ib.0) (λ s a. tt) (λ s a. tt) (λ _. slots form clock most (suc index) xs ys (omega (arith, count)) ia.1 ib.1))
    (λ p i. p.0 i ∷ p.1 i)
