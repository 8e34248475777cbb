-- Lines of states: two that are equal are of things that are equal, but for stamps where the form leaves these out.
use Rattle.std.proofs.Common.{◌≡◌, ℕ, suc, ◌<◌, ◌≤◌, ◌^◌, ℤ, pos, List, [], ◌∷◌, ◌++◌, length, map, refl, sym, ap, ◌∙◌, arith, rules, w64}
use Rattle.std.specs.Fmt.{decimal, signed_decimal}
use Rattle.std.specs.Prelude.{FitsSigned}
use Rattle.std.specs.List.{AllByRecursion}
use Rattle.model.specs.Lists.{head_or, tail_of}
use Rattle.model.specs.state.State.{Resource, Event, EventQueue, Memory, last_tick}
use Rattle.model.specs.state.Shape.{AreNumbered, IsQueue}
use Rattle.kinds.specs.declared.res.Res.{Res}
use Rattle.kinds.specs.declared.res.Event.{Event as EventKind}
use Rattle.kinds.specs.Res.{res_name, event_name}
use Rattle.body.specs.Steps.{IsMemoryAt}
use Rattle.state_text.specs.declared.form.Form.{Form}
use Rattle.state_text.specs.declared.form.Form.TheVariants.{Whole, Values}
use Rattle.state_text.specs.Laws.{FitsMemory}
use Rattle.state_text.specs.StateText.{stamp_text, resource_line, event_line, number_text, word_text, words_text, memory_line}
use Rattle.state_text.specs.LineWords.{IsResourceAt}
use Rattle.state_text.proofs.KeptValues.{values_fit, count, length-values}
use Rattle.state_text.proofs.Cuts.{Cut, Any, same, behind, told, join, Past, past_all, past_end, number, integer, by_count, to_end, all_told}

-- integers, behind spaces
an_integer : (y z : ℤ) → FitsSigned w64 y → FitsSigned w64 z → Cut Past (signed_decimal y) (signed_decimal z) (y ≡ z)
an_integer y z fy fz = integer y z (search rules) (search rules)

pub integers : (ys zs : List ℤ) → length ys ≡ length zs → AllByRecursion (FitsSigned w64) ys → AllByRecursion (FitsSigned w64) zs → Cut Past (words_text ys) (words_text zs) (ys ≡ zs)
integers ys zs many fy fz = all_told (by_count word_text (λ z. z) (FitsSigned w64) (λ y z fy fz. behind 32 (an_integer y z fy fz)) (λ z s past. refl) ys zs many fy fz)

-- what is kept of a stamp, and what is told of it
abbrev pub kept_stamp : Form → ℕ → ℕ
kept_stamp Whole n = n
kept_stamp Values n = 0

pub tick : (clock : ℕ) → clock ≤ last_tick → (m n : ℕ) → m ≤ clock → n ≤ clock → Cut Past (number_text m) (number_text n) (m ≡ n)
tick clock most m n low low' = behind 32 (number m n (omega (arith, low, most)) (omega (arith, low', most)))

pub stamp : (form : Form) (clock : ℕ) → clock ≤ last_tick → (m n : ℕ) → m ≤ clock → n ≤ clock → Cut Past (stamp_text form m) (stamp_text form n) (kept_stamp form m ≡ kept_stamp form n)
stamp Whole clock most m n low low' = tick clock most m n low low'
stamp Values clock most m n low low' = record { cut = λ s t cs ct e. (refl, e) }

pub past_stamp : (form : Form) (n : ℕ) (s : List ℕ) → Past s → Past (stamp_text form n ++ s)
past_stamp Whole n s past = refl
past_stamp Values n s past = past

-- the end of a line
pub end : Cut Any (10 ∷ []) (10 ∷ []) (Unit {0})
end = same (10 ∷ [])

-- ---- memories

abbrev pub kept_memory : Form → Memory → Memory
kept_memory form m = record { last_run = kept_stamp form m.last_run; cursors = m.cursors; registers = m.registers }

pub memory : (form : Form) (clock : ℕ) → clock ≤ last_tick → (name : List ℕ) (m n : Memory) → IsMemoryAt clock m → IsMemoryAt clock n → FitsMemory m → FitsMemory n
    → Cut Any (memory_line form name m) (memory_line form name n) (kept_memory form m ≡ kept_memory form n)
memory form clock most name m n sm sn fm fn =
    told (join (join (join (join (same name) (λ s a. tt) (λ s a. tt) (λ _. stamp form clock most m.last_run n.last_run sm.last_run sn.last_run))
    (past_all signed_decimal m.registers) (past_all signed_decimal n.registers) (λ _. integers m.registers n.registers (sm.registers ∙ sym sn.registers) fm.registers fn.registers))
    (λ s e. past_all decimal m.cursors s (past_end s e)) (λ s e. past_all decimal n.cursors s (past_end s e))
    (λ _. all_told (to_end decimal (λ n. n) (λ cursor. cursor < 2 ^ 64) number m.cursors n.cursors fm.cursors fn.cursors)))
    (λ s a. refl) (λ s a. refl) (λ _. end))
    (λ p i. record { last_run = p.0.0.0.1 i; cursors = p.0.1 i; registers = p.0.0.1 i })

-- ---- resources

abbrev pub kept_resource : Form → Resource → Resource
kept_resource form r = record { value = r.value; changed = kept_stamp form r.changed }

pub resource : (form : Form) (clock : ℕ) → clock ≤ last_tick → (res : Res) (q r : Resource) → IsResourceAt clock q → IsResourceAt clock r
    → Cut Any (resource_line form res q) (resource_line form res r) (kept_resource form q ≡ kept_resource form r)
resource form clock most res q r iq ir =
    told (join (join (join (same (res_name res)) (λ s a. tt) (λ s a. tt) (λ _. behind 32 (an_integer q.value r.value iq.0 ir.0)))
    (past_stamp form q.changed) (past_stamp form r.changed) (λ _. stamp form clock most q.changed r.changed iq.1 ir.1))
    (λ s a. refl) (λ s a. refl) (λ _. end))
    (λ p i. record { value = p.0.0.1 i; changed = p.0.1 i })

-- ---- events

-- what holds of the event queues of a state
abbrev pub IsQueueOf64 : EventQueue → Type 0
IsQueueOf64 q = IsQueue q × AllByRecursion (λ (e : Event). FitsSigned w64 e.value) q.kept

-- events numbered from one number on, of the same values, are the same
numbered : (from from' to to' : ℕ) (es fs : List Event) → from ≡ from' → AreNumbered from to es → AreNumbered from' to' fs
    → map (λ (e : Event). e.value) es ≡ map (λ (e : Event). e.value) fs → es ≡ fs
numbered from from' to to' [] [] first he hf values = refl
numbered from from' to to' [] (f ∷ fs) first he hf values = absurd (let n = ap length values in omega (arith, n))
numbered from from' to to' (e ∷ es) [] first he hf values = absurd (let n = ap length values in omega (arith, n))
numbered from from' to to' (e ∷ es) (f ∷ fs) first he hf values =
    let number : e.number ≡ f.number = he.0 ∙ first ∙ sym hf.0 in
    let rest = numbered (suc from) (suc from') to to' es fs (ap suc first) he.1 hf.1 (ap tail_of values) in
    λ i. record { number = number i; value = head_or (pos 0) (values i) } ∷ rest i

kept : (q r : EventQueue) → IsQueue q → IsQueue r → q.next ≡ r.next → map (λ (e : Event). e.value) q.kept ≡ map (λ (e : Event). e.value) r.kept → q.kept ≡ r.kept
kept q r iq ir next values =
    let many : length q.kept ≡ length r.kept = sym (length-values q.kept) ∙ ap length values ∙ length-values r.kept in
    let cq = count iq.from q.next q.kept iq.numbered in
    let cr = count ir.from r.next r.kept ir.numbered in
    numbered iq.from ir.from q.next r.next q.kept r.kept (omega (arith, many, cq, cr, next)) iq.numbered ir.numbered values

pub queue : (kind : EventKind) (q r : EventQueue) → IsQueueOf64 q → IsQueueOf64 r → Cut Any (event_line kind q) (event_line kind r) (q ≡ r)
queue kind q r iq ir =
    let values : EventQueue → List ℤ = λ s. map (λ (e : Event). e.value) s.kept in
    told (join (join (join (join (same (event_name kind)) (λ s a. tt) (λ s a. tt)
    (λ _. tick last_tick (omega arith) q.newer r.newer (let l = iq.0.newer in let m = iq.0.most in omega (arith, l, m)) (let l = ir.0.newer in let m = ir.0.most in omega (arith, l, m))))
    (λ s past. refl) (λ s past. refl) (λ _. tick last_tick (omega arith) q.next r.next iq.0.most ir.0.most))
    (λ s e. past_all signed_decimal (values q) s (past_end s e)) (λ s e. past_all signed_decimal (values r) s (past_end s e))
    (λ _. all_told (to_end signed_decimal (λ z. z) (FitsSigned w64) an_integer (values q) (values r) (values_fit q.kept iq.1) (values_fit r.kept ir.1))))
    (λ s a. refl) (λ s a. refl) (λ _. end))
    (λ p. let same_kept = kept q r iq.0 ir.0 p.0.0.1 p.0.1 in λ i. record { kept = same_kept i; newer = p.0.0.0.1 i; next = p.0.0.1 i })
