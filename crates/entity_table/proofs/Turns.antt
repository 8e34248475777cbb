-- Turns of loops: lists that are made ready, places that are copied, and indices at which nobody lives.
use Rattle.std.proofs.Common.{◌≡◌, ◌⊎◌, inl, inr, ℕ, ◌+◌, ◌<◌, ◌≤◌, Bool, true, false, ◌==◌, ◌&&◌, List, [], ◌∷◌, ◌++◌, Vec, Global, length, get_or, set, take, Result, Ok, Err, refl, sym, ap, ap₂, subst, ◌∙◌, arith}
use Rattle.std.specs.Prelude.{vec_capacity, ◌↔◌}
use Rattle.std.specs.Result.{IsErrAnd, IsErrOf}
use Rattle.std.proofs.lemmas.Bool.{cases_eq, cases_lt, eq-eqb, false≢true}
use Rattle.std.proofs.lemmas.List.{take_more, get_or_default, get_or_past, get_or-set_same, get_or-set_other}
use Rattle.model.specs.declared.entities.Entity.{Entity}
use Rattle.model.specs.state.State.{Slot, fresh_slot, is_living}
use Rattle.model.specs.state.Commands.{is_alive}
use Rattle.entity_table.specs.declared.fault.GrantFault.{GrantFault}
use Rattle.entity_table.specs.declared.fault.GrantFault.TheVariants as grant_fault
use Rattle.entity_table.specs.Ids.{slot_at, lives_at}

-- ---- lists that are made ready

-- one list more is empty
pub emptied_more : (lists : List (Vec Entity Global)) (i : ℕ) (x : Vec Entity Global) → i < length lists → x.items ≡ [] →
    ((k : ℕ) (d : Vec Entity Global) → k < i → (get_or lists k d).items ≡ []) → (k : ℕ) (d : Vec Entity Global) → k < i + 1 → (get_or (set lists i x) k d).items ≡ []
emptied_more lists i x l e h k d less = go (cases_eq k i)
  where
    go : (k ≡ i) ⊎ (k ≡ i → ⊥) → (get_or (set lists i x) k d).items ≡ []
    go (inl same) = ap (λ j. (get_or (set lists i x) j d).items) same ∙ ap (λ (v : Vec Entity Global). v.items) (get_or-set_same lists i x d l) ∙ e
    go (inr other) = ap (λ (v : Vec Entity Global). v.items) (get_or-set_other lists i k x d other) ∙ h k d (omega (arith, other))

-- and has room
pub roomy_more : (counts : List ℕ) (lists : List (Vec Entity Global)) (i n : ℕ) (x : Vec Entity Global) → i < length lists → n ≡ get_or counts i 0 → n ≤ vec_capacity x →
    ((k : ℕ) (d : Vec Entity Global) → k < i → get_or counts k 0 ≤ vec_capacity (get_or lists k d)) →
    (k : ℕ) (d : Vec Entity Global) → k < i + 1 → get_or counts k 0 ≤ vec_capacity (get_or (set lists i x) k d)
roomy_more counts lists i n x l at e h k d less = go (cases_eq k i)
  where
    go : (k ≡ i) ⊎ (k ≡ i → ⊥) → get_or counts k 0 ≤ vec_capacity (get_or (set lists i x) k d)
    go (inl same) =
        subst (λ j. get_or counts j 0 ≤ vec_capacity (get_or (set lists i x) j d)) (sym same)
        (subst (λ m. m ≤ vec_capacity (get_or (set lists i x) i d)) at (subst (λ v. n ≤ vec_capacity v) (sym (get_or-set_same lists i x d l)) e))
    go (inr other) = subst (λ v. get_or counts k 0 ≤ vec_capacity v) (sym (get_or-set_other lists i k x d other)) (h k d (omega (arith, other)))

-- ---- elements that are copied

-- one element more is copied
pub copied_more : {A : Type 0} (xs ys zs : List A) (i : ℕ) (x y : A) → i < length xs → x ≡ get_or xs i x → y ≡ x → ys ≡ take i xs → zs ≡ ys ++ y ∷ [] → zs ≡ take (i + 1) xs
copied_more xs ys zs i x y l at e so more = more ∙ ap₂ (λ bs b. bs ++ b ∷ []) so (e ∙ at) ∙ sym (take_more xs i x l)

-- ---- indices at which nobody lives

-- nobody lives at one index more
pub nobody_more : (xs : List Slot) (from i : ℕ) (s : Slot) (test : Bool) → i < length xs → s ≡ get_or xs i s → test ≡ is_living s.status → test ≡ false →
    ((k : ℕ) → from ≤ k → k < i → lives_at xs k ≡ false) → (k : ℕ) → from ≤ k → k < i + 1 → lives_at xs k ≡ false
nobody_more xs from i s test l at is off h k low less = go (cases_eq k i)
  where
    go : (k ≡ i) ⊎ (k ≡ i → ⊥) → lives_at xs k ≡ false
    go (inl same) = ap (lives_at xs) same ∙ ap (λ (x : Slot). is_living x.status) (sym (at ∙ get_or_default xs i s fresh_slot l)) ∙ sym is ∙ off
    go (inr other) = h k low (omega (arith, other))

-- the entity of an index at which someone lives
pub alive_here : (xs : List Slot) (i generation : ℕ) (s : Slot) (test : Bool) → i < length xs → s ≡ get_or xs i s → test ≡ is_living s.status → test ≡ true → generation ≡ s.generation →
    (let e : Entity = record { index = i; generation = generation } in is_alive xs e) ≡ true
alive_here xs i generation s test l at is on g =
    let there : s ≡ slot_at xs i = at ∙ get_or_default xs i s fresh_slot l in
    ap₂ (λ (x : Slot) (n : ℕ). is_living x.status && (x.generation == n)) (sym there) g ∙ ap (λ b. b && (s.generation == s.generation)) (sym is ∙ on) ∙ eq-eqb s.generation s.generation refl

-- past the end nobody lives
pub nobody_past : (xs : List Slot) (from i : ℕ) → length xs ≤ i → ((k : ℕ) → from ≤ k → k < i → lives_at xs k ≡ false) → (k : ℕ) → from ≤ k → lives_at xs k ≡ false
nobody_past xs from i past h k low = go (cases_lt k i)
  where
    go : (k < i) ⊎ (i ≤ k) → lives_at xs k ≡ false
    go (inl less) = h k low less
    go (inr more) = ap (λ (x : Slot). is_living x.status) (get_or_past xs k fresh_slot (omega arith))

-- ---- faults

-- where there are ids enough, a fault of memory is no other
pub no_other_fault : {T : Type 0} (r : Result T GrantFault) (test : Bool) → IsErrAnd r (λ told. told ≡ grant_fault.Memory) → test ≡ true → IsErrOf r grant_fault.IdsSpent ↔ (test ≡ false)
no_other_fault (Ok x) test is on = absurd is
no_other_fault (Err e) test is on = (λ h. absurd (cc), λ h. absurd (false≢true (sym h ∙ on)))
