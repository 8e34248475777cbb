-- A change is put among changes: where changes are, and what they make of a slot.
use Rattle.std.proofs.Common.{◌≡◌, ℕ, zero, suc, arith, ◌+◌, ◌<◌, Bool, true, false, cond, ◌==◌, ◌⊎◌, inl, inr, List, [], ◌∷◌, ◌++◌, length, get_or, set, Option, Some, None, option_map, refl, sym, ap, subst, ◌∙◌, eqb-true}
use Rattle.std.specs.List.{AllByRecursion}
use Rattle.std.proofs.Math.Seq.{set-append_seam}
use Rattle.std.proofs.lemmas.List.{get_or_push, length_push}
use Rattle.std.proofs.lemmas.Bool.{both_ways, eq-eqb, ne_eqb}
use Rattle.std.proofs.lemmas.Bool.Decides.{nat_tests}
use Rattle.model.proofs.lists.Each.{each-at}
use Rattle.model.specs.state.State.{Slot}
use Rattle.archetype_store.specs.declared.change.EntityChange.{EntityChange}
use Rattle.archetype_store.specs.Changes.{slot_left, change_at, AreOfOtherIndices}
use Rattle.archetype_store.proofs.RowMoves.{index_flipped as turned}
use Rattle.command_queue.specs.Pending.{place_of, put_change}

-- ---- the place of an index

not_there : (b : Bool) (o : Option ℕ) → cond b (Some 0) (option_map suc o) ≡ None → (b ≡ false) × (o ≡ None)
not_there true o h = absurd (cc)
not_there false None h = (refl, refl)
not_there false (Some n) h = absurd (cc)

there : (b : Bool) (o : Option ℕ) (p : ℕ) → cond b (Some 0) (option_map suc o) ≡ Some p → ((b ≡ true) × (p ≡ 0)) ⊎ ((b ≡ false) × ((q : ℕ) × (p ≡ suc q) × (o ≡ Some q)))
there true o p h = inl (refl, cc)
there false None p h = absurd (cc)
there false (Some n) p h = inr (refl, (n, cc, refl))

-- the first change of an index is put at the end
pub put_first : (c : EntityChange) (cs : List EntityChange) → place_of c.entity.index cs ≡ None → cs ++ c ∷ [] ≡ put_change c cs
put_first c [] h = refl
put_first c (d ∷ ds) h =
    let no = not_there (d.entity.index == c.entity.index) (place_of c.entity.index ds) h in
    ap (λ rest. d ∷ rest) (put_first c ds no.1) ∙ sym (ap (λ b. cond b (c ∷ ds) (d ∷ put_change c ds)) no.0)

-- another one in the place of the one before
pub put_again : (c : EntityChange) (cs : List EntityChange) (p : ℕ) → place_of c.entity.index cs ≡ Some p → set cs p c ≡ put_change c cs
put_again c [] p h = absurd (cc)
put_again c (d ∷ ds) p h = go (there (d.entity.index == c.entity.index) (place_of c.entity.index ds) p h) (put_again c ds)
  where
    go : (((d.entity.index == c.entity.index) ≡ true) × (p ≡ 0)) ⊎ (((d.entity.index == c.entity.index) ≡ false) × ((q : ℕ) × (p ≡ suc q) × (place_of c.entity.index ds ≡ Some q))) →
        ((q : ℕ) → place_of c.entity.index ds ≡ Some q → set ds q c ≡ put_change c ds) → set (d ∷ ds) p c ≡ put_change c (d ∷ ds)
    go (inl h) more = ap (λ i. set (d ∷ ds) i c) h.1 ∙ sym (ap (λ b. cond b (c ∷ ds) (d ∷ put_change c ds)) h.0)
    go (inr h) more = ap (λ i. set (d ∷ ds) i c) h.1.1 ∙ ap (λ rest. d ∷ rest) (more h.1.0 h.1.2) ∙ sym (ap (λ b. cond b (c ∷ ds) (d ∷ put_change c ds)) h.0)

-- what stands at the place of an index
pub record IsThere (index : ℕ) (cs : List EntityChange) (p : ℕ) : Type 0 where
  pub within : p < length cs
  pub index_is : (d : EntityChange) → (get_or cs p d).entity.index ≡ index

pub at_place : (index : ℕ) (cs : List EntityChange) (p : ℕ) → place_of index cs ≡ Some p → IsThere index cs p
at_place index [] p h = absurd (cc)
at_place index (c ∷ cs) p h = go (there (c.entity.index == index) (place_of index cs) p h) (at_place index cs)
  where
    go : (((c.entity.index == index) ≡ true) × (p ≡ 0)) ⊎ (((c.entity.index == index) ≡ false) × ((q : ℕ) × (p ≡ suc q) × (place_of index cs ≡ Some q))) →
        ((q : ℕ) → place_of index cs ≡ Some q → IsThere index cs q) → IsThere index (c ∷ cs) p
    go (inl h) more = record {
      within = omega (arith, h.1);
      index_is = λ d. subst (λ i. (get_or (c ∷ cs) i d).entity.index ≡ index) (sym h.1) (eqb-true c.entity.index index h.0);
    }
    go (inr h) more = let r = more h.1.0 h.1.2 in record {
      within = omega (arith, h.1.1, r.within);
      index_is = λ d. subst (λ i. (get_or (c ∷ cs) i d).entity.index ≡ index) (sym h.1.1) (r.index_is d);
    }

-- ---- places after a change is put

place_more : (b e : Bool) (o : Option ℕ) (n : ℕ) → (b ≡ true → e ≡ true → ⊥) → cond e (Some 0) (option_map suc (cond b (Some n) o)) ≡ cond b (Some (suc n)) (cond e (Some 0) (option_map suc o))
place_more true true o n apart = absurd (apart refl refl)
place_more true false o n apart = refl
place_more false e o n apart = refl

two_indices : (a b q : ℕ) → (a == b) ≡ false → (b == q) ≡ true → (a == q) ≡ true → ⊥
two_indices a b q h j k = grind (arith, nat_tests)

same_test : (a b q : ℕ) → (a == b) ≡ true → (a == q) ≡ (b == q)
same_test a b q h = ap (λ n. n == q) (eqb-true a b h)

pub place_first : (q : ℕ) (c : EntityChange) (cs : List EntityChange) → place_of c.entity.index cs ≡ None → place_of q (put_change c cs) ≡ cond (c.entity.index == q) (Some (length cs)) (place_of q cs)
place_first q c [] h = refl
place_first q c (d ∷ ds) h =
    let no = not_there (d.entity.index == c.entity.index) (place_of c.entity.index ds) h in
    ap (λ b. place_of q (cond b (c ∷ ds) (d ∷ put_change c ds))) no.0
    ∙ ap (λ o. cond (d.entity.index == q) (Some 0) (option_map suc o)) (place_first q c ds no.1)
    ∙ place_more (c.entity.index == q) (d.entity.index == q) (place_of q ds) (length ds) (two_indices d.entity.index c.entity.index q no.0)

-- the first change of an index, and another one of it in its place
module _ (cs : List EntityChange) (d c : EntityChange) (same : c.entity.index ≡ d.entity.index) (first : place_of d.entity.index cs ≡ None) where
  first_too : place_of c.entity.index cs ≡ None
  first_too = ap (λ i. place_of i cs) same ∙ first

  pub put_filled : set (put_change d cs) (length cs) c ≡ put_change c cs
  put_filled = ap (λ ds. set ds (length cs) c) (sym (put_first d cs first)) ∙ set-append_seam cs d [] c ∙ put_first c cs first_too

  pub place_filled : (q : ℕ) → place_of q (set (put_change d cs) (length cs) c) ≡ place_of q (put_change d cs)
  place_filled q = ap (place_of q) put_filled ∙ place_first q c cs first_too
      ∙ ap (λ i. cond (i == q) (Some (length cs)) (place_of q cs)) same ∙ sym (place_first q d cs first)

  pub length_first : length (put_change d cs) ≡ length cs + 1
  length_first = ap length (sym (put_first d cs first)) ∙ length_push cs d

  pub read_first : (x : EntityChange) → get_or (put_change d cs) (length cs) x ≡ d
  read_first x = ap (λ ds. get_or ds (length cs) x) (sym (put_first d cs first)) ∙ get_or_push cs d x (length cs) refl

pub place_again : (q : ℕ) (c : EntityChange) (cs : List EntityChange) (p : ℕ) → place_of c.entity.index cs ≡ Some p → place_of q (put_change c cs) ≡ place_of q cs
place_again q c [] p h = absurd (cc)
place_again q c (d ∷ ds) p h = go (there (d.entity.index == c.entity.index) (place_of c.entity.index ds) p h) (place_again q c ds)
  where
    go : (((d.entity.index == c.entity.index) ≡ true) × (p ≡ 0)) ⊎ (((d.entity.index == c.entity.index) ≡ false) × ((r : ℕ) × (p ≡ suc r) × (place_of c.entity.index ds ≡ Some r))) →
        ((r : ℕ) → place_of c.entity.index ds ≡ Some r → place_of q (put_change c ds) ≡ place_of q ds) → place_of q (put_change c (d ∷ ds)) ≡ place_of q (d ∷ ds)
    go (inl h) more = ap (λ b. place_of q (cond b (c ∷ ds) (d ∷ put_change c ds))) h.0
        ∙ ap (λ b. cond b (Some 0) (option_map suc (place_of q ds))) (sym (same_test d.entity.index c.entity.index q h.0))
    go (inr h) more = ap (λ b. place_of q (cond b (c ∷ ds) (d ∷ put_change c ds))) h.0 ∙ ap (λ o. cond (d.entity.index == q) (Some 0) (option_map suc o)) (more h.1.0 h.1.2)

-- ---- what is true of each

pub each_put : (P : EntityChange → Type 0) (c : EntityChange) (cs : List EntityChange) → P c → AllByRecursion P cs → AllByRecursion P (put_change c cs)
each_put P c [] p h = (p, tt)
each_put P c (d ∷ ds) p h = go (d.entity.index == c.entity.index) (each_put P c ds p h.1)
  where
    go : (b : Bool) → AllByRecursion P (put_change c ds) → AllByRecursion P (cond b (c ∷ ds) (d ∷ put_change c ds))
    go true more = (p, h.1)
    go false more = (h.0, more)

-- no two are of one index
pub apart_put : (c : EntityChange) (cs : List EntityChange) → AreOfOtherIndices cs → AreOfOtherIndices (put_change c cs)
apart_put c [] h = (tt, tt)
apart_put c (d ∷ ds) h = go (d.entity.index == c.entity.index) refl (apart_put c ds h.1)
  where
    go : (b : Bool) → (d.entity.index == c.entity.index) ≡ b → AreOfOtherIndices (put_change c ds) → AreOfOtherIndices (cond b (c ∷ ds) (d ∷ put_change c ds))
    go true e more = (subst (λ n. AllByRecursion (λ (x : EntityChange). (x.entity.index == n) ≡ false) ds) (eqb-true d.entity.index c.entity.index e) h.0, h.1)
    go false e more = (each_put (λ x. (x.entity.index == d.entity.index) ≡ false) c ds (turned d.entity.index c.entity.index e) h.0, more)

-- ---- what is made of a slot

hidden : (i a b : ℕ) (x y z : Slot) → (a == b) ≡ true → cond (i == b) x z ≡ cond (i == b) x (cond (i == a) y z)
hidden i a b x y z h = grind (arith, nat_tests)

swapped : (i a b : ℕ) (x y z : Slot) → (a == b) ≡ false → cond (i == a) y (cond (i == b) x z) ≡ cond (i == b) x (cond (i == a) y z)
swapped i a b x y z h = grind (arith, nat_tests)

pub change_put : (i : ℕ) (slot : Slot) (c : EntityChange) (cs : List EntityChange) → change_at (put_change c cs) i slot ≡ cond (i == c.entity.index) (slot_left c.fate slot) (change_at cs i slot)
change_put i slot c [] = refl
change_put i slot c (d ∷ ds) = go (d.entity.index == c.entity.index) refl (change_put i slot c ds)
  where
    go : (b : Bool) → (d.entity.index == c.entity.index) ≡ b → change_at (put_change c ds) i slot ≡ cond (i == c.entity.index) (slot_left c.fate slot) (change_at ds i slot) →
        change_at (cond b (c ∷ ds) (d ∷ put_change c ds)) i slot ≡ cond (i == c.entity.index) (slot_left c.fate slot) (cond (i == d.entity.index) (slot_left d.fate slot) (change_at ds i slot))
    go true e more = hidden i d.entity.index c.entity.index _ _ _ e
    go false e more = ap (λ s. cond (i == d.entity.index) (slot_left d.fate slot) s) more ∙ swapped i d.entity.index c.entity.index _ _ _ e

-- no change is of the index
pub change_none : (i : ℕ) (slot : Slot) (cs : List EntityChange) → place_of i cs ≡ None → change_at cs i slot ≡ slot
change_none i slot [] h = refl
change_none i slot (c ∷ cs) h =
    let no = not_there (c.entity.index == i) (place_of i cs) h in
    ap (λ b. cond b (slot_left c.fate slot) (change_at cs i slot)) (turned c.entity.index i no.0) ∙ change_none i slot cs no.1

turned_same : (a b : ℕ) → (a == b) ≡ true → (b == a) ≡ true
turned_same a b h = grind (arith, nat_tests)

-- the change at a place is
pub change_some : (i : ℕ) (slot : Slot) (cs : List EntityChange) (p : ℕ) (d : EntityChange) → place_of i cs ≡ Some p → change_at cs i slot ≡ slot_left (get_or cs p d).fate slot
change_some i slot [] p d h = absurd (cc)
change_some i slot (c ∷ cs) p d h = go (there (c.entity.index == i) (place_of i cs) p h) (λ q. change_some i slot cs q d)
  where
    go : (((c.entity.index == i) ≡ true) × (p ≡ 0)) ⊎ (((c.entity.index == i) ≡ false) × ((q : ℕ) × (p ≡ suc q) × (place_of i cs ≡ Some q))) →
        ((q : ℕ) → place_of i cs ≡ Some q → change_at cs i slot ≡ slot_left (get_or cs q d).fate slot) → change_at (c ∷ cs) i slot ≡ slot_left (get_or (c ∷ cs) p d).fate slot
    go (inl h) more = ap (λ b. cond b (slot_left c.fate slot) (change_at cs i slot)) (turned_same c.entity.index i h.0) ∙ sym (ap (λ n. slot_left (get_or (c ∷ cs) n d).fate slot) h.1)
    go (inr h) more = ap (λ b. cond b (slot_left c.fate slot) (change_at cs i slot)) (turned c.entity.index i h.0) ∙ more h.1.0 h.1.2 ∙ sym (ap (λ n. slot_left (get_or (c ∷ cs) n d).fate slot) h.1.1)

-- where the last change is of an index, no other is
pub place_last : (index : ℕ) (cs : List EntityChange) (n : ℕ) (d : EntityChange) → AreOfOtherIndices cs → length cs ≡ suc n → (get_or cs n d).entity.index ≡ index → place_of index cs ≡ Some n
place_last index [] n d apart many h = absurd (cc)
place_last index (c ∷ []) zero d apart many h = ap (λ (b : Bool). cond b (Some 0) None) (eq-eqb c.entity.index index h)
place_last index (c ∷ []) (suc n) d apart many h = absurd (omega arith)
place_last index (c ∷ e ∷ es) zero d apart many h = absurd (omega arith)
place_last index (c ∷ e ∷ es) (suc n) d apart many h =
    let other : ((get_or (e ∷ es) n d).entity.index == c.entity.index) ≡ false = each-at (λ (x : EntityChange). (x.entity.index == c.entity.index) ≡ false) (e ∷ es) n d (omega arith) apart.0 in
    let passed : (c.entity.index == index) ≡ false = ne_eqb c.entity.index index (λ same. both_ways ((get_or (e ∷ es) n d).entity.index == c.entity.index) other (eq-eqb (get_or (e ∷ es) n d).entity.index c.entity.index (h ∙ sym same))) in
    ap (λ (b : Bool). cond b (Some 0) (option_map suc (place_of index (e ∷ es)))) passed ∙ ap (option_map suc) (place_last index (e ∷ es) n d apart.1 (omega arith) h)

pub place_none : (index : ℕ) (cs : List EntityChange) → length cs ≡ 0 → place_of index cs ≡ None
place_none index [] h = refl
place_none index (c ∷ cs) h = absurd (cc)
