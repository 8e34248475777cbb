-- Grants of several numbers of ids, one after the other: they are the grant of the sum.
use Rattle.std.proofs.Common.{◌≡◌, ℕ, zero, suc, ◌+◌, ◌-◌, ◌≤◌, ◌&&◌, nat_le, inl, inr, List, [], ◌∷◌, length, sum, refl, ap, sym, ◌∙◌, arith}
use Rattle.std.proofs.lemmas.Bool.{cases_lt}
use Rattle.std.proofs.lemmas.List.Sums.{sum_by-cons}
use Rattle.model.specs.state.State.{Slot, most_indices}
use Rattle.model.specs.state.Ids.{vacant_indices, has_ids, grant, has_ids_for_each, grant_each}
use Rattle.model.proofs.serial.Engine.{grant-none, has_ids-none}
use Rattle.entity_table.proofs.Grants.{grant-suc, grants_least, grants_next, has_ids-is, has_ids-false, has_ids-true, length-grant}

-- the sum of counts
sum-cons : (n : ℕ) (ns : List ℕ) → sum (n ∷ ns) ≡ n + sum ns
sum-cons n ns = sum_by-cons (λ x. x) n ns

-- the grant of a sum is that of one number after the other
grant-plus : (n m : ℕ) (xs : List Slot) → grant (n + m) xs ≡ grant m (grant n xs)
grant-plus zero m xs = ap (λ k. grant k xs) (let e : 0 + m ≡ m = omega arith in e) ∙ ap (grant m) (sym (grant-none xs))
grant-plus (suc n) m xs =
    ap (λ k. grant k xs) (let e : suc n + m ≡ suc (n + m) = omega arith in e) ∙ grant-suc (n + m) xs ∙ grant-plus n m (grant 1 xs) ∙ ap (grant m) (sym (grant-suc n xs))

-- the slots after several grants are those after the grant of the sum
pub grant_each-is : (ns : List ℕ) (xs : List Slot) → grant_each ns xs ≡ grant (sum ns) xs
unfolding grant_each
grant_each-is [] xs = sym (grant-none xs)
grant_each-is (n ∷ ns) xs = grant_each-is ns (grant n xs) ∙ sym (grant-plus n (sum ns) xs) ∙ ap (λ k. grant k xs) (sym (sum-cons n ns))

-- one id takes one vacant index, where there is one
vacant_after_one : (xs : List Slot) → length (vacant_indices (grant 1 xs)) ≡ length (vacant_indices xs) - 1
vacant_after_one xs = go (vacant_indices xs) refl
  where
    go : (ns : List ℕ) → vacant_indices xs ≡ ns → length (vacant_indices (grant 1 xs)) ≡ length ns - 1
    go [] h = ap length (grants_next xs h).left
    go (n ∷ ns) h = let e = ap length (grants_least xs n ns h).left in omega arith

-- how many indices a grant leaves vacant
pub vacant-left : (n : ℕ) (xs : List Slot) → length (vacant_indices (grant n xs)) ≡ length (vacant_indices xs) - n
vacant-left zero xs = ap (λ ys. length (vacant_indices ys)) (grant-none xs) ∙ (let e : length (vacant_indices xs) ≡ length (vacant_indices xs) - 0 = omega arith in e)
vacant-left (suc n) xs =
    ap (λ ys. length (vacant_indices ys)) (grant-suc n xs)
    ∙ (let e : length (vacant_indices (grant n (grant 1 xs))) ≡ length (vacant_indices xs) - suc n = omega (arith, vacant-left n (grant 1 xs), vacant_after_one xs) in e)

-- there are ids for each where there are for the sum
pub has_ids_for_each-is : (ns : List ℕ) (xs : List Slot) → length xs ≤ most_indices → has_ids_for_each ns xs ≡ has_ids (sum ns) xs
unfolding has_ids_for_each
has_ids_for_each-is [] xs few = sym (has_ids-none xs few)
has_ids_for_each-is (n ∷ ns) xs few = elim (cases_lt most_indices (length xs + (n - length (vacant_indices xs)))) [
  | inl over ↦
      ap (λ b. b && has_ids_for_each ns (grant n xs)) (has_ids-false n xs over)
      ∙ sym (has_ids-false (sum (n ∷ ns)) xs (omega (arith, sum-cons n ns)))
  | inr within ↦
      let same : length (grant n xs) + (sum ns - length (vacant_indices (grant n xs))) ≡ length xs + (sum (n ∷ ns) - length (vacant_indices xs)) =
      omega (arith, length-grant n xs, vacant-left n xs, sum-cons n ns) in
      ap (λ b. b && has_ids_for_each ns (grant n xs)) (has_ids-true n xs within)
      ∙ has_ids_for_each-is ns (grant n xs) (omega (arith, length-grant n xs))
      ∙ has_ids-is (sum ns) (grant n xs) ∙ ap (λ k. nat_le k most_indices) same ∙ sym (has_ids-is (sum (n ∷ ns)) xs)
]
