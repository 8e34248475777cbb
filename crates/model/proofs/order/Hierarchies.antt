-- The computed test of what reaches a set is exact.
use Rattle.std.proofs.Common.{ℕ, zero, suc, ◌<◌, ◌≡◌, Bool, true, ◌==◌, ◌&&◌, ◌||◌, inl, inr, List, [], ◌∷◌, ◌++◌, length, refl, sym, subst, arith, true≢false, eqb-true, eq-eqb}
use Rattle.std.specs.List.{list_any}
use Rattle.std.proofs.lemmas.Bool.{and_parts, and_from, or_cases, or_left, or_right}
use Rattle.model.specs.Lists.{IsIn}
use Rattle.model.specs.declarations.Walks.{IsWalk}
use Rattle.model.specs.declarations.Hierarchy.{Hierarchy, IsHeld, Reaches, reaches_within}

-- a pair that passes a test
found_pair : (test : ℕ × ℕ → Bool) (pairs : List (ℕ × ℕ)) → list_any test pairs ≡ true → (pair : ℕ × ℕ) × IsIn pair pairs × (test pair ≡ true)
found_pair test [] e = absurd (true≢false (sym e))
found_pair test (p ∷ pairs) e = elim (or_cases (test p) (list_any test pairs) e) [
  | inl here ↦ (p, inl refl, here)
  | inr there ↦ let found = found_pair test pairs there in (found.0, inr found.1, found.2)
]

pair_found : (test : ℕ × ℕ → Bool) (pairs : List (ℕ × ℕ)) (pair : ℕ × ℕ) → IsIn pair pairs → test pair ≡ true → list_any test pairs ≡ true
pair_found test [] pair inside e = absurd inside
pair_found test (p ∷ pairs) pair (inl same) e = or_left (test p) (list_any test pairs) (subst (λ (q : ℕ × ℕ). test q ≡ true) same e)
pair_found test (p ∷ pairs) pair (inr inside) e = or_right (test p) (list_any test pairs) (pair_found test pairs pair inside e)

-- what is tested reaches the set
pub reaches_from_test : (count : ℕ) (h : Hierarchy) (item holder : ℕ) → reaches_within count h item holder ≡ true → Reaches h item holder
reaches_from_test zero h item holder e = absurd (true≢false (sym e))
reaches_from_test (suc count) h item holder e =
    let test : ℕ × ℕ → Bool = λ pair. (pair.0 == item) && ((pair.1 == holder) || reaches_within count h pair.1 holder) in
    let found = found_pair test h.inside e in
    let parts = and_parts (found.0.0 == item) ((found.0.1 == holder) || reaches_within count h found.0.1 holder) found.2 in
    let held : IsHeld h item found.0.1 = subst (λ (x : ℕ). IsIn (x, found.0.1) h.inside) (eqb-true found.0.0 item parts.0) found.1 in
    elim (or_cases (found.0.1 == holder) (reaches_within count h found.0.1 holder) parts.1) [
      | inl here ↦ ([], (subst (λ (x : ℕ). IsHeld h item x) (eqb-true found.0.1 holder here) held, tt))
      | inr there ↦ let further = reaches_from_test count h found.0.1 holder there in (found.0.1 ∷ further.0, (held, further.1))
    ]

-- and with fewer sets between than are looked at the test says so
pub test_from_reaches : (count : ℕ) (h : Hierarchy) (item holder : ℕ) (between : List ℕ) → IsWalk (IsHeld h) (item ∷ (between ++ holder ∷ [])) → length between < count →
    reaches_within count h item holder ≡ true
test_from_reaches zero h item holder between walk few = absurd (omega arith)
test_from_reaches (suc count) h item holder [] walk few =
    pair_found (λ pair. (pair.0 == item) && ((pair.1 == holder) || reaches_within count h pair.1 holder)) h.inside (item, holder) walk.0
    (and_from (item == item) ((holder == holder) || reaches_within count h holder holder) (eq-eqb item item refl) (or_left (holder == holder) (reaches_within count h holder holder) (eq-eqb holder holder refl)))
test_from_reaches (suc count) h item holder (m ∷ between) walk few =
    pair_found (λ pair. (pair.0 == item) && ((pair.1 == holder) || reaches_within count h pair.1 holder)) h.inside (item, m) walk.0
    (and_from (item == item) ((m == holder) || reaches_within count h m holder) (eq-eqb item item refl)
    (or_right (m == holder) (reaches_within count h m holder) (test_from_reaches count h m holder between walk.1 (omega arith))))
