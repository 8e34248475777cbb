-- The numbers that are found are those of the members.
use Rattle.std.proofs.Common.{ℕ, ◌+◌, ◌<◌, ◌≡◌, Bool, true, false, cond, inl, inr, List, [], ◌∷◌, ◌++◌, length, get_or, sym, ap, ◌∙◌, subst, arith, eqb, eq-eqb}
use Rattle.std.proofs.lemmas.List.{get_or_push, get_or_append_left, length_push}
use Rattle.std.proofs.lemmas.Bool.{false≢true, both_ways, or_left, or_right, cases_lt}
use Rattle.model.specs.Lists.{has}
use Rattle.model.specs.declarations.Hierarchy.{Hierarchy}
use Rattle.system_set.specs.Edges.{AreRows, has_member}
use Rattle.system_set.specs.Coverage.{AreNumbersTo, AreNumbers}
use Rattle.system_set.proofs.EdgeLists.{HasSets, member_told, member_test, member_known}
use Rattle.system_set.proofs.Reaching.{has_push, rising_push}
use Rattle.model.proofs.lists.Places.{has-append}

-- ---- the members of an item

pub no_numbers : (sets : ℕ) (rows : List (List Bool)) (item : ℕ) → AreNumbersTo sets rows item sets []
no_numbers sets rows item = record {
  each = λ n. ((λ e. absurd (false≢true e)), (λ found. let low : sets + n < sets = found.0 in absurd (omega arith)));
  rising = tt;
}

-- with one more system
pub numbers_more : (sets : ℕ) (rows : List (List Bool)) (item system number : ℕ) (numbers : List ℕ) (test : Bool) → sets + number ≡ system → has_member sets rows item system ≡ test →
    AreNumbersTo sets rows item system numbers → AreNumbersTo sets rows item (system + 1) (cond test (numbers ++ number ∷ []) numbers)
numbers_more sets rows item system number numbers true at here are = record {
  each = λ n. (
    (λ e. elim (has_push n number numbers e) [
      | inl old ↦ let found = (are.each n).0 old in let low : sets + n < system = found.0 in (omega arith, found.1)
      | inr new ↦ (omega arith, subst (λ (x : ℕ). has_member sets rows item x ≡ true) (sym at ∙ ap (λ (k : ℕ). sets + k) new) here)
    ]),
    (λ found. has-append n numbers (number ∷ []) ∙ elim (cases_lt (sets + n) system) [
      | inl low ↦ or_left (has n numbers) (has n (number ∷ [])) ((are.each n).1 (low, found.1))
      | inr high ↦ let last : sets + n < system + 1 = found.0 in or_right (has n numbers) (has n (number ∷ [])) (or_left (eqb number n) false (eq-eqb number n (omega arith)))
    ]),
  );
  rising = rising_push numbers number are.rising (λ n e. let low : sets + n < system = ((are.each n).0 e).0 in omega arith);
}
numbers_more sets rows item system number numbers false at here are = record {
  each = λ n. (
    (λ e. let found = (are.each n).0 e in let low : sets + n < system = found.0 in (omega arith, found.1)),
    (λ found. elim (cases_lt (sets + n) system) [
      | inl low ↦ (are.each n).1 (low, found.1)
      | inr high ↦
          let last : sets + n < system + 1 = found.0 in
          let same : system ≡ sets + n = omega arith in
          absurd (both_ways _ (subst (λ (x : ℕ). has_member sets rows item x ≡ false) same here) found.1)
    ]),
  );
  rising = are.rising;
}

-- with all systems they are the members
pub numbers_told : (h : Hierarchy) (rows : List (List Bool)) (item : ℕ) (numbers : List ℕ) → AreRows h h.sets rows → HasSets h → AreNumbersTo h.sets rows item h.items numbers → AreNumbers h item numbers
numbers_told h rows item numbers are sets found = record {
  each = λ n. (
    (λ e. let told = (found.each n).0 e in member_told h rows are item (h.sets + n) (omega arith) told.0 told.1),
    (λ member. (found.each n).1 (member_known h item (h.sets + n) member, member_test h rows are sets item (h.sets + n) member)),
  );
  rising = found.rising;
}

-- ---- the members of each item

-- the members of each of the first so many items
pub record AreCoveredTo (h : Hierarchy) (items : List ℕ) (count : ℕ) (lists : List (List ℕ)) : Type 0 where
  pub long : length lists ≡ count
  pub each : (c : ℕ) → c < count → AreNumbers h (get_or items c 0) (get_or lists c [])

pub covered_more : (h : Hierarchy) (items : List ℕ) (count : ℕ) (lists : List (List ℕ)) (numbers : List ℕ) → AreCoveredTo h items count lists → AreNumbers h (get_or items count 0) numbers →
    AreCoveredTo h items (count + 1) (lists ++ numbers ∷ [])
covered_more h items count lists numbers are new = record {
  long = length_push lists numbers ∙ ap (λ (k : ℕ). k + 1) are.long;
  each = λ c low. elim (cases_lt c count) [
    | inl below ↦ subst (λ (ns : List ℕ). AreNumbers h (get_or items c 0) ns) (sym (get_or_append_left lists (numbers ∷ []) [] c (omega (arith, are.long)))) (are.each c below)
    | inr above ↦
        let here : count ≡ c = omega arith in
        subst (λ (ns : List ℕ). AreNumbers h (get_or items c 0) ns) (sym (get_or_push lists numbers [] c (are.long ∙ here))) (subst (λ (k : ℕ). AreNumbers h (get_or items k 0) numbers) here new)
  ];
}
