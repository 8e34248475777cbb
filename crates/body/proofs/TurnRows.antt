-- Rows that stand in turn, one after the other.
use Rattle.std.proofs.Common.{◌≡◌, ℕ, ◌+◌, ◌<◌, ◌≤◌, inl, inr, List, length, get_or, take, sym, ap, ◌∙◌, arith}
use Rattle.std.proofs.lemmas.Bool.{cases_lt}
use Rattle.std.proofs.lemmas.List.{get_or_default, get_or-take, length-take}
use Rattle.std.proofs.lemmas.Option.{slice_get-get_or}
use Rattle.query_plan.specs.declared.row.Row.{Row}
use Rattle.query_plan.specs.Places.{AreEvery}
use Rattle.body.specs.Turns.{AreInTurn, AreInTurnAt}

-- all of an archetype
pub every-turn : (rows : List Row) (n r count : ℕ) → AreEvery n rows → r + count ≤ length rows → AreInTurn rows r count
every-turn rows n r count every within i d l =
    let a = every (r + i) (get_or rows (r + i) d) (slice_get-get_or rows (r + i) d (omega arith)) in
    let b = every r (get_or rows r d) (slice_get-get_or rows r d (omega arith)) in
    (a.0 ∙ sym b.0, a.1 ∙ ap (λ p. p + i) (sym b.1))

-- one
pub one-turn : (rows : List Row) (r : ℕ) → AreInTurn rows r 1
one-turn rows r i d l =
    let at : r + i ≡ r = omega arith in
    let none : i ≡ 0 = omega arith in
    (ap (λ k. (get_or rows k d).archetype) at, ap (λ k. (get_or rows k d).place) at ∙ (let p = (get_or rows r d).place in let e : p ≡ p + i = omega arith in e))

-- one more
pub more-turn : (rows : List Row) (r count : ℕ) (first next : Row) → AreInTurn rows r count → r + count < length rows → first ≡ get_or rows r first → next ≡ get_or rows (r + count) next →
    next.archetype ≡ first.archetype → next.place ≡ first.place + count → AreInTurn rows r (count + 1)
more-turn rows r count first next turn within is_first is_next archetype place i d l = elim (cases_lt i count) [
  | inl low ↦ turn i d low
  | inr high ↦
      let last : i ≡ count = omega arith in
      let a : get_or rows (r + i) d ≡ next = ap (λ k. get_or rows (r + k) d) last ∙ get_or_default rows (r + count) d next within ∙ sym is_next in
      let b : get_or rows r d ≡ first = get_or_default rows r d first (omega arith) ∙ sym is_first in (
        ap (λ (x : Row). x.archetype) a ∙ archetype ∙ ap (λ (x : Row). x.archetype) (sym b),
        ap (λ (x : Row). x.place) a ∙ place ∙ ap (λ k. first.place + k) (sym last) ∙ ap (λ (x : Row). x.place + i) (sym b),
      )
]

-- ---- rows by their numbers

-- the first ones of rows that stand in turn
pub turn-front : (rows : List Row) (ns : List ℕ) (m n : ℕ) → AreInTurnAt rows (take m ns) n → n ≤ m → AreInTurnAt rows (take n ns) (length (take n ns))
turn-front rows ns m n turn few i d l =
    let short : i < n = omega (arith, length-take n ns) in
    let p = turn i d short in
    let same : get_or (take n ns) i 0 ≡ get_or (take m ns) i 0 = get_or-take n ns i 0 short ∙ sym (get_or-take m ns i 0 (omega arith)) in
    let first : get_or (take n ns) 0 0 ≡ get_or (take m ns) 0 0 = get_or-take n ns 0 0 (omega arith) ∙ sym (get_or-take m ns 0 0 (omega arith)) in (
      ap (λ r. (get_or rows r d).archetype) same ∙ p.0 ∙ sym (ap (λ r. (get_or rows r d).archetype) first),
      ap (λ r. (get_or rows r d).place) same ∙ p.1 ∙ sym (ap (λ r. (get_or rows r d).place + i) first),
    )
