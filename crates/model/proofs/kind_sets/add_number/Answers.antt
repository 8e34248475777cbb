use Rattle.std.proofs.Common.{ℕ, ◌<◌, ◌≤◌, List, length, get_or, sym, subst, ◌∙◌, arith}
use Rattle.model.proofs.serial.SetNumbers.{number-found, number-above, number-put}
use Rattle.model.proofs.kind_sets.add_number.Goals as goal
use Rattle.model.proofs.kind_sets.add_number.Goals.{else-place-len-via-then-place-len+else-index-number, else-place-len-via-else-place-len}

pub returns-then-index-number-clause-ok : goal.returns-then-index-number-clause-ok
returns-then-index-number-clause-ok c =
    let place = c.lesser-place.result in
    let numbers = c.args.numbers.now in
    number-found c.args.number place c.index.result.now numbers.items
    (subst (λ (xs : List ℕ). (k : ℕ) → k < place → get_or xs k 0 < c.args.number) c.deref.ensures.value c.lesser-place.ensures.below)
    (let held = numbers.ok.0 in omega (arith, held, c.if-place-len.true, c.len.ensures)) c.index.ensures c.if-index-number.true

pub returns-clause-ok : goal.returns-clause-ok
returns-clause-ok c =
    let place = c.lesser-place.result in
    let numbers = c.args.numbers.now in
    let held = numbers.ok.0 in
    let within : place ≤ length numbers.items = subst (λ (xs : List ℕ). place ≤ length xs) c.deref.ensures.value c.lesser-place.ensures.within in
    let least : place < length numbers.items → c.args.number ≤ get_or numbers.items place 0
    = subst (λ (xs : List ℕ). place < length xs → c.args.number ≤ get_or xs place 0) c.deref.ensures.value c.lesser-place.ensures.least in
    c.in_ok-insert.ensures.items
    ∙ sym (number-put c.args.number place numbers.items (subst (λ (xs : List ℕ). (k : ℕ) → k < place → get_or xs k 0 < c.args.number) c.deref.ensures.value c.lesser-place.ensures.below) within
    (λ l. elim c.else-place-len.branch [
      | else-place-len-via-then-place-len+else-index-number w ↦ number-above c.args.number place w.index.result.now numbers.items l (least l) w.index.ensures w.if-index-number.false
      | else-place-len-via-else-place-len w ↦ absurd (omega (arith, held, l, c.len.ensures, w.if-place-len.false))
    ]))
