-- Each reader reads what its parts spell.
use Rattle.std.proofs.Common.{Some, ◌-◌, refl, arith, lit<}
use Rattle.model.specs.access.Condition.{Condition}
use Rattle.run_condition.specs.declared.word.Word.TheVariants as word
use Rattle.run_condition.specs.Grammar.{IsMade, IsConditionWithin}
use Rattle.run_condition.specs.Fronts.{AtFront, BeforeComma, InBrackets}
use Rattle.run_condition.proofs.Marks.{utf8_rest, utf8_tail, utf8_mark}
use Rattle.run_condition.proofs.Readers.{rest_refused}
use Rattle.run_condition.proofs.Conditions.{BothWithin, front_reads, front_refuses, behind_reads, last_only, last_none, last_refuses, left_only, left_none, left_refuses, two_only, two_first, two_second, brackets_only, brackets_refuses, not_into, not_out, and_into, and_out, or_into, or_out, not_flat, and_flat, or_flat, held_reads}
use Rattle.run_condition.proofs.reading.+condition.Goals as goal

pub read_front-returns-in_err-word : goal.read_front-returns-in_err-word
read_front-returns-in_err-word t c = rest_refused (AtFront (IsConditionWithin c.args.depth)) c.args.text.now c.from_residual.result _ c.from_residual.ensures.1
    (front_refuses (IsMade c.args.depth) _ _ _ c.cut.ensures.whole c.cut.ensures.head c.cut.ensures.rest _ c.in_err-word.ensures)

pub read_front-read_behind-requires-text-text : goal.read_front-read_behind-requires-text-text
read_front-read_behind-requires-text-text t c κs = utf8_mark _ _ _ c.cut.ensures.whole c.cut.ensures.rest c.requires.0.1.0

pub read_front-returns : goal.read_front-returns
read_front-returns t c = front_reads (IsMade c.args.depth) _ _ _ c.cut.ensures.whole c.cut.ensures.head c.cut.ensures.rest _ c.in_ok-word.ensures _ c.read_behind.ensures

pub read_behind-read_call-requires-text-text : goal.read_behind-read_call-requires-text-text
read_behind-read_call-requires-text-text t c κs = utf8_tail _ _ 40 c.in-Some.ensures (lit< tt) c.requires.0.1.1.0

pub read_behind-returns-in-Some : goal.read_behind-returns-in-Some
read_behind-returns-in-Some t c = behind_reads (λ x. IsMade c.args.depth x c.args.word) c.args.text.now c.in-Some.inside.now c.in-Some.ensures _ c.read_call.ensures

pub read_behind-returns-in-None : goal.read_behind-returns-in-None
read_behind-returns-in-None t c = c.read_alone.ensures c.args.depth

pub read_call-read_not-requires-text-text : goal.read_call-read_not-requires-text-text
read_call-read_not-requires-text-text t c κs = c.requires.0.1.1.0

pub read_call-returns-in-Not : goal.read_call-returns-in-Not
read_call-returns-in-Not t c = rw c.in-Not.is c.read_not.ensures

pub read_call-read_and-requires-text-text : goal.read_call-read_and-requires-text-text
read_call-read_and-requires-text-text t c κs = c.requires.0.1.1.0

pub read_call-returns-in-And : goal.read_call-returns-in-And
read_call-returns-in-And t c = rw c.in-And.is c.read_and.ensures

pub read_call-read_or-requires-text-text : goal.read_call-read_or-requires-text-text
read_call-read_or-requires-text-text t c κs = c.requires.0.1.1.0

pub read_call-returns-in-Or : goal.read_call-returns-in-Or
read_call-returns-in-Or t c = rw c.in-Or.is c.read_or.ensures

pub read_call-returns-in_default : goal.read_call-returns-in_default
read_call-returns-in_default t c = held_reads c.args.depth c.args.word c.args.text.now c.in_default.not-Not c.in_default.not-And c.in_default.not-Or _ c.read_held.ensures

pub read_not-returns-then-depth-eq0 : goal.read_not-returns-then-depth-eq0
read_not-returns-then-depth-eq0 t c = not_flat c.args.depth c.args.text.now c.if-depth-eq0.true

pub read_not-read_last-requires-text-text : goal.read_not-read_last-requires-text-text
read_not-read_last-requires-text-text t c κs = c.requires.0.1.0

pub read_not-returns-in_err-inner : goal.read_not-returns-in_err-inner
read_not-returns-in_err-inner t c = rest_refused (InBrackets (λ x inside. IsMade c.args.depth x word.Not (Some inside))) c.args.text.now c.from_residual.result _ c.from_residual.ensures.1
    (brackets_refuses (λ x inside. IsMade c.args.depth x word.Not (Some inside)) (IsConditionWithin (c.args.depth - 1)) Condition.Not (not_into c.args.depth (omega (arith, c.if-depth-eq0.false))) (not_out c.args.depth) c.args.text.now _ c.in_err-inner.ensures)

pub read_not-returns : goal.read_not-returns
read_not-returns t c = rw c.in_ok-not.ensures (brackets_only (λ x inside. IsMade c.args.depth x word.Not (Some inside)) (IsConditionWithin (c.args.depth - 1)) Condition.Not (not_into c.args.depth (omega (arith, c.if-depth-eq0.false))) (not_out c.args.depth) c.args.text.now _ _ c.in_ok-inner.ensures)

pub read_and-returns-then-depth-eq0 : goal.read_and-returns-then-depth-eq0
read_and-returns-then-depth-eq0 t c = and_flat c.args.depth c.args.text.now c.if-depth-eq0.true

pub read_and-read_two-requires-text-text : goal.read_and-read_two-requires-text-text
read_and-read_two-requires-text-text t c κs = c.requires.0.1.0

pub read_and-returns-in_err-left : goal.read_and-returns-in_err-left
read_and-returns-in_err-left t c = rest_refused (InBrackets (λ x inside. IsMade c.args.depth x word.And (Some inside))) c.args.text.now c.from_residual.result _ c.from_residual.ensures.1
    (brackets_refuses (λ x inside. IsMade c.args.depth x word.And (Some inside)) (BothWithin (c.args.depth - 1)) (λ (v : Condition × Condition). Condition.And v.0 v.1) (and_into c.args.depth (omega (arith, c.if-depth-eq0.false))) (and_out c.args.depth) c.args.text.now _ c.in_err-left.ensures)

pub read_and-returns : goal.read_and-returns
read_and-returns t c = rw c.in_ok-and.ensures (brackets_only (λ x inside. IsMade c.args.depth x word.And (Some inside)) (BothWithin (c.args.depth - 1)) (λ (v : Condition × Condition). Condition.And v.0 v.1) (and_into c.args.depth (omega (arith, c.if-depth-eq0.false))) (and_out c.args.depth) c.args.text.now (c.in_ok-left.left, c.in_ok-left.right) _ c.in_ok-left.ensures)

pub read_or-returns-then-depth-eq0 : goal.read_or-returns-then-depth-eq0
read_or-returns-then-depth-eq0 t c = or_flat c.args.depth c.args.text.now c.if-depth-eq0.true

pub read_or-read_two-requires-text-text : goal.read_or-read_two-requires-text-text
read_or-read_two-requires-text-text t c κs = c.requires.0.1.0

pub read_or-returns-in_err-left : goal.read_or-returns-in_err-left
read_or-returns-in_err-left t c = rest_refused (InBrackets (λ x inside. IsMade c.args.depth x word.Or (Some inside))) c.args.text.now c.from_residual.result _ c.from_residual.ensures.1
    (brackets_refuses (λ x inside. IsMade c.args.depth x word.Or (Some inside)) (BothWithin (c.args.depth - 1)) (λ (v : Condition × Condition). Condition.Or v.0 v.1) (or_into c.args.depth (omega (arith, c.if-depth-eq0.false))) (or_out c.args.depth) c.args.text.now _ c.in_err-left.ensures)

pub read_or-returns : goal.read_or-returns
read_or-returns t c = rw c.in_ok-or.ensures (brackets_only (λ x inside. IsMade c.args.depth x word.Or (Some inside)) (BothWithin (c.args.depth - 1)) (λ (v : Condition × Condition). Condition.Or v.0 v.1) (or_into c.args.depth (omega (arith, c.if-depth-eq0.false))) (or_out c.args.depth) c.args.text.now (c.in_ok-left.left, c.in_ok-left.right) _ c.in_ok-left.ensures)

pub read_two-read_left-requires-text-text : goal.read_two-read_left-requires-text-text
read_two-read_left-requires-text-text t c κs = c.requires.0.1.0

pub read_two-returns-in_err-left : goal.read_two-returns-in_err-left
read_two-returns-in_err-left t c = rest_refused (InBrackets (BothWithin c.args.depth)) c.args.text.now c.from_residual.result _ c.from_residual.ensures.1 (two_first (IsConditionWithin c.args.depth) c.args.text.now _ c.in_err-left.ensures)

pub read_two-read_last-requires-text-text : goal.read_two-read_last-requires-text-text
read_two-read_last-requires-text-text t c κs = utf8_tail _ _ 44 refl (lit< tt) (utf8_rest _ _ _ c.in_ok-left.ensures.0.1 c.in_ok-left.ensures.0.2 c.requires.0.1.0)

pub read_two-returns-in_err-right : goal.read_two-returns-in_err-right
read_two-returns-in_err-right t c = rest_refused (InBrackets (BothWithin c.args.depth)) c.args.text.now c.from_residual-in_err-right.result _ c.from_residual-in_err-right.ensures.1
    (two_second (IsConditionWithin c.args.depth) c.args.text.now c.in_ok-left.left c.in_ok-left.after.now c.in_ok-left.ensures _ c.in_err-right.ensures)

pub read_two-returns : goal.read_two-returns
read_two-returns t c = two_only (IsConditionWithin c.args.depth) c.args.text.now c.in_ok-left.left c.in_ok-right.right c.in_ok-left.after.now c.in_ok-right.rest.now c.in_ok-left.ensures c.in_ok-right.ensures

pub read_last-read_front-requires-text-text : goal.read_last-read_front-requires-text-text
read_last-read_front-requires-text-text t c κs = c.requires.0.1.0

pub read_last-returns-in_err-cond : goal.read_last-returns-in_err-cond
read_last-returns-in_err-cond t c = rest_refused (InBrackets (IsConditionWithin c.args.depth)) c.args.text.now c.from_residual.result _ c.from_residual.ensures.1 (last_refuses (IsConditionWithin c.args.depth) c.args.text.now _ c.in_err-cond.ensures)

pub read_last-returns-in-Some : goal.read_last-returns-in-Some
read_last-returns-in-Some t c = last_only (IsConditionWithin c.args.depth) c.args.text.now _ _ _ c.in_ok-cond.ensures c.in-Some.ensures

pub read_last-returns-in-None : goal.read_last-returns-in-None
read_last-returns-in-None t c = last_none (IsConditionWithin c.args.depth) c.args.text.now _ _ c.in_ok-cond.ensures c.in-None.ensures

pub read_left-read_front-requires-text-text : goal.read_left-read_front-requires-text-text
read_left-read_front-requires-text-text t c κs = c.requires.0.1.0

pub read_left-returns-in_err-cond : goal.read_left-returns-in_err-cond
read_left-returns-in_err-cond t c = rest_refused (BeforeComma (IsConditionWithin c.args.depth)) c.args.text.now c.from_residual.result _ c.from_residual.ensures.1 (left_refuses (IsConditionWithin c.args.depth) c.args.text.now _ c.in_err-cond.ensures)

pub read_left-returns-in-Some : goal.read_left-returns-in-Some
read_left-returns-in-Some t c = left_only (IsConditionWithin c.args.depth) c.args.text.now _ _ _ c.in_ok-cond.ensures c.in-Some.ensures

pub read_left-returns-in-None : goal.read_left-returns-in-None
read_left-returns-in-None t c = left_none (IsConditionWithin c.args.depth) c.args.text.now _ _ c.in_ok-cond.ensures c.in-None.ensures
