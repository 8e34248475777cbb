-- Four words are a comparison where each is its part.
use Rattle.script.proofs.Spelled.{only_compare, no_compare}
use Rattle.script.proofs.instruction.Instruction.compare.Goals as goal

pub returns : goal.returns
returns c = (
  (c.in_ok-named.ensures.0, c.in_ok-read.ensures.0, c.in_ok-read-2.ensures.0, c.in_ok-read_count.ensures.0),
  only_compare c.args.relation.now c.args.left.now c.args.right.now c.args.passed.now c.in_ok-named.field-0 c.in_ok-read.field-0 c.in_ok-read-2.field-0 c.in_ok-read_count.field-0 c.requires
      c.in_ok-named.ensures c.in_ok-read.ensures c.in_ok-read-2.ensures c.in_ok-read_count.ensures,
)

pub returns-in_err-named : goal.returns-in_err-named
returns-in_err-named c =
    rw c.from_residual.ensures (no_compare c.args.relation.now c.args.left.now c.args.right.now c.args.passed.now c.requires (λ r x y n first second third fourth. c.in_err-named.ensures r first))

pub returns-in_err-read : goal.returns-in_err-read
returns-in_err-read c =
    rw c.from_residual-in_err-read.ensures (no_compare c.args.relation.now c.args.left.now c.args.right.now c.args.passed.now c.requires (λ r x y n first second third fourth. c.in_err-read.ensures x second))

pub returns-in_err-read-2 : goal.returns-in_err-read-2
returns-in_err-read-2 c =
    rw c.from_residual-in_err-read-2.ensures
    (no_compare c.args.relation.now c.args.left.now c.args.right.now c.args.passed.now c.requires (λ r x y n first second third fourth. c.in_err-read-2.ensures y third))

pub returns-in_err-read_count : goal.returns-in_err-read_count
returns-in_err-read_count c =
    rw c.from_residual-in_err-read_count.ensures
    (no_compare c.args.relation.now c.args.left.now c.args.right.now c.args.passed.now c.requires (λ r x y n first second third fourth. c.in_err-read_count.ensures n fourth))
