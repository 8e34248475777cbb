-- The words after `insert` are an insertion where each is its part.
use Rattle.std.proofs.Common.{map}
use Rattle.script.proofs.Spelled.{only_insert, no_insert}
use Rattle.script.proofs.instruction.Instruction.insert.Goals as goal

pub returns : goal.returns
returns c =
    only_insert c.args.subject.now c.args.kind.now (map (λ word. word.now) c.args.values.now) c.in_ok-read.field-0 c.in_ok-named.field-0 c.in_ok-read-2.field-0
    c.in_ok-read.ensures c.in_ok-named.ensures c.in_ok-read-2.ensures

pub returns-in_err-read : goal.returns-in_err-read
returns-in_err-read c =
    rw c.from_residual.ensures (no_insert c.args.subject.now c.args.kind.now (map (λ word. word.now) c.args.values.now) (λ s k vs first second third. c.in_err-read.ensures s first))

pub returns-in_err-named : goal.returns-in_err-named
returns-in_err-named c =
    rw c.from_residual-in_err-named.ensures (no_insert c.args.subject.now c.args.kind.now (map (λ word. word.now) c.args.values.now) (λ s k vs first second third. c.in_err-named.ensures k second))

pub returns-in_err-read-2 : goal.returns-in_err-read-2
returns-in_err-read-2 c =
    rw c.from_residual-in_err-read-2.ensures
    (no_insert c.args.subject.now c.args.kind.now (map (λ word. word.now) c.args.values.now) (λ s k vs first second third. c.in_err-read-2.ensures vs third))
