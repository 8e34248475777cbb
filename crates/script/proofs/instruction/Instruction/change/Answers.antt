-- Three words are a change where each is its part.
use Rattle.script.proofs.Spelled.{only_change, no_change}
use Rattle.script.proofs.instruction.Instruction.change.Goals as goal

pub returns : goal.returns
returns c = (
  (c.in_ok-named.ensures.0, c.in_ok-read.ensures.0, c.in_ok-read-2.ensures.0),
  only_change c.args.operation.now c.args.target.now c.args.source.now c.requires.has c.requires.emit c.requires.insert c.requires.remove c.in_ok-named.field-0 c.in_ok-read.field-0 c.in_ok-read-2.field-0
      c.in_ok-named.ensures c.in_ok-read.ensures c.in_ok-read-2.ensures,
)

pub returns-in_err-named : goal.returns-in_err-named
returns-in_err-named c =
    rw c.from_residual.ensures (no_change c.args.operation.now c.args.target.now c.args.source.now c.requires.has c.requires.emit c.requires.insert c.requires.remove
    (λ o t s first second third. c.in_err-named.ensures o first))

pub returns-in_err-read : goal.returns-in_err-read
returns-in_err-read c =
    rw c.from_residual-in_err-read.ensures (no_change c.args.operation.now c.args.target.now c.args.source.now c.requires.has c.requires.emit c.requires.insert c.requires.remove
    (λ o t s first second third. c.in_err-read.ensures t second))

pub returns-in_err-read-2 : goal.returns-in_err-read-2
returns-in_err-read-2 c =
    rw c.from_residual-in_err-read-2.ensures (no_change c.args.operation.now c.args.target.now c.args.source.now c.requires.has c.requires.emit c.requires.insert c.requires.remove
    (λ o t s first second third. c.in_err-read-2.ensures s third))
