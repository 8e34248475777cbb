use Rattle.std.proofs.Common.{◌-◌, arith}
use Rattle.model.proofs.serial.SetNumbers.{rising-below}
use Rattle.model.proofs.kind_sets.lesser.Goals as goal

pub returns-else-number-numbers-clause-below : goal.returns-else-number-numbers-clause-below
returns-else-number-numbers-clause-below c = λ k before.
    let place = c.loop-place.place in
    let numbers = c.args.numbers.now in
    let within = c.loop-place.invariant.within in
    let some = c.loop-place-test.true in
    rising-below numbers c.args.number (place - 1) c.requires (omega (arith, within, some)) c.if-number-numbers.false k (omega (arith, before, some))
