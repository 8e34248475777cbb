use Rattle.std.proofs.Common.{ℤ, List}
use Rattle.toml.specs.View.{view}
use Rattle.program_file.specs.Keys.{AreIntegers}
use Rattle.program_file.proofs.Refusals.{NoneIs-exit, integers-refused}
use Rattle.program_file.proofs.keys.integers_of.Goals as goal

-- an item is no integer
pub returns-in_err-integer_of-clause-refused : goal.returns-in_err-integer_of-clause-refused
returns-in_err-integer_of-clause-refused c =
    let value = view c.args.value.now in
    NoneIs-exit (λ (all : List ℤ). AreIntegers all value) c.from_residual-in_err-integer_of.result c.in_err-integer_of.field-0.0 c.from_residual-in_err-integer_of.ensures.1
    (integers-refused value c.in_ok-item-items.item-items.now c.loop-item.item-index c.item-item.result c.item-item.result c.in_err-integer_of.field-0.0
    c.in_ok-item-items.ensures.ok c.loop-item-test.true c.item-item.is c.in_err-integer_of.ensures.refused)
