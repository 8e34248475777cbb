-- The parts are read in turn.
use Rattle.std.proofs.Common.{rules}
use Rattle.run_condition.specs.Grammar.{AreResAndInteger}
use Rattle.run_condition.proofs.Readers.{read_refused}
use Rattle.run_condition.proofs.Leaves.{pair_only, pair_first, pair_second, pair_none, parts_two}
use Rattle.run_condition.proofs.reading.read_pair.Goals as goal

pub returns-in_default : goal.returns-in_default
returns-in_default c = pair_none c.args.text.now _ c.in_ok-parts.ensures (rw c.as_slice.ensures.value at c.in_default.ensures)

pub returns-in_err-res : goal.returns-in_err-res
returns-in_err-res c =
    let are = parts_two c.args.text.now _ _ _ c.in_ok-parts.ensures (rw c.as_slice.ensures.value at c.in-Some.ensures) in
    read_refused AreResAndInteger c.args.text.now c.from_residual-in_err-res.result _ c.from_residual-in_err-res.ensures.1
    (pair_first c.args.text.now c.in-Some.left.now c.in-Some.right.now are _ c.in_err-res.ensures)

pub returns-in_err-value : goal.returns-in_err-value
returns-in_err-value c =
    let are = parts_two c.args.text.now _ _ _ c.in_ok-parts.ensures (rw c.as_slice.ensures.value at c.in-Some.ensures) in
    read_refused AreResAndInteger c.args.text.now c.from_residual-in_err-value.result _ c.from_residual-in_err-value.ensures.1
    (pair_second c.args.text.now c.in-Some.left.now c.in-Some.right.now are _ c.in_err-value.ensures)

pub returns : goal.returns
returns c =
    let are = parts_two c.args.text.now _ _ _ c.in_ok-parts.ensures (rw c.as_slice.ensures.value at c.in-Some.ensures) in
    let both = pair_only c.args.text.now c.in-Some.left.now c.in-Some.right.now are c.in_ok-res.res c.in_ok-value.value c.in_ok-res.ensures c.in_ok-value.ensures in
    search (rules, both)
