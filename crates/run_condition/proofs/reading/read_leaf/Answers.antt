-- Each word has its own inside.
use Rattle.std.proofs.Common.{rules}
use Rattle.run_condition.specs.Grammar.{IsLeaf}
use Rattle.run_condition.proofs.Readers.{read_refused}
use Rattle.run_condition.proofs.Leaves.{equals_only, equals_refuses, at_least_only, at_least_refuses, changed_only, changed_refuses, on_only, on_refuses}
use Rattle.run_condition.proofs.reading.read_leaf.Goals as goal

pub returns-in_err-res-in-ResourceEquals : goal.returns-in_err-res-in-ResourceEquals
returns-in_err-res-in-ResourceEquals c = read_refused (λ x. IsLeaf x c.args.word) c.args.text.now c.from_residual.result _ c.from_residual.ensures.1 (rw c.in-ResourceEquals.is (equals_refuses c.args.text.now _ c.in_err-res-in-ResourceEquals.ensures))

pub returns-in_ok-res-in-ResourceEquals : goal.returns-in_ok-res-in-ResourceEquals
returns-in_ok-res-in-ResourceEquals c =
    let both = equals_only c.args.text.now c.in_ok-res-in-ResourceEquals.res c.in_ok-res-in-ResourceEquals.value c.in_ok-res-in-ResourceEquals.ensures in
    rw (c.in-ResourceEquals.is, c.resource_equals.ensures) (search (rules, both))

pub returns-in_err-res-in-ResourceAtLeast : goal.returns-in_err-res-in-ResourceAtLeast
returns-in_err-res-in-ResourceAtLeast c = read_refused (λ x. IsLeaf x c.args.word) c.args.text.now c.from_residual-in_err-res-in-ResourceAtLeast.result _ c.from_residual-in_err-res-in-ResourceAtLeast.ensures.1 (rw c.in-ResourceAtLeast.is (at_least_refuses c.args.text.now _ c.in_err-res-in-ResourceAtLeast.ensures))

pub returns-in_ok-res-in-ResourceAtLeast : goal.returns-in_ok-res-in-ResourceAtLeast
returns-in_ok-res-in-ResourceAtLeast c =
    let both = at_least_only c.args.text.now c.in_ok-res-in-ResourceAtLeast.res c.in_ok-res-in-ResourceAtLeast.value c.in_ok-res-in-ResourceAtLeast.ensures in
    rw (c.in-ResourceAtLeast.is, c.resource_at_least.ensures) (search (rules, both))

pub returns-in_err-read_res-in-ResourceChanged : goal.returns-in_err-read_res-in-ResourceChanged
returns-in_err-read_res-in-ResourceChanged c = read_refused (λ x. IsLeaf x c.args.word) c.args.text.now c.from_residual-in_err-read_res-in-ResourceChanged.result _ c.from_residual-in_err-read_res-in-ResourceChanged.ensures.1 (rw c.in-ResourceChanged.is (changed_refuses c.args.text.now _ c.in_err-read_res-in-ResourceChanged.ensures))

pub returns-in_ok-read_res-in-ResourceChanged : goal.returns-in_ok-read_res-in-ResourceChanged
returns-in_ok-read_res-in-ResourceChanged c = rw (c.in-ResourceChanged.is, c.resource_changed.ensures) (changed_only c.args.text.now c.in_ok-read_res-in-ResourceChanged.field-0 c.in_ok-read_res-in-ResourceChanged.ensures)

pub returns-in_err-read_event-in-OnEvent : goal.returns-in_err-read_event-in-OnEvent
returns-in_err-read_event-in-OnEvent c = read_refused (λ x. IsLeaf x c.args.word) c.args.text.now c.from_residual-in_err-read_event-in-OnEvent.result _ c.from_residual-in_err-read_event-in-OnEvent.ensures.1 (rw c.in-OnEvent.is (on_refuses c.args.text.now _ c.in_err-read_event-in-OnEvent.ensures))

pub returns-in_ok-read_event-in-OnEvent : goal.returns-in_ok-read_event-in-OnEvent
returns-in_ok-read_event-in-OnEvent c = rw (c.in-OnEvent.is, c.on_event.ensures) (on_only c.args.text.now c.in_ok-read_event-in-OnEvent.field-0 c.in_ok-read_event-in-OnEvent.ensures)
