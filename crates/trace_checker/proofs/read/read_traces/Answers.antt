-- The text is that of the runs so far and of what is left.
use Rattle.std.proofs.Common.{◌+◌, List, Err, sym, ap, subst, ◌∙◌}
use Rattle.model.specs.steps.Schedule.{Recorded}
use Rattle.trace_checker.specs.TextFaults.{AreBegun, IsOutOfOrder, begun_runs, is_listed}
use Rattle.run_condition.proofs.Conditions.{empty_is as empty, filled_is as not_empty}
use Rattle.trace_checker.proofs.Ends.{unread_at, unread_in_order, unread_in_place, unread_memory}
use Rattle.trace_checker.proofs.Reading.{no_line, no_order, no_place, no_end, these_runs, still_front, still_counted, still_bound, due_by}
use Rattle.trace_checker.proofs.read.read_traces.Goals as goal

pub returns-in-Err-clause-only : goal.returns-in-Err-clause-only
returns-in-Err-clause-only c runs fits e =
    unread_memory c.in-Err.error _ _ c.unread_line.ensures
    (λ outside. no_line _ c.loop-rest.rest.now _ _ c.loop-rest.invariant.front (not_empty c.loop-rest.rest.now _ c.is_empty.ensures c.loop-rest-test.true) (c.in-Err.ensures.outside (ap Err outside)) runs fits e)

pub returns-in-Err-clause-same : goal.returns-in-Err-clause-same
returns-in-Err-clause-same c runs fits e = tt

pub returns-in-Err-clause-line : goal.returns-in-Err-clause-line
returns-in-Err-clause-line c n told =
    let at = unread_at n c.in-Err.error _ _ c.unread_line.ensures told in (
      _,
      c.loop-rest.due,
      c.loop-rest.rest.now,
      c.loop-rest.invariant.front,
      not_empty c.loop-rest.rest.now _ c.is_empty.ensures c.loop-rest-test.true,
      c.in-Err.ensures.outside (ap Err at.0),
      at.1 ∙ ap (λ k. k + 1) c.loop-rest.invariant.count,
    )

pub returns-in-Err-clause-order : goal.returns-in-Err-clause-order
returns-in-Err-clause-order c n told = absurd (unread_in_order n c.in-Err.error _ _ c.unread_line.ensures told)

pub returns-in-Err-clause-lists : goal.returns-in-Err-clause-lists
returns-in-Err-clause-lists c n told = absurd (unread_in_place n c.in-Err.error _ _ c.unread_line.ensures told)

pub returns-then-is_out_of_order-clause-only : goal.returns-then-is_out_of_order-clause-only
returns-then-is_out_of_order-clause-only c runs fits e =
    absurd (no_order _ c.loop-rest.rest.now _ _ c.loop-rest.invariant.front _ _ (c.in-Ok.ensures.found.0) (subst (λ (ts : List Recorded). IsOutOfOrder (begun_runs ts c.loop-rest.due) c.in-Ok.found.0) c.deref.ensures.value (c.is_out_of_order.ensures.0 c.if-is_out_of_order.true)) runs fits e)

pub returns-then-stands_wrong-clause-only : goal.returns-then-stands_wrong-clause-only
returns-then-stands_wrong-clause-only c runs fits e =
    absurd (no_place _ c.loop-rest.rest.now _ _ c.loop-rest.invariant.front _ _ (c.in-Ok.ensures.found.0) (sym c.stands_wrong.ensures ∙ c.if-stands_wrong.true) runs fits e)

pub loop-rest-preserved : goal.loop-rest-preserved
loop-rest-preserved c =
    let front = c.loop-rest.invariant.front in
    let here = c.in-Ok.ensures.found.0 in
    let begun : AreBegun (is_listed c.args.text.now) c.add_line.new.traces.items c.in_ok-due.due = subst (λ b. AreBegun b c.add_line.new.traces.items c.in_ok-due.due) c.lists_in-lists.ensures c.in_ok-due.ensures.begun in
    record {
      front = still_front _ c.loop-rest.rest.now _ _ front _ _ here _ _ begun c.in_ok-due.ensures.added;
      count = still_counted _ c.loop-rest.rest.now _ _ front _ _ here _ _ begun c.in_ok-due.ensures.added _ c.loop-rest.invariant.count;
      bound = still_bound _ c.loop-rest.rest.now _ _ front _ _ here _ c.loop-rest.invariant.bound;
    }

pub returns-in-Nothing-clause-same : goal.returns-in-Nothing-clause-same
returns-in-Nothing-clause-same c runs fits e =
    these_runs _ c.loop-rest.rest.now _ _ c.loop-rest.invariant.front (empty c.loop-rest.rest.now _ c.is_empty.ensures c.loop-rest-test.false) c.in-Nothing.is runs fits e

pub returns-in-Opening-clause-only : goal.returns-in-Opening-clause-only
returns-in-Opening-clause-only c runs fits e =
    absurd (no_end _ c.loop-rest.rest.now _ _ c.loop-rest.invariant.front (empty c.loop-rest.rest.now _ c.is_empty.ensures c.loop-rest-test.false) (due_by c.in-Opening.is) runs fits e)
