-- The line of the kind sets is added.
use Rattle.std.specs.Vec.{vec_len}
use Rattle.trace_checker.proofs.Adding.{opening_added, sync_added}
use Rattle.trace_checker.proofs.read.note_sets.Goals as goal

pub returns-in_ok-push-in-Opening-clause-added : goal.returns-in_ok-push-in-Opening-clause-added
returns-in_ok-push-in-Opening-clause-added c =
    opening_added c.args.traces.now.items c.push.new.self.items c.in_ok-new_in-in-Opening.field-0 c.args.sets c.args.due c.in-Opening.is c.in_ok-push-in-Opening.ensures.items
    c.in_ok-new_in-in-Opening.ensures.steps c.in_ok-new_in-in-Opening.ensures.sets

pub returns-in_ok-push_sync-in-After-clause-added : goal.returns-in_ok-push_sync-in-After-clause-added
returns-in_ok-push_sync-in-After-clause-added c =
    sync_added c.args.traces.now.items (vec_len c.args.traces.now) c.in-Some.trace.now c.push_sync.new.self c.in-Some.trace.now c.in-After.sync c.args.sets c.args.due c.in-After.is c.requires.begun (search)
    c.in-Some.ensures.value c.in_ok-push_sync-in-After.ensures.steps c.in_ok-push_sync-in-After.ensures.sets
