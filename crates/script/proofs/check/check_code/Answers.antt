-- Each instruction is looked at, with those before it done.
use Rattle.std.proofs.Common.{map, ◌∙◌}
use Rattle.std.proofs.lemmas.List.{length-map}
use Rattle.query.specs.Term.{term_of}
use Rattle.script.specs.Block.{block_of}
use Rattle.script.proofs.CodeFaults.{further, found, ended}
use Rattle.script.proofs.check.check_code.Goals as goal

pub loop-instruction-preserved : goal.loop-instruction-preserved
loop-instruction-preserved c =
    c.loop-instruction.invariant
    ∙ further c.args.params.now (map term_of c.args.terms.now) c.args.rounds (map block_of c.args.before.now) c.args.code.now c.loop-instruction.instruction _ c.is_at_event-event.result
    c.cause_of-own.result c.spawn_cause-spawned.result c.least.result c.loop-instruction-test.true c.is_at_event-event.ensures c.cause_of-own.ensures c.spawn_cause-spawned.ensures c.least.ensures
    c.in_default.is

pub returns-in-Some : goal.returns-in-Some
returns-in-Some c =
    c.loop-instruction.invariant
    ∙ found c.args.params.now (map term_of c.args.terms.now) c.args.rounds (map block_of c.args.before.now) c.args.code.now c.loop-instruction.instruction _ c.is_at_event-event.result
    c.cause_of-own.result c.spawn_cause-spawned.result c.least.result c.in-Some.cause _ c.loop-instruction-test.true c.is_at_event-event.ensures c.cause_of-own.ensures c.spawn_cause-spawned.ensures
    c.least.ensures c.in-Some.is (length-map c.args.before.now block_of)

pub returns : goal.returns
returns c =
    c.loop-instruction.invariant
    ∙ ended c.args.params.now (map term_of c.args.terms.now) c.args.rounds (map block_of c.args.before.now) c.args.code.now c.loop-instruction.instruction c.loop-instruction-test.false
