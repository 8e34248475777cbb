-- The first word is the command's.
use Rattle.std.proofs.lemmas.Result.{IfOk-weaker, IfErr-weaker}
use Rattle.parsing.specs.Reads.{SpellsOnly}
use Rattle.requests.specs.Asked.{asked_of}
use Rattle.requests.specs.Grammar.{Asks, IsRequest}
use Rattle.requests.specs.Faults.{IsAskFault, IsRequestFault}
use Rattle.requests.proofs.Lines.{no_line, no_command, only_request, line_fault}
use Rattle.requests.proofs.reading.read_request.Goals as goal

pub returns-in_default-clause-err : goal.returns-in_default-clause-err
returns-in_default-clause-err c = no_line c.args.line.now c.in_default.ensures

pub returns-in-None-clause-err : goal.returns-in-None-clause-err
returns-in-None-clause-err c = no_command c.args.line.now c.in-Some.word.now c.in-Some.rest.now c.in-Some.ensures c.in-None.ensures

pub returns-in-Some-named-clause-ok : goal.returns-in-Some-named-clause-ok
returns-in-Some-named-clause-ok c =
    IfOk-weaker c.read.result (λ request. SpellsOnly (Asks c.in-Some-named.command) c.in-Some.rest.now (asked_of request)) (λ request. SpellsOnly IsRequest c.args.line.now (asked_of request))
    (λ request. only_request c.args.line.now c.in-Some.word.now c.in-Some.rest.now c.in-Some.ensures c.in-Some-named.command c.in-Some-named.ensures (asked_of request)) c.read.ensures.ok

pub returns-in-Some-named-clause-err : goal.returns-in-Some-named-clause-err
returns-in-Some-named-clause-err c =
    IfErr-weaker c.read.result (IsAskFault c.in-Some-named.command c.in-Some.rest.now) (IsRequestFault c.args.line.now)
    (line_fault c.args.line.now c.in-Some.word.now c.in-Some.rest.now c.in-Some.ensures c.in-Some-named.command c.in-Some-named.ensures) c.read.ensures.err
