use Rattle.std.proofs.Common.{ap₂}
use Rattle.parsing.specs.Integer.{IsNumber}
use Rattle.state_text.proofs.Spelled.{number, read_none, read_only}
use Rattle.state_text.proofs.IdWords.{an_id, its_parts}
use Rattle.state_text.proofs.reading.slots.id_of.Goals as goal

pub returns-in_err-index : goal.returns-in_err-index
returns-in_err-index c index generation low few e = absurd (an_id c.args.word.now c.split_once.result c.split_once.ensures.cases index generation low e c.in_err-index.ensures.ok_part)

pub returns-in_err-ok_or : goal.returns-in_err-ok_or
returns-in_err-ok_or c index generation low few e =
    let parts = its_parts c.args.word.now c.split_once.result c.split_once.ensures.cases index generation low e (c.in_ok-index.index, c.in_ok-index.generation) c.in_ok-index.ensures.ok_part in
    absurd (read_none IsNumber c.in_ok-index.index.now c.read_number.result index (rw parts.0 (number index low)) c.read_number.ensures c.in_err-ok_or.ensures.ok_part)

pub returns-in_err-ok_or-2 : goal.returns-in_err-ok_or-2
returns-in_err-ok_or-2 c index generation low few e =
    let parts = its_parts c.args.word.now c.split_once.result c.split_once.ensures.cases index generation low e (c.in_ok-index.index, c.in_ok-index.generation) c.in_ok-index.ensures.ok_part in
    absurd (read_none IsNumber c.in_ok-index.generation.now c.read_number-2.result generation (rw parts.1 (number generation few)) c.read_number-2.ensures c.in_err-ok_or-2.ensures.ok_part)

pub returns : goal.returns
returns c index generation low few e =
    let parts = its_parts c.args.word.now c.split_once.result c.split_once.ensures.cases index generation low e (c.in_ok-index.index, c.in_ok-index.generation) c.in_ok-index.ensures.ok_part in
    ap₂ (λ i g. record { index = i; generation = g })
    (read_only IsNumber c.in_ok-index.index.now c.read_number.result index c.in_ok-ok_or.field-0 (rw parts.0 (number index low)) c.read_number.ensures c.in_ok-ok_or.ensures.ok_part)
    (read_only IsNumber c.in_ok-index.generation.now c.read_number-2.result generation c.in_ok-ok_or-2.field-0 (rw parts.1 (number generation few)) c.read_number-2.ensures c.in_ok-ok_or-2.ensures.ok_part)
