use Rattle.std.proofs.Common.{refl}
use Rattle.tokens.specs.LongNumber.{IsLongNumber}
use Rattle.state_text.proofs.Spelled.{read_as, long_number}
use Rattle.state_text.proofs.reading.words.number_of.Goals as goal

pub returns : goal.returns
returns c n low e =
    let found = read_as IsLongNumber c.args.word.now c.read_long_number.result n (rw e (long_number n low)) c.read_long_number.ensures in
    rw (c.ok_or.ensures.value, found) refl
