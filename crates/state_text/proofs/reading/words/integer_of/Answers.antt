use Rattle.std.proofs.Common.{rules, refl}
use Rattle.parsing.specs.Integer.{IsInteger}
use Rattle.state_text.proofs.Spelled.{read_as, signed}
use Rattle.state_text.proofs.reading.words.integer_of.Goals as goal

pub returns : goal.returns
returns c z fits e =
    let found = read_as IsInteger c.args.word.now c.read_integer.result z (rw e (signed z fits (search rules))) c.read_integer.ensures in
    rw (c.ok_or.ensures.value, found) refl
