use Rattle.std.proofs.Common.{[], ◌∷◌}
use Rattle.std.specs.Fmt.{decimal}
use Rattle.state_text.proofs.WordsSpelled.{named_so}
use Rattle.state_text.proofs.reading.head.count_of.Goals as goal

pub returns-then-ne : goal.returns-then-ne
returns-then-ne c count low e = absurd (named_so c.args.words.now _ c.args.name.now (decimal count ∷ []) c.ne.result c.ne.ensures c.if-ne.true e)
