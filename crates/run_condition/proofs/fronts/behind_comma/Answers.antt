-- The byte at the front is taken off.
use Rattle.std.proofs.Common.{lit<}
use Rattle.std.proofs.lemmas.Str.Pattern.{strip_prefix_char}
use Rattle.run_condition.proofs.fronts.behind_comma.Goals as goal

pub returns : goal.returns
returns c = strip_prefix_char 44 c.args.text.now _ c.strip_prefix.ensures.cases (lit< tt)
