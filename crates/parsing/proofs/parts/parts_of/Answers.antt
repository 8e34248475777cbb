-- The chain yields the cut of the text at its commas.
use Rattle.std.proofs.Common.{lit<}
use Rattle.std.proofs.lemmas.Iterator.Consumers.{map_from_collect}
use Rattle.std.proofs.lemmas.Iterator.Splits.{YieldsList-from_str_split}
use Rattle.parsing.proofs.PartsOfText.{parts_from_cut}
use Rattle.parsing.proofs.parts.parts_of.Goals as goal

pub returns : goal.returns
returns c = parts_from_cut _ _ c.args.text.now (map_from_collect _ c.collect.ensures.ran
    (YieldsList-from_str_split 44 c.args.text.now (lit< tt) c.split.ensures.text c.split.ensures.has_more c.split.ensures.pattern))
