-- The chain yields the parts between spaces that are not empty.
use Rattle.std.proofs.Common.{lit<, rules}
use Rattle.std.proofs.lemmas.Iterator.Consumers.{map_from_collect, YieldsList-at, YieldsList-from_filter}
use Rattle.std.proofs.lemmas.Iterator.Splits.{YieldsList-from_str_split}
use Rattle.parsing.proofs.WordsOfText.{is_filled, is_filled-length, words_from_cut}
use Rattle.parsing.proofs.words.words_of.Goals as goal

pub returns : goal.returns
returns c = words_from_cut _ _ c.args.text.now (map_from_collect _ c.collect.ensures.ran
    (YieldsList-from_filter _ is_filled
    (YieldsList-at c.filter.ensures.source (YieldsList-from_str_split 32 c.args.text.now (lit< tt) c.split.ensures.text c.split.ensures.has_more c.split.ensures.pattern))
    c.filter.ensures.closure (λ x b q k. search (rules, is_filled-length))))
