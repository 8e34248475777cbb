use Rattle.column_store.proofs.Common.{ap, words_in, mark_words, amount_words, pair_words}
use Rattle.column_store.proofs.PackWords.{packed-there}
use Rattle.column_store.proofs.column.Column.fields.Goals as goal

pub returns-in-Marks-clause-words : goal.returns-in-Marks-clause-words
returns-in-Marks-clause-words c =
    packed-there mark_words c.self.inside.packs c.in-Marks.items.items _ _ c.args.self.now c.args.place c.index.result.now c.fields.result (ap words_in c.in-Marks.is) c.self.view_is c.requires
    c.index.ensures c.fields.ensures

pub returns-in-Amounts-clause-words : goal.returns-in-Amounts-clause-words
returns-in-Amounts-clause-words c =
    packed-there amount_words c.self.inside.packs c.in-Amounts.items.items _ _ c.args.self.now c.args.place c.index-in-Amounts.result.now c.fields-in-Amounts.result
    (ap words_in c.in-Amounts.is) c.self.view_is c.requires
    c.index-in-Amounts.ensures c.fields-in-Amounts.ensures

pub returns-in-Pairs-clause-words : goal.returns-in-Pairs-clause-words
returns-in-Pairs-clause-words c =
    packed-there pair_words c.self.inside.packs c.in-Pairs.items.items _ _ c.args.self.now c.args.place c.index-in-Pairs.result.now c.fields-in-Pairs.result (ap words_in c.in-Pairs.is)
    c.self.view_is c.requires
    c.index-in-Pairs.ensures c.fields-in-Pairs.ensures
