use Rattle.std.proofs.Common.{◌/◌, inl, inr, arith}
use Rattle.std.proofs.lemmas.Bool.{false≢true, cases_lt}
use Rattle.number_set.proofs.Bits.{none_in_word, word_of_none}
use Rattle.number_set.proofs.number_set.are_empty.Goals as goal

pub returns-then-words-index-ne0 : goal.returns-then-words-index-ne0
returns-then-words-index-ne0 c = (
  (λ e. absurd (false≢true e)),
  (λ none. absurd (c.if-words-index-ne0.true (word_of_none c.args.words.now c.loop-index.index (omega (arith, c.type_inv.words c.loop-index.index)) none))),
)

pub loop-index-preserved : goal.loop-index-preserved
loop-index-preserved c = λ n low. elim (cases_lt (n / 64) c.loop-index.index) [
  | inl below ↦ c.loop-index.invariant n below
  | inr here ↦ none_in_word c.args.words.now c.loop-index.index n (omega arith) c.if-words-index-ne0.false
]
