use Rattle.std.proofs.Common.{◌≡◌, codes, map, ap, ◌∙◌, arith}
use Rattle.state_text.specs.LineWords.{AreLines, count_words}
use Rattle.state_text.proofs.Passed.{passed}
use Rattle.state_text.proofs.reading.head.read_passed_over.Goals as goal

pub returns-in_err-words-clause-all : goal.returns-in_err-words-clause-all
returns-in_err-words-clause-all c count more most h =
    passed (λ found. (found ≡ count) × AreLines more c.words.new.self.rest.now) _ _ c.from_residual.ensures.1 (c.in_err-words.ensures (count_words (codes "passed") count) more h)

pub returns-in_err-count-clause-all : goal.returns-in_err-count-clause-all
returns-in_err-count-clause-all c count more most h =
    let read = c.in_ok-words.ensures (count_words (codes "passed") count) more h in
    passed (λ found. (found ≡ count) × AreLines more c.words.new.self.rest.now) _ _ c.from_residual-in_err-count.ensures.1
    (c.in_err-count.ensures count (omega (arith, most)) (ap (map (λ word. word.now)) c.deref.ensures.value ∙ read.0))

pub returns-then-count-gt-MOST_PASSED_OVER-clause-all : goal.returns-then-count-gt-MOST_PASSED_OVER-clause-all
returns-then-count-gt-MOST_PASSED_OVER-clause-all c count more most h =
    let read = c.in_ok-words.ensures (count_words (codes "passed") count) more h in
    let is = c.in_ok-count.ensures count (omega (arith, most)) (ap (map (λ word. word.now)) c.deref.ensures.value ∙ read.0) in
    absurd (omega (arith, c.if-count-gt-MOST_PASSED_OVER.true, is, most))

pub returns-clause-all : goal.returns-clause-all
returns-clause-all c count more most h =
    let read = c.in_ok-words.ensures (count_words (codes "passed") count) more h in
    (c.in_ok-count.ensures count (omega (arith, most)) (ap (map (λ word. word.now)) c.deref.ensures.value ∙ read.0), read.1)
