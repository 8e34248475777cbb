use Rattle.std.proofs.Common.{◌≡◌, codes, map, ap, ◌∙◌, inl, inr, arith}
use Rattle.state_text.specs.LineWords.{AreLines, count_words}
use Rattle.state_text.proofs.Passed.{passed}
use Rattle.state_text.proofs.reading.head.read_clock.Goals as goal

pub returns-in_err-words-clause-all : goal.returns-in_err-words-clause-all
returns-in_err-words-clause-all c clock more least most h =
    passed (λ found. (found ≡ clock) × AreLines more c.words.new.self.rest.now) _ _ c.from_residual.ensures.1 (c.in_err-words.ensures (count_words (codes "clock") clock) more h)

pub returns-in_err-tick-clause-all : goal.returns-in_err-tick-clause-all
returns-in_err-tick-clause-all c clock more least most h =
    let read = c.in_ok-words.ensures (count_words (codes "clock") clock) more h in
    passed (λ found. (found ≡ clock) × AreLines more c.words.new.self.rest.now) _ _ c.from_residual-in_err-tick.ensures.1
    (c.in_err-tick.ensures clock (omega (arith, most)) (ap (map (λ word. word.now)) c.deref.ensures.value ∙ read.0))

pub returns-then-tick-eq0-clause-all : goal.returns-then-tick-eq0-clause-all
returns-then-tick-eq0-clause-all c clock more least most h =
    let read = c.in_ok-words.ensures (count_words (codes "clock") clock) more h in
    let is = c.in_ok-tick.ensures clock (omega (arith, most)) (ap (map (λ word. word.now)) c.deref.ensures.value ∙ read.0) in
    absurd (elim c.then-tick-eq0.either [ inl none ↦ omega (arith, none, is, least) | inr past ↦ omega (arith, past, is, most) ])

pub returns-clause-all : goal.returns-clause-all
returns-clause-all c clock more least most h =
    let read = c.in_ok-words.ensures (count_words (codes "clock") clock) more h in
    (c.in_ok-tick.ensures clock (omega (arith, most)) (ap (map (λ word. word.now)) c.deref.ensures.value ∙ read.0), read.1)
