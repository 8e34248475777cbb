use Rattle.std.proofs.Common.{◌≡◌, map, ap, ◌∙◌}
use Rattle.state_text.specs.declared.reading.head.Head.{Head}
use Rattle.state_text.specs.LineWords.{AreLines, head_words}
use Rattle.state_text.proofs.Passed.{passed, before}
use Rattle.state_text.proofs.reading.head.read_head.Goals as goal

pub returns-in_err-words : goal.returns-in_err-words
returns-in_err-words c systems conditions slots more low lower lowest h =
    let P : Head → Type 0 = λ found. (found ≡ record { systems = systems; conditions = conditions; slots = slots }) × AreLines more c.words.new.self.rest.now in
    passed P _ _ c.from_residual.ensures.1 (c.in_err-words.ensures (head_words systems conditions slots) more h)

pub returns : goal.returns
returns c systems conditions slots more low lower lowest h =
    let read = c.in_ok-words.ensures (head_words systems conditions slots) more h in
    before _ (record { systems = systems; conditions = conditions; slots = slots }) more c.words.new.self.rest.now
    (c.head_of.ensures systems conditions slots low lower lowest (ap (map (λ word. word.now)) c.deref.ensures.value ∙ read.0)) read.1
