use Rattle.std.proofs.Common.{◌≡◌, map, ap, ◌∙◌}
use Rattle.state_text.specs.LineWords.{AreLines, event_words}
use Rattle.state_text.proofs.Passed.{passed, before}
use Rattle.state_text.proofs.reading.events.read_queue.Goals as goal

pub returns-in_err-words : goal.returns-in_err-words
returns-in_err-words c queue more is fits h =
    passed (λ found. (found ≡ queue) × AreLines more c.words.new.self.rest.now) _ _ c.from_residual.ensures.1 (c.in_err-words.ensures (event_words c.args.kind queue) more h)

pub returns : goal.returns
returns c queue more is fits h =
    let read = c.in_ok-words.ensures (event_words c.args.kind queue) more h in
    before _ queue more c.words.new.self.rest.now (c.queue_of_words.ensures queue is fits (ap (map (λ word. word.now)) c.deref.ensures.value ∙ read.0)) read.1
