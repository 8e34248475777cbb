use Rattle.std.proofs.Common.{map}
use Rattle.state_text.proofs.LinesOfText.{a_line, its_words}
use Rattle.state_text.proofs.reading.lines.Lines.words.Goals as goal

pub returns-in_err-line : goal.returns-in_err-line
returns-in_err-line c line more h = absurd (a_line line more c.args.self.now.rest.now c.split_once.result c.split_once.ensures.cases h c.in_err-line.ensures.ok_part)

pub returns : goal.returns
returns c line more h =
    its_words line more c.args.self.now.rest.now c.split_once.result c.split_once.ensures.cases h c.in_ok-line.line c.in_ok-line.rest
    (map (λ word. word.now) c.in_ok-words_of.field-0.items) c.in_ok-line.ensures.ok_part c.in_ok-words_of.ensures
