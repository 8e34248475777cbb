use Rattle.std.proofs.Common.{◌≡◌, ◌++◌, take, string_bytes}
use Rattle.state_text.specs.StateText.{words_text}
use Rattle.state_text.proofs.words.push_words.Given as goal

-- the integers so far are written
abbrev pub invariant-loop-word : goal.invariant-loop-word
invariant-loop-word l = string_bytes l.text ≡ string_bytes l.fn.text ++ words_text (take l.word-index l.words)
