use Rattle.std.proofs.Common.{map, take}
use Rattle.script.proofs.Sources.{AreRead}
use Rattle.script.proofs.operands.Mentions.read.Given as goal

abbrev pub invariant-loop-word : goal.invariant-loop-word
invariant-loop-word l = AreRead (map (λ word. word.now) (take l.word-index l.words)) l.named
