-- One word after the other is a source, or else the words are none.
use Rattle.std.proofs.Common.{◌≡◌, List, [], ◌∷◌, refl}
use Rattle.script.specs.declared.operands.Source.{Source}
use Rattle.script.specs.Operands.{AreSources}
use Rattle.script.proofs.Sources.{read-more, source-at}
use Rattle.script.proofs.operands.Mentions.read.Goals as goal

none-other : (others : List Source) → AreSources others [] → others ≡ []
none-other [] h = refl
none-other (s ∷ others) h = absurd h

pub loop-word-init : goal.loop-word-init
loop-word-init c = record {
  sources = [];
  spelled = tt;
  only = λ others h. none-other others h;
  is = refl;
}

pub loop-word-preserved : goal.loop-word-preserved
loop-word-preserved c =
    read-more (λ word. word.now) c.args.words.now c.loop-word.word-index _ c.loop-word.named _ c.in_ok-source.source c.loop-word-test.true c.loop-word.invariant c.in_ok-source.ensures c.with-named.ensures

pub returns-in_err-source : goal.returns-in_err-source
returns-in_err-source c = rw c.from_residual.ensures (λ named spelled.
    let s = source-at (λ word. word.now) c.args.words.now spelled.0 c.loop-word.word-index _ spelled.1 c.loop-word-test.true in c.in_err-source.ensures s.0 s.1)
