use Rattle.std.proofs.Common.{◌∷◌, ℤ, refl, string_bytes}
use Rattle.std.specs.Fmt.{signed_decimal}
use Rattle.state_lines.proofs.Lines.{texts_next, texts_all}
use Rattle.state_lines.proofs.world.push_words.Goals as goal

pub loop-word-preserved : goal.loop-word-preserved
loop-word-preserved c =
    texts_next (λ (word : ℤ). 32 ∷ signed_decimal word) c.args.words.now c.loop-word.word-index _ _ (string_bytes c.args.text.now) (string_bytes c.loop-word.text) (string_bytes c.write.new.self) c.loop-word-test.true refl c.loop-word.invariant c.in_ok-write.ensures.bytes

pub returns : goal.returns
returns c = texts_all (λ (word : ℤ). 32 ∷ signed_decimal word) c.args.words.now c.loop-word.word-index (string_bytes c.args.text.now) (string_bytes c.loop-word.text) c.loop-word-test.false c.loop-word.invariant
