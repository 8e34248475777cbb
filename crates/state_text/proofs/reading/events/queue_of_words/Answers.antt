use Rattle.std.proofs.Common.{◌≡◌, map, ◌∙◌, arith}
use Rattle.state_text.proofs.KeptValues.{values_fit}
use Rattle.state_text.proofs.Passed.{passed}
use Rattle.state_text.proofs.WordsSpelled.{word_is, behind_is}
use Rattle.state_text.proofs.reading.events.queue_of_words.Goals as goal

pub returns-in_err-values : goal.returns-in_err-values
returns-in_err-values c queue is fits e =
    passed (λ found. found ≡ queue) _ _ c.from_residual-in_err-values.ensures.1
    (c.in_err-values.ensures (map (λ event. event.value) queue.kept) (values_fit queue.kept fits) (behind_is 3 c.args.words.now _ e))

pub returns : goal.returns
returns c queue is fits e =
    let newer = is.newer in
    let most = is.most in
    c.queue_of.ensures queue is (c.in_ok-newer.ensures queue.newer (omega (arith, newer, most)) (word_is c.args.words.now 1 _ _ e))
    (c.in_ok-next.ensures queue.next (omega (arith, most)) (word_is c.args.words.now 2 _ _ e))
    (c.deref.ensures.value ∙ c.in_ok-values.ensures (map (λ event. event.value) queue.kept) (values_fit queue.kept fits) (behind_is 3 c.args.words.now _ e))
