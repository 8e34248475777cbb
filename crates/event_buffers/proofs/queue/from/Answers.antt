use Rattle.std.proofs.Common.{length, min, drop, ap, sym, ◌∙◌, arith, length-drop}
use Rattle.std.proofs.lemmas.List.{take_all}
use Rattle.event_buffers.proofs.Numbered.{values_from-drop}
use Rattle.event_buffers.proofs.queue.from.Goals as goal

pub returns : goal.returns
returns c = take_all _ (drop c.min-passed.result c.args.values.now) (omega (arith, length-drop c.min-passed.result c.args.values.now))
    ∙ sym (values_from-drop c.args.first c.args.cursor c.min-passed.result c.args.values.now
    (c.min-passed.ensures ∙ ap (λ n. min n (length c.args.values.now)) c.saturating_sub.ensures))
