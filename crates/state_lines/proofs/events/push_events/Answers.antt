use Rattle.std.proofs.Common.{◌++◌, ℕ, ℤ, w64, get_or, refl, ap, ◌∙◌, string_bytes, pos, arith, rules}
use Rattle.std.proofs.lemmas.Int.{to_z-of_z}
use Rattle.state_lines.specs.Looks.{event_line}
use Rattle.state_lines.proofs.KeptEvents.{events_next}
use Rattle.state_lines.proofs.events.push_events.Goals as goal

pub loop-value-preserved : goal.loop-value-preserved
loop-value-preserved c = record {
  count = omega (arith, c.loop-value.invariant.count);
  written = events_next c.args.first c.args.values.now c.loop-value.value-index _ _ (string_bytes c.args.text.now) (string_bytes c.loop-value.text) (string_bytes c.push_event.new.text) c.loop-value-test.true refl c.loop-value.invariant.written
      (c.in_ok-push_event.ensures ∙ (ap (λ (v : ℤ). string_bytes c.loop-value.text ++ event_line (record { number = c.loop-value.number; value = v })) (to_z-of_z w64 (get_or c.args.values.now c.loop-value.value-index (pos 0)) (search rules)) ∙ ap (λ (n : ℕ). string_bytes c.loop-value.text ++ event_line (record { number = n; value = get_or c.args.values.now c.loop-value.value-index (pos 0) })) c.loop-value.invariant.count));
}
