use Rattle.std.proofs.Common.{◌≡◌, ◌↔◌, Bool, true, false, not, string_bytes, refl, ap₂, ◌∙◌}
use Rattle.std.proofs.lemmas.Result.{IfOk-weaker}
use Rattle.live_world.specs.Greeting.{IsGreeting, greeting_text}
use Rattle.live_world.proofs.greeting.greeting_of.Goals as goal

-- what is not unfiltered has filters
filtered : (b : Bool) (P : Type 0) → (b ≡ true) ↔ P → (not b ≡ false) ↔ P
filtered true P h = (λ e. h.0 refl, λ p. refl)
filtered false P h = (λ e. absurd (cc), λ p. let no = h.1 p in absurd (cc))

pub returns : goal.returns
returns c =
    IfOk-weaker c.text_of.result _ (λ text. IsGreeting c.args.file c.args.built.now c.args.workers (string_bytes text)) (λ text is. record {
      settled = c.is_settled-settled.result;
      settles = c.is_settled-settled.ensures;
      filters = not c.is_unfiltered-unfiltered.result;
      filtered = filtered c.is_unfiltered-unfiltered.result _ c.is_unfiltered-unfiltered.ensures;
      same = is ∙ ap₂ (λ digest systems. greeting_text digest systems c.args.workers c.is_settled-settled.result (not c.is_unfiltered-unfiltered.result)) c.hex_of.ensures c.count.ensures;
    }) c.text_of.ensures
