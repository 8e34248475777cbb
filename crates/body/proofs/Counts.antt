-- Commands count on from what was passed over before.
use Rattle.std.proofs.Common.{◌≡◌, ℕ, suc, ◌+◌, Bool, true, false, cond, List, [], ◌∷◌, min, refl, ap, ◌∙◌, arith}
use Rattle.model.specs.Lists.{update_at}
use Rattle.model.specs.declared.entities.Entity.{Entity}
use Rattle.model.specs.state.State.{Slot, most_passed_over}
use Rattle.model.specs.state.Commands.{CommandTarget, is_alive, if_alive, apply_command, apply_buffer}
use Rattle.model.specs.shown.Outcome.{Command}
use Rattle.model.specs.shown.Outcome.Command.{Spawn, Insert, Remove, Despawn}

-- a target with so many more passed over, cut at the greatest count
abbrev pub counted_on : ℕ → CommandTarget → CommandTarget
counted_on before target = record { slots = target.slots; passed_over = min (before + target.passed_over) most_passed_over }

one_more : (p n : ℕ) → min (suc (min (p + n) most_passed_over)) most_passed_over ≡ min (p + min (suc n) most_passed_over) most_passed_over
one_more p n = omega arith

alive_on : (p : ℕ) (e : Entity) (f : Slot → Slot) (target : CommandTarget) → if_alive e f (counted_on p target) ≡ counted_on p (if_alive e f target)
alive_on p e f target = go (is_alive target.slots e)
  where
    go : (b : Bool) →
        cond b (let t : CommandTarget = record { slots = update_at e.index f target.slots; passed_over = min (p + target.passed_over) most_passed_over } in t)
        (record { slots = target.slots; passed_over = min (suc (min (p + target.passed_over) most_passed_over)) most_passed_over })
        ≡ counted_on p (cond b (let t : CommandTarget = record { slots = update_at e.index f target.slots; passed_over = target.passed_over } in t)
        (record { slots = target.slots; passed_over = min (suc target.passed_over) most_passed_over }))
    go true = refl
    go false = ap (λ n. let t : CommandTarget = record { slots = target.slots; passed_over = n } in t) (one_more p target.passed_over)

command_on : (p tick : ℕ) (command : Command) (target : CommandTarget) → apply_command tick (counted_on p target) command ≡ counted_on p (apply_command tick target command)
command_on p tick (Spawn e) target = refl
command_on p tick (Insert e kind words) target = alive_on p e _ target
command_on p tick (Remove e kind) target = alive_on p e _ target
command_on p tick (Despawn e) target = alive_on p e _ target

-- what commands leave is what they leave where nothing was passed over, with what was counted on
pub buffer_on : (p tick : ℕ) (commands : List Command) (target : CommandTarget) → apply_buffer tick (counted_on p target) commands ≡ counted_on p (apply_buffer tick target commands)
buffer_on p tick [] target = refl
buffer_on p tick (command ∷ commands) target =
    ap (λ t. apply_buffer tick t commands) (command_on p tick command target) ∙ buffer_on p tick commands (apply_command tick target command)
